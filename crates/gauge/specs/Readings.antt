-- A sample's reading by a card (document 01, "Gauges"). Pressures are in 256ths.
--     pressure c n     "Sample times rate, or sample times gain minus zero"
--     row z            "the pressure with its fraction dropped towards zero"
--     at_pin c n       22: "spring: the sample is negative, or the pressure is at or past the pin"
--     refusal c n      21, 22, 23, "in that order"; 0 where the sample is read
--     number_of e      the number of each refusal
--     Gauged           a sample's reading, or the refusal
--     refusal_number g  the refusal's number, 0 for none
--     handed g         the reading; where refused, "pressure (positive zero) and row are then zero"
--     answered c n z   z where the sample is read, 0 where it is refused
--     Sampled c n k p m    what is handed back: the refusal's number, and "the exact pressure as a float beside the
--                      grid row", both zero where the sample is refused
--     Gauges c n g     so it is of g
-- Assumes nothing.
use Rattle.std.specs.Prelude.{◌≡◌, ℕ, Bool, false, cond, not, ◌||◌, ℤ, pos, ◌-ℤ◌, ◌*ℤ◌, ◌==◌, int_div, int_le, int_lt}
use Rattle.std.specs.Prelude.{Float, Result, Ok, Err}
use Rattle.std.specs.Float.{fin}
use Rattle.grid.specs.Coordinates.{on_grid}
use Rattle.gauge.specs.declared.Card.{Card}
use Rattle.gauge.specs.declared.Card.TheVariants.{Spring, Bridge}
use Rattle.gauge.specs.declared.Reading.{Reading}
use Rattle.gauge.specs.declared.GaugeRefusal.{GaugeRefusal}
use Rattle.gauge.specs.declared.GaugeRefusal.TheVariants.{BrokenRule, AtPin, OffGrid}
use Rattle.gauge.specs.Values.{units, Exactly}
use Rattle.gauge.specs.Cards.{sound}

unfoldable pub pressure : Card → ℤ → ℤ
unfolding units
pressure (Spring rate pin) n = n *ℤ units rate
pressure (Bridge gain zero) n = n *ℤ units gain -ℤ units zero

unfoldable pub row : ℤ → ℤ
row z = int_div z (pos 256)

unfoldable pub at_pin : Card → ℤ → Bool
unfolding units pressure
at_pin (Spring rate pin) n = int_lt n (pos 0) || int_le (units pin) (pressure (Spring rate pin) n)
at_pin (Bridge gain zero) n = false

unfoldable pub refusal : Card → ℤ → ℕ
unfolding sound at_pin pressure row
refusal c n = cond (not (sound c)) 21 (cond (at_pin c n) 22 (cond (not (on_grid (row (pressure c n)))) 23 0))

abbrev pub number_of : GaugeRefusal → ℕ
number_of BrokenRule = 21
number_of AtPin = 22
number_of OffGrid = 23

abbrev pub Gauged : Type 0
Gauged = Result Reading GaugeRefusal

abbrev pub refusal_number : Gauged → ℕ
refusal_number (Ok r) = 0
refusal_number (Err e) = number_of e

abbrev pub handed : Gauged → Reading
handed (Ok r) = r
handed (Err e) = record { pressure = fin false 0 (pos 0); row = pos 0 }

abbrev pub answered : Card → ℤ → ℤ → ℤ
answered c n z = cond (refusal c n == 0) z (pos 0)

pub record Sampled (c : Card) (n : ℤ) (k : ℕ) (p : Float) (m : ℤ) : Type 0 where
  pub number : k ≡ refusal c n
  pub exact : Exactly p (answered c n (pressure c n))
  pub place : m ≡ answered c n (row (pressure c n))

abbrev pub Gauges : Card → ℤ → Gauged → Type 0
Gauges c n g = Sampled c n (refusal_number g) (handed g).pressure (handed g).row
