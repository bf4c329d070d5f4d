-- The laws of the other files over plain variables, their premises spelled as the functions' facts are, a law for each
-- field or clause: so the tactics find them by themselves.
--     product_is, product_value, mul_held         the product of a sample and a factor
--     difference_is, difference_value, sub_held   that less a zero
--     literal_256 and so on    the code's literals
--     near_low, near_high      what the cast to 64 bits asks
--     pin_is, off_is, read_is    the returns of `read_sound`
--     sound_spring, sound_bridge    a sound card, by its kind
-- Assumes nothing.
use Rattle.std.proofs.Common.{◌≡◌, ℕ, Bool, true, false, not, ◌&&◌, T, ℤ, pos, ◌-ℤ◌, ◌*ℤ◌, nat_abs, sym, refl, ap, ◌∙◌}
use Rattle.std.proofs.Common.{w16, w64, SFits, to_z, of_z}
use lib.Signed.{non_neg}
use lib.Ieee.{Float, fin, binary64, fits, le, lt, mul, sub, neg, of_int, of_bits}
use lib.Ieee.Bits.{is_true}
use lib.Ieee.Exact.{HasValue}
use lib.Ieee.Fits.{mul-fits, sub-fits}
use mir.ValLaws.{to_z-of_z}
use Rattle.std.specs.Prelude.{Option, Some, None, Ok, Err}
use Rattle.grid.specs.declared.Coord.{Coord}
use Rattle.grid.specs.Coordinates.{located}
use Rattle.gauge.specs.declared.GaugeRefusal.TheVariants.{AtPin, OffGrid}
use Rattle.gauge.specs.declared.Card.{Card}
use Rattle.gauge.specs.declared.Card.TheVariants.{Spring, Bridge}
use Rattle.gauge.specs.Values.{units, Exactly}
use Rattle.gauge.specs.Cards.{is_factor, is_pin, is_zero, sound}
use Rattle.gauge.specs.Readings.{pressure, row, at_pin, Gauges}
use Rattle.gauge.proofs.RangeLaws.{low, high, Within}
use Rattle.gauge.proofs.CutLaws.{scale, castable}
use Rattle.gauge.proofs.CardLaws.{factor-is}
use Rattle.gauge.proofs.PressureLaws.{product_small, product-exactly, difference-exactly}
use Rattle.gauge.proofs.ReadingLaws.{row-of-pressure, return-22, return-23, return_read}

pub product_is : (n : ℤ) (x : Float) → SFits w16 n → is_factor x ≡ true → fits binary64 x ≡ true
    → Exactly (mul binary64 (of_int binary64 n) x) (n *ℤ units x)
product_is n x s h f = product-exactly n s.sfits (factor-is x h) f

pub difference_is : (n : ℤ) (g y p : Float) → SFits w16 n → is_factor g ≡ true → is_zero y ≡ true
    → Exactly p (n *ℤ units g) → Exactly (sub binary64 p y) (n *ℤ units g -ℤ units y)
difference_is n g y p s h z e = difference-exactly y _ (product_small n s.sfits (factor-is g h)) z e

-- ---- the code's literals, as premises, so that `grind` takes them at a float's bits only

pub literal_256 : (b : ℕ) → b ≡ 0x4070_0000_0000_0000 → of_bits binary64 b ≡ scale
unfolding of_bits
literal_256 b e = ap (of_bits binary64) e

pub literal_65536 : (b : ℕ) → b ≡ 0x40f0_0000_0000_0000 → of_bits binary64 b ≡ high
unfolding of_bits
literal_65536 b e = ap (of_bits binary64) e

pub literal-minus_65536 : (b : ℕ) → b ≡ 0x40f0_0000_0000_0000 → neg (of_bits binary64 b) ≡ low
unfolding of_bits neg
literal-minus_65536 b e = ap (λ n. neg (of_bits binary64 n)) e

-- what the cast asks, a lemma for each of its clauses
pub near_low : (x : Float) → fits binary64 x ≡ true → Within x → T (le (fin true 1 (pos 63)) (mul binary64 x scale))
near_low x h w = (castable x h w).0

pub near_high : (x : Float) → fits binary64 x ≡ true → Within x → T (lt (mul binary64 x scale) (fin false 1 (pos 63)))
near_high x h w = (castable x h w).1

-- ---- the returns of `read_sound`: the sample and the row go through their bits, a is the answer of `is_at_pin` and o
-- that of `of_wide`

module _ (c : Card) (n : ℤ) (f : SFits w16 n) (s : sound c ≡ true) (a : Bool)
    (pin : a ≡ at_pin c (to_z w16 (of_z w16 n))) where
  pin_answered : {b : Bool} → a ≡ b → at_pin c n ≡ b
  pin_answered h = rw (to_z-of_z w16 n f) at (sym pin ∙ h)

  pub pin_is : a ≡ true → Gauges c n (Err AtPin)
  pin_is h = return-22 c n s (pin_answered h)

  module _ (p : Float) (e : Exactly p (pressure c (to_z w16 (of_z w16 n)))) (r : ℤ) (g : SFits w64 r)
      (h : r ≡ row (units p)) (o : Option Coord) (there : o ≡ located (to_z w64 (of_z w64 r))) where
    exact : Exactly p (pressure c n)
    exact = rw (to_z-of_z w16 n f) at e

    found : {w : Option Coord} → o ≡ w → located r ≡ w
    found k = rw (to_z-of_z w64 r g) at (sym there ∙ k)

    pub off_is : a ≡ false → o ≡ None → Gauges c n (Err OffGrid)
    off_is b k = return-23 c n r s (pin_answered b) (row-of-pressure c n r exact h) (found k)

    pub read_is : (d : Coord) → SFits w16 d.v → a ≡ false → o ≡ Some d
        → Gauges c n (Ok (record { pressure = p; row = to_z w16 (of_z w16 d.v) }))
    read_is d l b k =
        rw (to_z-of_z w16 d.v l)
        (return_read c n p r d s (pin_answered b) exact (row-of-pressure c n r exact h) (found k))

-- ---- a lemma for each field of a record that a function promises: `grind` takes the goal apart

pub mul_held : (x y : Float) → fits binary64 (mul binary64 x y) ≡ true
mul_held x y = is_true _ (mul-fits binary64 x y)

pub product_value : (n : ℤ) (x : Float) → SFits w16 n → is_factor x ≡ true → fits binary64 x ≡ true
    → HasValue (mul binary64 (of_int binary64 n) x) (not (non_neg (n *ℤ units x))) (nat_abs (n *ℤ units x)) 256
product_value n x s h f = (product_is n x s h f).value

pub sub_held : (x y : Float) → fits binary64 (sub binary64 x y) ≡ true
sub_held x y = is_true _ (sub-fits binary64 x y)

pub difference_value : (n : ℤ) (g y p : Float) → SFits w16 n → is_factor g ≡ true → is_zero y ≡ true
    → Exactly p (n *ℤ units g)
    → HasValue (sub binary64 p y) (not (non_neg (n *ℤ units g -ℤ units y))) (nat_abs (n *ℤ units g -ℤ units y)) 256
difference_value n g y p s h z e = (difference_is n g y p s h z e).value

-- ---- a sound card, an equation for each variant

pub sound_spring : (a b : Float) → sound (Spring a b) ≡ (is_factor a && is_pin b)
unfolding sound
sound_spring a b = refl

pub sound_bridge : (a b : Float) → sound (Bridge a b) ≡ (is_factor a && is_zero b)
unfolding sound
sound_bridge a b = refl
