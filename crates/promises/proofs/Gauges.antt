-- What the library promises of gauges, over document 01's rules and for every float, NaNs and infinities too.
--     rate-rule, pin-rule, zero-rule    the card's rules, both ways: a rate or a gain is 2 ^ k / 256 for a k from 0 to
--                        16, a pin n / 256 and a zero n / 256 or -n / 256 for an n in its range. `HasValue x s a c`
--                        (lib.Ieee.Exact): x is a number, negative where s is true, and a / c in size
--     refused-21, refused-22, refused-23    when each refusal is given, both ways
--     read-0             when the sample is read, both ways
--     reading-exact      the pressure of a sample that is read is exactly the sample times rate, or the sample times
--                        gain minus zero, and the row is that with its fraction dropped; it is on the grid
--     reading-refused    where the sample is refused, the pressure is the positive zero and the row 0
--     Breaks x           x breaks the card's rules, wherever it stands
--     nan-breaks, infinity-breaks    so does a NaN, of whatever bit pattern, and an infinity
--     negative-zero      the negative zero may be a zero, and is 0; it is no rate, no gain and no pin
-- Assumes nothing.
use mathlib.Core.Path.{◌≡◌, refl, sym, ap, ◌∙◌, subst}
use mathlib.Core.Logic.{◌↔◌, ◌≢◌}
use mathlib.Core.Bool.{Bool, true, false, cond, not, and-false, true≢false, false≢true}
use Prim.Native.Nat.{ℕ, ◌*◌, ◌^◌, ◌≤◌, ◌<◌}
use native.Mathlib.Omega.{arith}
use lib.Dec.{eqb}
use lib.IntN.{ℤ, pos}
use lib.Ieee.{Float, nan, inf, fin, binary64, nan_bits, of_bits, is_nan}
use lib.Ieee.Bits.{nan_bits_is}
use lib.Ieee.Exact.{HasValue}
use borrow.Author.Tests.{ne_eqb}
use Rattle.counts.specs.Count.{any, listed}
use Rattle.grid.specs.Coordinates.{on_grid}
use Rattle.gauge.specs.declared.Card.{Card}
use Rattle.gauge.specs.declared.Card.TheVariants.{Spring, Bridge}
use Rattle.gauge.specs.Values.{size, is_multiple, has_minus, units, Exactly}
use Rattle.gauge.specs.Cards.{is_factor, is_from, is_pin, is_zero, sound}
use Rattle.gauge.specs.Readings.{pressure, row, at_pin, refusal, Sampled}
use Rattle.gauge.proofs.ExactLaws.{exactly-one, zero-exactly}
use Rattle.gauge.proofs.RuleLaws as rules

-- ---- the card's rules, by the floats' values

pub rate-rule : (x : Float) → (is_factor x ≡ true) ↔ ((k : ℕ) × (k < 17) × HasValue x false (2 ^ k) 256)
rate-rule = rules.factor-rule

pub pin-rule : (x : Float) → (is_pin x ≡ true) ↔ ((n : ℕ) × (1 ≤ n) × (n ≤ 65536 * 256) × HasValue x false n 256)
pin-rule = rules.pin-rule

pub zero-rule : (x : Float) → (is_zero x ≡ true) ↔ ((s : Bool) × (n : ℕ) × (n ≤ 65536 * 256) × HasValue x s n 256)
zero-rule = rules.zero-rule

-- ---- which refusal

-- by the three tests, in the paper's order
abbrev table : Bool → Bool → Bool → ℕ
table s p g = cond (not s) 21 (cond p 22 (cond (not g) 23 0))

module _ (c : Card) (n : ℤ) where
  pub refused-21 : (refusal c n ≡ 21) ↔ (sound c ≡ false)
  unfolding refusal
  refused-21 = go (sound c) (at_pin c n) (on_grid (row (pressure c n)))
    where
      go : (s p g : Bool) → (table s p g ≡ 21) ↔ (s ≡ false)
      go false p g = ((λ e. refl), (λ e. refl))
      go true true g = ((λ e. absurd (omega (arith, e))), (λ e. absurd (true≢false e)))
      go true false true = ((λ e. absurd (omega (arith, e))), (λ e. absurd (true≢false e)))
      go true false false = ((λ e. absurd (omega (arith, e))), (λ e. absurd (true≢false e)))

  pub refused-22 : (refusal c n ≡ 22) ↔ ((sound c ≡ true) × (at_pin c n ≡ true))
  unfolding refusal
  refused-22 = go (sound c) (at_pin c n) (on_grid (row (pressure c n)))
    where
      go : (s p g : Bool) → (table s p g ≡ 22) ↔ ((s ≡ true) × (p ≡ true))
      go false p g = ((λ e. absurd (omega (arith, e))), (λ e. absurd (false≢true e.0)))
      go true true g = ((λ e. (refl, refl)), (λ e. refl))
      go true false true = ((λ e. absurd (omega (arith, e))), (λ e. absurd (false≢true e.1)))
      go true false false = ((λ e. absurd (omega (arith, e))), (λ e. absurd (false≢true e.1)))

  pub refused-23 : (refusal c n ≡ 23)
      ↔ ((sound c ≡ true) × (at_pin c n ≡ false) × (on_grid (row (pressure c n)) ≡ false))
  unfolding refusal
  refused-23 = go (sound c) (at_pin c n) (on_grid (row (pressure c n)))
    where
      go : (s p g : Bool) → (table s p g ≡ 23) ↔ ((s ≡ true) × (p ≡ false) × (g ≡ false))
      go false p g = ((λ e. absurd (omega (arith, e))), (λ e. absurd (false≢true e.0)))
      go true true g = ((λ e. absurd (omega (arith, e))), (λ e. absurd (true≢false e.1)))
      go true false true = ((λ e. absurd (omega (arith, e))), (λ e. absurd (true≢false e.2)))
      go true false false = ((λ e. (refl, refl, refl)), (λ e. refl))

  pub read-0 : (refusal c n ≡ 0)
      ↔ ((sound c ≡ true) × (at_pin c n ≡ false) × (on_grid (row (pressure c n)) ≡ true))
  unfolding refusal
  read-0 = go (sound c) (at_pin c n) (on_grid (row (pressure c n)))
    where
      go : (s p g : Bool) → (table s p g ≡ 0) ↔ ((s ≡ true) × (p ≡ false) × (g ≡ true))
      go false p g = ((λ e. absurd (omega (arith, e))), (λ e. absurd (false≢true e.0)))
      go true true g = ((λ e. absurd (omega (arith, e))), (λ e. absurd (true≢false e.1)))
      go true false true = ((λ e. (refl, refl, refl)), (λ e. refl))
      go true false false = ((λ e. absurd (omega (arith, e))), (λ e. absurd (false≢true e.2)))

-- ---- what is handed back

-- z where the number is that of no refusal
abbrev kept : ℕ → ℤ → ℤ
kept m z = cond (eqb m 0) z (pos 0)

-- k is the refusal's number, p the pressure and m the row: those of `Gauges c n g`, or what a sample leaves with C
module _ {c : Card} {n : ℤ} {k : ℕ} {p : Float} {m : ℤ} (h : Sampled c n k p m) where
  pub reading-exact : k ≡ 0
      → Exactly p (pressure c n) × (m ≡ row (pressure c n)) × (on_grid m ≡ true)
  reading-exact e =
      let none : refusal c n ≡ 0 = sym h.number ∙ e in
      let placed : m ≡ row (pressure c n) = h.place ∙ ap (λ j. kept j (row (pressure c n))) none in (
        subst (λ j. Exactly p (kept j (pressure c n))) none h.exact,
        placed,
        ap on_grid placed ∙ ((read-0 c n).0 none).2,
      )

  pub reading-refused : k ≢ 0 → (p ≡ fin false 0 (pos 0)) × (m ≡ pos 0)
  reading-refused e =
      let some : eqb (refusal c n) 0 ≡ false = ne_eqb (refusal c n) 0 (λ z. e (h.number ∙ z)) in
      let float = subst (λ b. Exactly p (cond b (pressure c n) (pos 0))) some h.exact in
      (exactly-one float zero-exactly, h.place ∙ ap (λ b. cond b (row (pressure c n)) (pos 0)) some)

-- ---- floats that are no numbers, and the negative zero

-- as a rate, a pin, a gain or a zero, whatever the card's other number is
abbrev pub Breaks : Float → Type 0
Breaks x =
    (y : Float)
    → (sound (Spring x y) ≡ false) × (sound (Spring y x) ≡ false)
    × (sound (Bridge x y) ≡ false) × (sound (Bridge y x) ≡ false)

no-multiple : (x : Float) → is_multiple x ≡ false → Breaks x
unfolding sound is_factor is_from
no-multiple x none y = (rw none, rw (none, and-false), rw none, rw (none, and-false))

nan-multiple : (x : Float) → is_nan x ≡ true → is_multiple x ≡ false
unfolding is_nan is_multiple
nan-multiple nan e = refl
nan-multiple (inf s) e = refl
nan-multiple (fin s m d) e = absurd (false≢true e)

pub nan-breaks : (b : ℕ) → nan_bits binary64 b ≡ true → Breaks (of_bits binary64 b)
nan-breaks b e = no-multiple (of_bits binary64 b) (nan-multiple (of_bits binary64 b) (sym (nan_bits_is binary64 b) ∙ e))

pub infinity-breaks : (s : Bool) → Breaks (inf s)
unfolding is_multiple
infinity-breaks s = no-multiple (inf s) refl

pub record NegativeZero (x : Float) : Type 0 where
  pub zero : is_zero x ≡ true
  pub is : units x ≡ pos 0
  pub no-factor : is_factor x ≡ false
  pub no_pin : is_pin x ≡ false

pub negative-zero : NegativeZero (fin true 0 (pos 0))
unfolding is_from is_factor is_multiple units size has_minus any listed
negative-zero = record { zero = refl; is = refl; no-factor = refl; no_pin = refl }
