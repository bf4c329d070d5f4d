-- The card's rules by the floats' values: what the tests of specs/Cards.antt mean. `HasValue x s a c` is that x is a
-- number, negative where s is true, and a / c in size.
--     factor-rule    a rate or a gain is 2 ^ k / 256 for a k from 0 to 16
--     pin-rule       a pin is n / 256 for an n from 1 to 65,536 times 256
--     zero-rule      a zero is n / 256 or -n / 256 for an n up to that
-- Assumes nothing.
use Rattle.std.proofs.Common.{◌≡◌, ℕ, ◌^◌, ◌<◌, ◌≤◌, Bool, true, false, ◌↔◌, ℤ, pos, negsuc, neg_ℤ, nat_abs, refl, ap}
use Rattle.std.proofs.Common.{◌∙◌, zero-le, pow_pos, eq-eqb, le-leb, leb-true}
use mathlib.Core.Bool.{false≢true}
use lib.Signed.{non_neg, le_z}
use lib.Ieee.{Float}
use lib.Ieee.Exact.{HasValue}
use Rattle.counts.specs.Count.{listed}
use Rattle.counts.proofs.TestLaws.{and_intro}
use Rattle.counts.proofs.HighestLaws.{any-member}
use Rattle.counts.proofs.ListedLaws.{mem-listed}
use Rattle.gauge.specs.Values.{size, has_minus, units}
use Rattle.gauge.specs.Cards.{powers, is_power, is_factor, most, is_pin, is_zero}
use Rattle.gauge.proofs.ExactLaws.{value-multiple, value-size, value-minus, multiple-value, positive-value}
use Rattle.gauge.proofs.RangeLaws.{is_near, zero-near, zero-most}
use Rattle.gauge.proofs.CardLaws.{factor-is, From, from_is, is-from}

value-units : (n : ℕ) (x : Float) → HasValue x false n 256 → units x ≡ pos n
unfolding units
value-units n x v = rw (value-size false n x v, value-minus false n x v)

pub factor-rule : (x : Float) → (is_factor x ≡ true) ↔ ((k : ℕ) × (k < powers) × HasValue x false (2 ^ k) 256)
unfolding is_factor
factor-rule x = (there, back)
  where
    there : is_factor x ≡ true → (k : ℕ) × (k < powers) × HasValue x false (2 ^ k) 256
    there h =
        let f = factor-is x h in
        (f.power, f.least, positive-value x (2 ^ f.power) f.multiple f.is (pow_pos f.power))

    back : (k : ℕ) × (k < powers) × HasValue x false (2 ^ k) 256 → is_factor x ≡ true
    back w =
        let k = w.0 in
        let is = value-units (2 ^ k) x w.2 in
        let power = eq-eqb (nat_abs (units x)) (2 ^ k) (ap nat_abs is) in
        and_intro (and_intro (value-multiple false (2 ^ k) x w.2) (ap non_neg is))
        ((any-member (is_power (nat_abs (units x))) (listed (λ i. i) 0 powers)).1
        (k, mem-listed (λ i. i) 0 powers k zero-le w.1, power))

pub pin-rule : (x : Float) → (is_pin x ≡ true) ↔ ((n : ℕ) × (1 ≤ n) × (n ≤ 16777216) × HasValue x false n 256)
pin-rule x = (there, back)
  where
    there : is_pin x ≡ true → (n : ℕ) × (1 ≤ n) × (n ≤ 16777216) × HasValue x false n 256
    there h = let f = from_is (pos 1) most x h in go f (units x) refl f.low f.high
      where
        go : From (pos 1) most x → (z : ℤ) → units x ≡ z → le_z (pos 1) z ≡ true → le_z z most ≡ true
            → (n : ℕ) × (1 ≤ n) × (n ≤ 16777216) × HasValue x false n 256
        go f (pos n) e l h =
            let some = leb-true 1 n l in
            (n, some, leb-true n 16777216 h, positive-value x n f.multiple e some)
        go f (negsuc n) e l h = absurd (false≢true l)

    back : (n : ℕ) × (1 ≤ n) × (n ≤ 16777216) × HasValue x false n 256 → is_pin x ≡ true
    back w =
        let n = w.0 in
        let is = value-units n x w.3 in
        is-from (record {
          multiple = value-multiple false n x w.3;
          low = ap (le_z (pos 1)) is ∙ le-leb 1 n w.1;
          high = ap (λ z. le_z z most) is ∙ le-leb n 16777216 w.2;
        })

pub zero-rule : (x : Float) → (is_zero x ≡ true) ↔ ((s : Bool) × (n : ℕ) × (n ≤ 16777216) × HasValue x s n 256)
unfolding is_near
zero-rule x = (there, back)
  where
    there : is_zero x ≡ true → (s : Bool) × (n : ℕ) × (n ≤ 16777216) × HasValue x s n 256
    there h = (has_minus x, size x, zero-most x h, multiple-value x (from_is (neg_ℤ most) most x h).multiple)

    back : (s : Bool) × (n : ℕ) × (n ≤ 16777216) × HasValue x s n 256 → is_zero x ≡ true
    back w =
        let v = w.3 in
        zero-near x ∙ and_intro (value-multiple w.0 w.1 x v)
        (le-leb (size x) 16777216 (rw (value-size w.0 w.1 x v) w.2))
