-- The card's rules as the code tests them: over how many 256ths a float is, where it is a zero's multiple of 1/256.
--     Factor x, factor-is, factor-most    what a rate or a gain is: 2 ^ k 256ths, for a k below 17
--     From a b x, from_is, is-from    what a multiple from a to b is
--     pin_some, pin_none         a pin is in the range of a zero, so the test of its count is the rule
--     factor_some, factor_below, factor_none    and so with a rate or a gain
-- Assumes nothing.
use Rattle.std.proofs.Common.{◌≡◌, ℕ, ◌^◌, ◌<◌, ◌≤◌, Bool, true, false, cond, ◌&&◌, ℤ, pos, negsuc, neg_ℤ, nat_abs, sym}
use Rattle.std.proofs.Common.{refl, ap, ◌∙◌, true≢false, zero-le, le_trans, arith, lit≤, pow_mono, ltb-true, eqb-true}
use Rattle.std.proofs.Common.{le-leb}
use mathlib.Core.Bool.{false≢true}
use lib.Signed.{non_neg, le_z}
use lib.Ieee.{Float}
use Rattle.counts.specs.Count.{any, listed}
use Rattle.counts.specs.Scan.{first_from, any_place}
use Rattle.counts.proofs.PlaceLaws.{any_place_is}
use Rattle.std.specs.Prelude.{Some, None}
use Rattle.std.specs.Option.{unwrap_or, is_some}
use Rattle.counts.proofs.TestLaws.{and-true, and_intro, same_test, is_false}
use Rattle.counts.proofs.ScanLaws.{any-first, first_from-passes}
use Rattle.gauge.specs.Values.{is_multiple, units}
use Rattle.gauge.specs.Cards.{powers, is_power, is_factor, most, is_from, is_pin, is_zero}
use Rattle.gauge.specs.Steps.{count_of}

pub record Factor (x : Float) : Type 0 where
  pub multiple : is_multiple x ≡ true
  pub power : ℕ
  pub least : power < powers
  pub is : units x ≡ pos (2 ^ power)

abbrev some_power : ℕ → Bool
some_power n = any (is_power n) (listed (λ k. k) 0 powers)

pub factor-is : (x : Float) → is_factor x ≡ true → Factor x
unfolding is_factor
factor-is x h =
    let p = is_power (nat_abs (units x)) in
    let w = and-true (is_multiple x && non_neg (units x)) (some_power (nat_abs (units x))) h in
    let v = and-true (is_multiple x) (non_neg (units x)) w.0 in
    let k = first_from p (λ i. i) 0 powers in
    let l : k < powers = ltb-true k powers (sym (any-first p (λ i. i) powers) ∙ w.1) in
    record {
      multiple = v.0;
      power = k;
      least = l;
      is = positive (units x) v.1 ∙ ap pos (eqb-true _ _ (first_from-passes p (λ i. i) 0 powers zero-le l));
    }
  where
    positive : (z : ℤ) → non_neg z ≡ true → z ≡ pos (nat_abs z)
    positive (pos n) h = refl
    positive (negsuc n) h = absurd (false≢true h)

pub record From (a b : ℤ) (x : Float) : Type 0 where
  pub multiple : is_multiple x ≡ true
  pub low : le_z a (units x) ≡ true
  pub high : le_z (units x) b ≡ true

pub from_is : (a b : ℤ) (x : Float) → is_from a b x ≡ true → From a b x
unfolding is_from
from_is a b x h =
    let w = and-true (is_multiple x && le_z a (units x)) (le_z (units x) b) h in
    let v = and-true (is_multiple x) (le_z a (units x)) w.0 in
    record { multiple = v.0; low = v.1; high = w.1 }

pub is-from : {a b : ℤ} {x : Float} → From a b x → is_from a b x ≡ true
unfolding is_from
is-from f = and_intro (and_intro f.multiple f.low) f.high

pub factor-most : {x : Float} (f : Factor x) → 2 ^ f.power ≤ 65536
factor-most f = le_trans (pow_mono {i = f.power} {j = 16} (omega (arith, f.least))) (lit≤ tt)

factor-range : {x : Float} → Factor x → From (neg_ℤ most) most x
factor-range f =
    let small = le-leb (2 ^ f.power) 16777216 (omega (arith, factor-most f)) in
    record { multiple = f.multiple; low = rw f.is; high = rw f.is small }

pin-range : {x : Float} → From (pos 1) most x → From (neg_ℤ most) most x
pin-range {x} f = record { multiple = f.multiple; low = above (units x) f.low; high = f.high }
  where
    above : (z : ℤ) → le_z (pos 1) z ≡ true → le_z (neg_ℤ most) z ≡ true
    above (pos n) h = refl
    above (negsuc n) h = absurd (false≢true h)

-- ---- n is what `count_of` answers of x

module _ (x : Float) (n : ℤ) (e : count_of x ≡ Some n) where
  counted : (is_zero x ≡ true) × (units x ≡ n)
  unfolding count_of
  counted = go (is_zero x) refl e
    where
      go : (b : Bool) → is_zero x ≡ b → cond b (Some (units x)) None ≡ Some n → (is_zero x ≡ true) × (units x ≡ n)
      go true h g = (h, ap (λ o. unwrap_or o n) g)
      go false h g = absurd (false≢true (ap is_some g))

  in-range : From (neg_ℤ most) most x
  in-range = from_is (neg_ℤ most) most x counted.0

  pub pin_some : le_z (pos 1) n ≡ is_pin x
  pin_some = same_test _ _ there back
    where
      there : le_z (pos 1) n ≡ true → is_pin x ≡ true
      there h =
          let f = in-range in
          is-from (record { multiple = f.multiple; low = ap (le_z (pos 1)) counted.1 ∙ h; high = f.high })

      back : is_pin x ≡ true → le_z (pos 1) n ≡ true
      back h = ap (le_z (pos 1)) (sym counted.1) ∙ (from_is (pos 1) most x h).low

  -- no count below zero is a rate's
  pub factor_below : le_z (pos 0) n ≡ false → is_factor x ≡ false
  factor_below h =
      is_false (is_factor x)
      (λ t. let f = factor-is x t in
      true≢false (sym (le-leb 0 (2 ^ f.power) zero-le) ∙ ap (le_z (pos 0)) (sym f.is ∙ counted.1) ∙ h))

  pub factor_some : le_z (pos 0) n ≡ true → any_place (is_power (nat_abs n)) (λ k. k) powers ≡ is_factor x
  unfolding is_factor
  factor_some h =
      any_place_is (is_power (nat_abs n)) (λ k. k) powers
      ∙ ap (λ z. some_power (nat_abs z)) (sym counted.1)
      ∙ sym (rw (in-range.multiple, positive (units x) (ap (le_z (pos 0)) counted.1 ∙ h)) refl)
    where
      positive : (z : ℤ) → le_z (pos 0) z ≡ true → non_neg z ≡ true
      positive (pos n) h = refl
      positive (negsuc n) h = absurd (false≢true h)

module _ (x : Float) (e : count_of x ≡ None) where
  uncounted : is_zero x ≡ false
  unfolding count_of
  uncounted = go (is_zero x) e
    where
      go : (b : Bool) → cond b (Some (units x)) None ≡ None → b ≡ false
      go true g = absurd (true≢false (ap is_some g))
      go false g = refl

  pub pin_none : is_pin x ≡ false
  pin_none =
      is_false (is_pin x)
      (λ h. true≢false (sym (is-from (pin-range (from_is (pos 1) most x h))) ∙ uncounted))

  pub factor_none : is_factor x ≡ false
  factor_none =
      is_false (is_factor x) (λ h. true≢false (sym (is-from (factor-range (factor-is x h))) ∙ uncounted))
