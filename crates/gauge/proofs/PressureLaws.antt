-- The pressure by the floats' own operations is exact.
--     factor-exactly        a rate or a gain is exactly its 256ths
--     pin-exactly           and so is a pin
--     product-exactly       a sample times a rate or a gain is exact
--     difference-exactly    and so is that less a zero
--     product_small, difference-small    how few 256ths these are
-- Assumes nothing.
use Rattle.std.proofs.Common.{◌≡◌, ℕ, zero, suc, ◌+◌, ◌-◌, ◌*◌, ◌^◌, ◌<◌, ◌≤◌, Bool, true, false, cond, not, ◌&&◌, ltb}
use Rattle.std.proofs.Common.{ℤ, pos, negsuc, ◌-ℤ◌, ◌*ℤ◌, neg_ℤ, nat_abs, sym, refl, ap, ◌∙◌, subst, mul-le-mul}
use Rattle.std.proofs.Common.{mul-pos, arith, lit<, pow_pos, ltb-false, ltb-true, le-ltb, lt-ltb, leb-true}
use mathlib.Core.Bool.{false≢true}
use lib.IntN.{sub_ℕ}
use lib.Signed.{non_neg, mag, le_z}
use lib.Ieee.{Float, binary64, fits, mul, sub, sum, round, of_int}
use lib.Ieee.Back.{round_whole}
use Rattle.gauge.specs.Values.{size, has_minus, signed, units, Exactly}
use Rattle.gauge.specs.Cards.{most, is_zero}
use Rattle.gauge.proofs.FloatLaws.{mul-value, sub-value}
use Rattle.gauge.proofs.ExactLaws.{float_of, float-exactly, multiple-value, positive-value}
use Rattle.gauge.proofs.RangeLaws.{zero-most}
use Rattle.gauge.proofs.CardLaws.{Factor, factor-most, From, from_is}

-- ---- a rate, a gain and a pin are exactly their 256ths

pub factor-exactly : {x : Float} (f : Factor x) → fits binary64 x ≡ true → Exactly x (pos (2 ^ f.power))
factor-exactly {x} f h =
    record { held = h; value = positive-value x (2 ^ f.power) f.multiple f.is (pow_pos f.power) }

pub pin-exactly : {x : Float} → From (pos 1) most x → fits binary64 x ≡ true → Exactly x (units x)
pin-exactly {x} f h = go (units x) refl f.low
  where
    go : (z : ℤ) → units x ≡ z → le_z (pos 1) z ≡ true → Exactly x (units x)
    go (pos n) e l =
        subst (Exactly x) (sym e) (record { held = h; value = positive-value x n f.multiple e (leb-true 1 n l) })
    go (negsuc n) e l = absurd (false≢true l)

-- ---- the product

abs_neg : (n : ℕ) → nat_abs (neg_ℤ (pos n)) ≡ n
abs_neg zero = refl
abs_neg (suc n) = refl

product-size : (n : ℤ) (u : ℕ) → mag n < 32768 → u ≤ 65536 → nat_abs (n *ℤ pos u) ≤ 2147483648
product-size (pos n) u k h = mul-le-mul {n₁ = n} {m₁ = u} {n₂ = 32768} {m₂ = 65536} (omega arith) h
product-size (negsuc n) u k h =
    rw (abs_neg (suc n * u)) (mul-le-mul {n₁ = suc n} {m₁ = u} {n₂ = 32768} {m₂ = 65536} k h)

product-float : {x : Float} (n : ℤ) (u : ℕ) → mag n < 32768 → 0 < u → Exactly x (pos u)
    → mul binary64 (of_int binary64 n) x ≡ float_of (n *ℤ pos u)
unfolding of_int float_of
product-float {x} (pos n) u k p e =
    mul-value false false n 1 u 256 (lit< tt) (lit< tt) binary64 (round binary64 false n 1) x
    (round_whole binary64 false n (omega arith)) e.value
product-float {x} (negsuc n) u k p e =
    mul-value true false (suc n) 1 u 256 (lit< tt) (lit< tt) binary64 (round binary64 true (suc n) 1) x
    (round_whole binary64 true (suc n) (omega arith)) e.value
    ∙ sym (below (suc n * u) (mul-pos {m = suc n} (omega arith) p))
  where
    none : 0 < 0 → ⊥
    none h = omega arith

    below : (k : ℕ) → 0 < k → float_of (neg_ℤ (pos k)) ≡ round binary64 true k 256
    below zero h = absurd (none h)
    below (suc k) h = refl

module _ {x : Float} (n : ℤ) (k : mag n < 32768) (f : Factor x) where
  pub product_small : nat_abs (n *ℤ units x) ≤ 2147483648
  product_small = rw f.is (product-size n (2 ^ f.power) k (factor-most f))

  pub product-exactly : fits binary64 x ≡ true → Exactly (mul binary64 (of_int binary64 n) x) (n *ℤ units x)
  product-exactly h =
      let u = 2 ^ f.power in
      let few = product-size n u k (factor-most f) in
      let float = product-float n u k (pow_pos f.power) (factor-exactly f h) in
      rw (f.is, float) (float-exactly (n *ℤ pos u) (omega (arith, few)))

-- ---- the difference

float_sub : (p q : ℕ)
    → float_of (sub_ℕ p q) ≡ cond (ltb p q) (round binary64 true (q - p) 256) (round binary64 false (p - q) 256)
unfolding float_of
float_sub p q = go (ltb p q) refl
  where
    less : p < q → suc (q - suc p) ≡ q - p
    less h = omega arith

    go : (b : Bool) → ltb p q ≡ b
        → float_of (cond b (negsuc (q - suc p)) (pos (p - q)))
        ≡ cond b (round binary64 true (q - p) 256) (round binary64 false (p - q) 256)
    go true e = ap (λ n. round binary64 true n 256) (less (ltb-true p q e))
    go false e = refl

same : (s : Bool) (a b : ℕ) → a ≡ b → round binary64 s a 256 ≡ round binary64 s b 256
same s a b e = ap (λ n. round binary64 s n 256) e

sum-float : (z : ℤ) (t : Bool) (b : ℕ)
    → sum binary64 (not (non_neg z)) (nat_abs z) (not t) b 256 ≡ float_of (z -ℤ signed t b)
unfolding sum float_of
sum-float (pos a) false zero = rw (le-ltb a 0 (omega arith)) (same false (a - 0) (a + 0) (omega arith))
sum-float (pos a) false (suc k) = sym (float_sub a (suc k))
sum-float (pos a) true zero = refl
sum-float (pos a) true (suc k) = refl
sum-float (negsuc a) false zero =
    same true (suc a + 0) (suc a - 0) (omega arith) ∙ sym (float_sub 0 (suc a) ∙ rw (lt-ltb 0 (suc a) (omega arith)))
sum-float (negsuc a) false (suc k) = same true (suc a + suc k) (suc (suc (a + k))) (omega arith)
sum-float (negsuc a) true zero =
    rw (le-ltb (suc a) 0 (omega arith), lt-ltb 0 (suc a) (omega arith))
    (same true (suc a - 0) (suc (suc a - 1)) (omega arith))
sum-float (negsuc a) true (suc k) = go (ltb (suc k) (suc a)) refl ∙ sym (float_sub (suc k) (suc a))
  where
    up : ℕ → ℕ → Float
    up p q = round binary64 false (p - q) 256

    flip : (b : Bool) → ltb (suc a) (suc k) ≡ b → suc a ≤ suc k
        → cond b (up (suc k) (suc a)) (up (suc a) (suc k)) ≡ up (suc k) (suc a)
    flip true e h = refl
    flip false e h = same false (suc a - suc k) (suc k - suc a) (omega (arith, ltb-false (suc a) (suc k) e))

    go : (b : Bool) → ltb (suc k) (suc a) ≡ b
        → cond (ltb (suc a) (suc k)) (up (suc k) (suc a)) (round binary64 (true && b) (suc a - suc k) 256)
        ≡ cond b (round binary64 true (suc a - suc k) 256) (up (suc k) (suc a))
    go true e = rw (le-ltb (suc a) (suc k) (omega (arith, ltb-true (suc k) (suc a) e)))
    go false e = flip (ltb (suc a) (suc k)) refl (ltb-false (suc k) (suc a) e)

-- sizes
abs-sub : (p q : ℕ) → nat_abs (sub_ℕ p q) ≤ p + q
abs-sub p q = go (ltb p q) refl
  where
    go : (b : Bool) → ltb p q ≡ b → nat_abs (cond b (negsuc (q - suc p)) (pos (p - q))) ≤ p + q
    go true e = omega (arith, ltb-true p q e)
    go false e = omega arith

abs-less : (z : ℤ) (t : Bool) (b : ℕ) → nat_abs (z -ℤ signed t b) ≤ nat_abs z + b
abs-less (pos a) false zero = omega arith
abs-less (pos a) false (suc b) = abs-sub a (suc b)
abs-less (pos a) true zero = omega arith
abs-less (pos a) true (suc b) = omega arith
abs-less (negsuc a) false zero = omega (arith, abs-sub 0 (suc a))
abs-less (negsuc a) false (suc b) = omega arith
abs-less (negsuc a) true zero = omega (arith, abs-sub 0 (suc a))
abs-less (negsuc a) true (suc b) = omega (arith, abs-sub (suc b) (suc a))

module _ (y : Float) (z : ℤ) (k : nat_abs z ≤ 2147483648) (f : is_zero y ≡ true) where
  pub difference-small : nat_abs (z -ℤ units y) < 2 ^ 53
  unfolding units
  difference-small = omega (arith, abs-less z (has_minus y) (size y), zero-most y f)

  pub difference-exactly : {x : Float} → Exactly x z → Exactly (sub binary64 x y) (z -ℤ units y)
  unfolding units
  difference-exactly {x} e =
      let v = multiple-value y (from_is (neg_ℤ most) most y f).multiple in
      let s = sub-value (not (non_neg z)) (has_minus y) (nat_abs z) (size y) 256 (lit< tt) binary64 x y e.value v in
      rw (s, sum-float z (has_minus y) (size y)) (float-exactly (z -ℤ units y) difference-small)
