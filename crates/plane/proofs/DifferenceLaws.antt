-- Integers as differences of two natural numbers: sums, differences and products are taken in ℕ, and so is the sign.
--     diff m n          m less n
--     diff-same         what is equal crosswise is one integer
--     diff-neg                         of one, turned about
--     diff-add, diff-sub, diff-mul     of two differences
--     diff-mag                         it is no larger than what it is the difference of
--     diff-positive, diff-negative, diff-zero     the sign is the order of m and n
-- Assumes nothing.
use mathlib.Core.Path.{◌≡◌, refl, sym, ap, ◌∙◌, subst}
use mathlib.Core.Logic.{◌↔◌}
use mathlib.Core.Bool.{Bool, true, false, cond}
use Prim.Native.Nat.{ℕ, zero, suc, ◌+◌, ◌-◌, ◌*◌, ◌<◌}
use native.Mathlib.Omega.{arith}
use lib.Dec.{ltb}
use lib.IntN.{ℤ, pos, negsuc, neg_ℤ, ◌+ℤ◌, ◌-ℤ◌, ◌*ℤ◌}
use lib.Signed.{mag, lt_z}
use borrow.Author.Tests.{ltb-true, ltb-false, lt-ltb, le-ltb}

abbrev pub diff : ℕ → ℕ → ℤ
diff m n = pos m -ℤ pos n

-- every integer is its top less its low, and one of the two is 0
abbrev top : ℤ → ℕ
top (pos n) = n
top (negsuc n) = 0

abbrev low : ℤ → ℕ
low (pos n) = 0
low (negsuc n) = suc n

-- z is m less n, said in ℕ
abbrev Is : ℤ → ℕ → ℕ → Type 0
Is z m n = m + low z ≡ top z + n

-- diff m n is m less n
is-diff : (m n : ℕ) → Is (diff m n) m n
is-diff m zero = omega arith
is-diff m (suc n) = by_order (ltb m (suc n)) refl
  where
    by_order : (b : Bool) → ltb m (suc n) ≡ b → Is (cond b (negsuc (suc n - suc m)) (pos (m - suc n))) m (suc n)
    by_order true e = omega (arith, ltb-true m (suc n) e)
    by_order false e = omega (arith, ltb-false m (suc n) e)

-- and nothing else is
is-only : (z : ℤ) (m n : ℕ) → Is z m n → diff m n ≡ z
is-only (pos d) m zero e = ap pos (omega arith)
is-only (pos d) m (suc n) e = rw (le-ltb m (suc n) (omega arith)) (ap pos (omega arith))
is-only (negsuc d) m zero e = absurd (omega arith)
is-only (negsuc d) m (suc n) e = rw (lt-ltb m (suc n) (omega arith)) (ap negsuc (omega arith))

is-neg : (z : ℤ) (m n : ℕ) → Is z m n → Is (neg_ℤ z) n m
is-neg (pos zero) m n e = omega arith
is-neg (pos (suc d)) m n e = omega arith
is-neg (negsuc d) m n e = omega arith

-- the sum and the product of two integers, by their signs: each is what their parts say
sum-parts : (z w : ℤ) → Is (z +ℤ w) (top z + top w) (low z + low w)
sum-parts (pos a) (pos b) = omega arith
sum-parts (pos a) (negsuc b) = omega (arith, is-diff a (suc b))
sum-parts (negsuc a) (pos b) = omega (arith, is-diff b (suc a))
sum-parts (negsuc a) (negsuc b) = omega arith

product-parts : (z w : ℤ) → Is (z *ℤ w) (top z * top w + low z * low w) (top z * low w + low z * top w)
product-parts (pos a) (pos b) = omega arith
product-parts (pos a) (negsuc b) =
    omega (arith, is-neg (pos (a * suc b)) (a * suc b) 0 (omega arith))
product-parts (negsuc a) (pos b) =
    omega (arith, is-neg (pos (suc a * b)) (suc a * b) 0 (omega arith))
product-parts (negsuc a) (negsuc b) = omega arith

-- and so for every two numbers that they are the difference of
is-add : (z w : ℤ) (m n k l : ℕ) → Is z m n → Is w k l → Is (z +ℤ w) (m + k) (n + l)
is-add z w m n k l e f = omega (arith, sum-parts z w)

is_mul : (z w : ℤ) (m n k l : ℕ) → Is z m n → Is w k l → Is (z *ℤ w) (m * k + n * l) (m * l + n * k)
is_mul z w m n k l e f =
    crosswise (top z) (low z) (top w) (low w) (top (z *ℤ w)) (low (z *ℤ w)) e f (product-parts z w)
  where
    crosswise : (a b c d g h : ℕ) → m + b ≡ a + n → k + d ≡ c + l → a * c + b * d + h ≡ g + (a * d + b * c)
        → m * k + n * l + h ≡ g + (m * l + n * k)
    crosswise a b c d g h e f q =
        omega (arith, ap (λ x. x * k) e, ap (λ x. x * l) e, ap (λ x. a * x) f, ap (λ x. b * x) f)

pub diff-same : (m n k l : ℕ) → m + l ≡ k + n → diff m n ≡ diff k l
diff-same m n k l e = is-only (diff k l) m n (omega (arith, is-diff k l))

pub diff-neg : (m n : ℕ) → neg_ℤ (diff m n) ≡ diff n m
diff-neg m n = sym (is-only (neg_ℤ (diff m n)) n m (is-neg (diff m n) m n (is-diff m n)))

pub diff-add : (m n k l : ℕ) → diff m n +ℤ diff k l ≡ diff (m + k) (n + l)
diff-add m n k l =
    let e = is-add (diff m n) (diff k l) m n k l (is-diff m n) (is-diff k l) in
    sym (is-only (diff m n +ℤ diff k l) (m + k) (n + l) e)

pub diff-sub : (m n k l : ℕ) → diff m n -ℤ diff k l ≡ diff (m + l) (n + k)
diff-sub m n k l =
    let turned = is-neg (diff k l) k l (is-diff k l) in
    let e = is-add (diff m n) (neg_ℤ (diff k l)) m n l k (is-diff m n) turned in
    sym (is-only (diff m n -ℤ diff k l) (m + l) (n + k) e)

pub diff-mul : (m n k l : ℕ) → diff m n *ℤ diff k l ≡ diff (m * k + n * l) (m * l + n * k)
diff-mul m n k l =
    let e = is_mul (diff m n) (diff k l) m n k l (is-diff m n) (is-diff k l) in
    sym (is-only (diff m n *ℤ diff k l) (m * k + n * l) (m * l + n * k) e)

pub diff-mag : (m n b : ℕ) → m < b → n < b → mag (diff m n) < b
diff-mag m n b h k = go (diff m n) (is-diff m n)
  where
    go : (z : ℤ) → Is z m n → mag z < b
    go (pos d) e = omega arith
    go (negsuc d) e = omega arith

-- the order of two numbers is known from their difference
ltb-same : (m n k l : ℕ) → m + l ≡ k + n → ltb m n ≡ ltb k l
ltb-same m n k l e = by_order (ltb k l) refl
  where
    by_order : (b : Bool) → ltb k l ≡ b → ltb m n ≡ b
    by_order true f = lt-ltb m n (omega (arith, ltb-true k l f))
    by_order false f = le-ltb m n (omega (arith, ltb-false k l f))

positive-parts : (z : ℤ) → lt_z (pos 0) z ≡ ltb (low z) (top z)
positive-parts (pos n) = refl
positive-parts (negsuc n) = sym (le-ltb (suc n) 0 (omega arith))

negative-parts : (z : ℤ) → lt_z z (pos 0) ≡ ltb (top z) (low z)
negative-parts (pos n) = refl
negative-parts (negsuc n) = sym (lt-ltb 0 (suc n) (omega arith))

pub diff-positive : (m n : ℕ) → lt_z (pos 0) (diff m n) ≡ ltb n m
diff-positive m n =
    positive-parts (diff m n) ∙ ltb-same (low (diff m n)) (top (diff m n)) n m (omega (arith, is-diff m n))

pub diff-negative : (m n : ℕ) → lt_z (diff m n) (pos 0) ≡ ltb m n
diff-negative m n =
    negative-parts (diff m n) ∙ ltb-same (top (diff m n)) (low (diff m n)) m n (omega (arith, is-diff m n))

pub diff-zero : (m n : ℕ) → (diff m n ≡ pos 0) ↔ (m ≡ n)
diff-zero m n = (onward, λ e. is-only (pos 0) m n (omega arith))
  where
    onward : diff m n ≡ pos 0 → m ≡ n
    onward e =
        let level : Is (pos 0) m n = subst (λ z. Is z m n) e (is-diff m n) in
        omega arith
