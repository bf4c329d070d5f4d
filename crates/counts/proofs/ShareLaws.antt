-- Sums and counts of one at most, and the places of what is counted. Generic.
--     sum-some                 where a sum is more than none, so is one of its terms
--     sum_one                  where a sum is one at most, of two members with some one is the other
--     sum-map                  what is summed of the images is summed of the members
--     count-two                where two places pass, two are counted at least
--     count-before             before the first that passes none does
--     mem-counted, counted-mem, mem-any, any-mem     a number is a member of a list exactly if it is counted there, and
--                              exactly if some member is it
--     count-rises              of two places, if the earlier passes, more are counted as far as the later
-- Assumes nothing.
use mathlib.Core.Path.{◌≡◌, refl, ap, ◌∙◌}
use mathlib.Core.Logic.{◌⊎◌, inl, inr}
use mathlib.Core.Bool.{Bool, true, false, cond}
use mathlib.Core.List.Memᴰ
use mathlib.Core.List.{List, [], ◌∷◌, map}
use Prim.Native.Nat.{ℕ, zero, suc, ◌+◌, ◌<◌, ◌≤◌}
use native.Mathlib.Nat.{zero-add}
use native.Mathlib.Omega.{arith}
use lib.Dec.{eqb}
use lib.ListN.{length, get_or, take}
use borrow.Author.Tests.{eqb-true, eq-eqb}
use Rattle.counts.specs.Count.{◌∈◌, ind, sum, count, any, first_index, listed}
use Rattle.counts.proofs.TestLaws.{lt-or-le}
use Rattle.counts.proofs.SumLaws.{sum-member}
use Rattle.counts.proofs.CountLaws.{count-some, count-append, any-is}
use Rattle.counts.proofs.HighestLaws.{any-member}
use Rattle.counts.proofs.ListedLaws.{listed-snoc}

module _ {A : Type 0} (f : A → ℕ) where
  pub sum-some : (xs : List A) → 0 < sum f xs → (x : A) × (x ∈ xs) × (0 < f x)
  unfolding sum
  sum-some [] h = absurd (omega arith)
  sum-some (x ∷ xs) h = go (lt-or-le 0 (f x)) (sum-some xs)
    where
      go : (0 < f x) ⊎ (f x ≤ 0) → (0 < sum f xs → (y : A) × (y ∈ xs) × (0 < f y)) → (y : A) × (y ∈ x ∷ xs) × (0 < f y)
      go (inl l) ih = (x, Memᴰ.head refl, l)
      go (inr l) ih = let w = ih (omega arith) in (w.0, Memᴰ.tail w.1, w.2)

  pub sum_one : (xs : List A) → sum f xs ≤ 1 → (x y : A) → x ∈ xs → y ∈ xs → 0 < f x → 0 < f y → x ≡ y
  unfolding sum
  sum_one (z ∷ zs) h x y m n l g = go (Memᴰ.cases_cons m) (Memᴰ.cases_cons n)
      (λ a b. sum_one zs (omega arith) x y a b l g)
    where
      go : (x ≡ z) ⊎ (x ∈ zs) → (y ≡ z) ⊎ (y ∈ zs) → (x ∈ zs → y ∈ zs → x ≡ y) → x ≡ y
      go (inl a) (inl b) ih = rw (a, b) refl
      go (inl a) (inr b) ih = absurd (omega (arith, ap f a, sum-member f zs y b))
      go (inr a) (inl b) ih = absurd (omega (arith, ap f b, sum-member f zs x a))
      go (inr a) (inr b) ih = ih a b
  sum_one [] h x y m n l g = elim m [ ]

pub sum-map : {A B : Type 0} (f : A → B) (v : B → ℕ) (xs : List A) → sum v (map f xs) ≡ sum (λ x. v (f x)) xs
unfolding sum
sum-map f v [] = refl
sum-map f v (x ∷ xs) = ap (λ n. v (f x) + n) (sum-map f v xs)

module _ {A : Type 0} (p : A → Bool) where
  count-one : (d : A) (xs : List A) (k : ℕ) → k < length xs → p (get_or xs k d) ≡ true → 1 ≤ count p xs
  unfolding sum
  count-one d [] k l t = absurd (omega arith)
  count-one d (x ∷ xs) zero l t = omega (arith, ap ind t)
  count-one d (x ∷ xs) (suc k) l t = omega (arith, count-one d xs k (omega arith) t)

  pub count-two : (d : A) (xs : List A) (j k : ℕ) → j < k → k < length xs → p (get_or xs j d) ≡ true
      → p (get_or xs k d) ≡ true → 2 ≤ count p xs
  unfolding sum
  count-two d [] j k g l t u = absurd (omega arith)
  count-two d (x ∷ xs) j zero g l t u = absurd (omega arith)
  count-two d (x ∷ xs) zero (suc k) g l t u = omega (arith, ap ind t, count-one d xs k (omega arith) u)
  count-two d (x ∷ xs) (suc j) (suc k) g l t u = omega (arith, count-two d xs j k (omega arith) (omega arith) t u)

  pub count-before : (xs : List A) → count p (take (first_index p xs) xs) ≡ 0
  unfolding sum first_index
  count-before [] = refl
  count-before (x ∷ xs) = go (p x) refl (count-before xs)
    where
      go : (b : Bool) → p x ≡ b → count p (take (first_index p xs) xs) ≡ 0
          → count p (take (cond b 0 (suc (first_index p xs))) (x ∷ xs)) ≡ 0
      go true e ih = refl
      go false e ih = omega (arith, ap ind e)

-- ---- a number among others

pub mem-counted : (j : ℕ) (js : List ℕ) → j ∈ js → 0 < count (eqb j) js
mem-counted j js m = count-some (eqb j) js j m (eq-eqb j j refl)

pub mem-any : (j : ℕ) (js : List ℕ) → j ∈ js → any (eqb j) js ≡ true
mem-any j js m = (any-is (eqb j) js).1 (mem-counted j js m)

pub any-mem : (j : ℕ) (js : List ℕ) → any (eqb j) js ≡ true → j ∈ js
any-mem j js e = let w = (any-member (eqb j) js).0 e in Memᴰ.cast (eqb-true j w.0 w.2) w.1

pub counted-mem : (j : ℕ) (js : List ℕ) → 0 < count (eqb j) js → j ∈ js
counted-mem j js h = any-mem j js ((any-is (eqb j) js).1 h)

-- ---- as far as a place

pub count-rises : (p : ℕ → Bool) (a b : ℕ) → a < b → p a ≡ true
    → count p (listed (λ i. i) 0 a) < count p (listed (λ i. i) 0 b)
unfolding sum
count-rises p a zero l t = absurd (omega arith)
count-rises p a (suc b) l t = go (lt-or-le a b) (λ g. count-rises p a b g t)
  where
    at : (n : ℕ) → count p (listed (λ i. i) 0 (suc n)) ≡ count p (listed (λ i. i) 0 n) + ind (p n)
    at n =
        ap (count p) (listed-snoc (λ i. i) 0 n)
        ∙ count-append p (listed (λ i. i) 0 n) ((0 + n) ∷ [])
        ∙ omega (arith, ap (λ k. ind (p k)) (zero-add n))

    go : (a < b) ⊎ (b ≤ a) → (a < b → count p (listed (λ i. i) 0 a) < count p (listed (λ i. i) 0 b))
        → count p (listed (λ i. i) 0 a) < count p (listed (λ i. i) 0 (suc b))
    go (inl g) ih = omega (arith, ih g, at b)
    go (inr g) ih =
        let e : b ≡ a = omega arith in
        omega (arith, at b, ap (λ k. ind (p k)) e, ap ind t, ap (λ k. count p (listed (λ i. i) 0 k)) e)
