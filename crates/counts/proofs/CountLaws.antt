-- Laws of `count`, `keep`, `all` and `any` over any list and any test.
--     count-ext, count-off, count-some, count-le       by the members
--     count-append, count-split, count_most            of two lists, of one cut at an index,
--                                                      and no more than the length
--     count-keep, count-keep-le, any-keep, keep-mem, mem-keep    counts under a filter
--     all-is, any-is                                   the tests are what they say
--     count-any                                        where at most one passes, the number is whether one does
-- Assumes nothing.
use mathlib.Core.Path.{◌≡◌, refl, sym, ap, ◌∙◌}
use mathlib.Core.Logic.{◌⊎◌, inl, inr, ◌↔◌, ⊎_elim}
use mathlib.Core.Bool.{Bool, true, false, ◌&&◌, ◌||◌, cond, true≢false}
use mathlib.Core.List.{List, [], ◌∷◌, ◌++◌}
use mathlib.Core.List.Memᴰ
use Prim.Native.Nat.{ℕ, ◌+◌, ◌<◌, ◌≤◌}
use lib.ListN.{length, take, drop, take-append-drop}
use native.Mathlib.Omega.{arith}
use Rattle.counts.specs.Count.{◌∈◌, ind, sum, count, keep, all, any}
use Rattle.counts.proofs.TestLaws.{and-true, lt-or-le}
use Rattle.counts.proofs.SumLaws.{sum-ext, sum-le, sum-zero, sum-append}

module _ {A : Type 0} where
  -- ---- by the members

  pub count-ext : (p q : A → Bool) (xs : List A) → ((x : A) → x ∈ xs → p x ≡ q x) → count p xs ≡ count q xs
  count-ext p q xs h = sum-ext _ _ xs (λ x m. ap ind (h x m))

  pub count-off : (p : A → Bool) (xs : List A) → ((x : A) → x ∈ xs → p x ≡ false) → count p xs ≡ 0
  count-off p xs h = sum-ext _ _ xs (λ x m. ap ind (h x m)) ∙ sum-zero xs

  pub count-some : (p : A → Bool) (xs : List A) (x : A) → x ∈ xs → p x ≡ true → 0 < count p xs
  unfolding sum
  count-some p (y ∷ ys) x (Memᴰ.head e) t = omega (arith, ap (λ z. ind (p z)) e, ap ind t)
  count-some p (y ∷ ys) x (Memᴰ.tail m) t = omega (arith, count-some p ys x m t)
  count-some p [] x x4 t = elim x4 [ ]

  -- whatever passes p passes q
  pub count-le : (p q : A → Bool) (xs : List A) → ((x : A) → x ∈ xs → p x ≡ true → q x ≡ true) → count p xs ≤ count q xs
  count-le p q xs h = sum-le _ _ xs (λ x m. go x m (p x) (q x) refl refl)
    where
      go : (x : A) → x ∈ xs → (a b : Bool) → p x ≡ a → q x ≡ b → ind a ≤ ind b
      go x m true true e g = omega arith
      go x m true false e g = absurd (true≢false (sym (h x m e) ∙ g))
      go x m false b e g = omega arith

  pub count_most : (p : A → Bool) (xs : List A) → count p xs ≤ length xs
  unfolding sum
  count_most p [] = omega arith
  count_most p (x ∷ xs) = go (p x) (count_most p xs)
    where
      go : (b : Bool) → count p xs ≤ length xs → ind b + count p xs ≤ length (x ∷ xs)
      go true h = omega arith
      go false h = omega arith

  -- ---- of two lists, and of one cut at an index

  pub count-append : (p : A → Bool) (xs ys : List A) → count p (xs ++ ys) ≡ count p xs + count p ys
  count-append p = sum-append (λ x. ind (p x))

  pub count-split : (p : A → Bool) (i : ℕ) (xs : List A) → count p xs ≡ count p (take i xs) + count p (drop i xs)
  count-split p i xs = ap (count p) (sym (take-append-drop i xs)) ∙ count-append p (take i xs) (drop i xs)

  -- ---- under a filter

  pub count-keep : (p q : A → Bool) (xs : List A) → count q (keep p xs) ≡ count (λ x. p x && q x) xs
  unfolding sum keep
  count-keep p q [] = refl
  count-keep p q (x ∷ xs) = go (p x) (count-keep p q xs)
    where
      go : (a : Bool) → count q (keep p xs) ≡ count (λ x. p x && q x) xs
          → count q (cond a (x ∷ keep p xs) (keep p xs)) ≡ ind (a && q x) + count (λ y. p y && q y) xs
      go true ih = ap (λ n. ind (q x) + n) ih
      go false ih = omega arith

  pub count-keep-le : (p q : A → Bool) (xs : List A) → count q (keep p xs) ≤ count q xs
  count-keep-le p q xs =
      omega (arith, count-keep p q xs, count-le (λ x. p x && q x) q xs (λ x m t. (and-true (p x) (q x) t).1))

  pub any-keep : (p q : A → Bool) (xs : List A) → any q (keep p xs) ≡ any (λ x. p x && q x) xs
  unfolding any keep
  any-keep p q [] = refl
  any-keep p q (x ∷ xs) = go (p x) (any-keep p q xs)
    where
      go : (a : Bool) → any q (keep p xs) ≡ any (λ x. p x && q x) xs
          → any q (cond a (x ∷ keep p xs) (keep p xs)) ≡ a && q x || any (λ y. p y && q y) xs
      go true ih = ap (λ b. q x || b) ih
      go false ih = ih

  pub keep-mem : (p : A → Bool) (xs : List A) (x : A) → x ∈ keep p xs → (x ∈ xs) × (p x ≡ true)
  unfolding keep
  keep-mem p [] x m = absurd (Memᴰ.not-nil m)
  keep-mem p (y ∷ ys) x m = go (p y) refl (λ k. keep-mem p ys x k) m
    where
      later : (x ∈ ys) × (p x ≡ true) → (x ∈ y ∷ ys) × (p x ≡ true)
      later h = (Memᴰ.tail h.0, h.1)

      first : p y ≡ true → (x ∈ keep p ys → (x ∈ ys) × (p x ≡ true)) → (x ≡ y) ⊎ (x ∈ keep p ys)
          → (x ∈ y ∷ ys) × (p x ≡ true)
      first e ih (inl g) = (Memᴰ.head g, ap p g ∙ e)
      first e ih (inr k) = later (ih k)

      go : (a : Bool) → p y ≡ a → (x ∈ keep p ys → (x ∈ ys) × (p x ≡ true)) → x ∈ cond a (y ∷ keep p ys) (keep p ys)
          → (x ∈ y ∷ ys) × (p x ≡ true)
      go true e ih k = first e ih (Memᴰ.cases_cons k)
      go false e ih k = later (ih k)

  pub mem-keep : (p : A → Bool) (xs : List A) (x : A) → x ∈ xs → p x ≡ true → x ∈ keep p xs
  unfolding keep
  mem-keep p (y ∷ ys) x m t = go (p y) refl (Memᴰ.cases_cons m) (λ k. mem-keep p ys x k t)
    where
      go : (a : Bool) → p y ≡ a → (x ≡ y) ⊎ (x ∈ ys) → (x ∈ ys → x ∈ keep p ys) → x ∈ cond a (y ∷ keep p ys) (keep p ys)
      go true e (inl g) ih = Memᴰ.head g
      go true e (inr k) ih = Memᴰ.tail (ih k)
      go false e (inl g) ih = absurd (true≢false (sym t ∙ ap p g ∙ e))
      go false e (inr k) ih = ih k
  mem-keep p [] x m t = elim m [ ]

  -- ---- every member, some member

  pub all-is : (p : A → Bool) (xs : List A) → (all p xs ≡ true) ↔ ((x : A) → x ∈ xs → p x ≡ true)
  unfolding all
  all-is p [] = ((λ e x m. absurd (Memᴰ.not-nil m)), (λ h. refl))
  all-is p (y ∷ ys) = let ih = all-is p ys in (to ih, from ih)
    where
      to : (all p ys ≡ true) ↔ ((x : A) → x ∈ ys → p x ≡ true)
          → p y && all p ys ≡ true → (x : A) → x ∈ y ∷ ys → p x ≡ true
      to ih e x m = go (and-true _ _ e) (Memᴰ.cases_cons m)
        where
          go : (p y ≡ true) × (all p ys ≡ true) → (x ≡ y) ⊎ (x ∈ ys) → p x ≡ true
          go h (inl g) = ap p g ∙ h.0
          go h (inr k) = ih.0 h.1 x k

      from : (all p ys ≡ true) ↔ ((x : A) → x ∈ ys → p x ≡ true)
          → ((x : A) → x ∈ y ∷ ys → p x ≡ true) → p y && all p ys ≡ true
      from ih h = rw (h y (Memᴰ.head refl)) (ih.1 (λ x m. h x (Memᴰ.tail m)))

  pub any-is : (p : A → Bool) (xs : List A) → (any p xs ≡ true) ↔ (0 < count p xs)
  unfolding any sum
  any-is p [] = ((λ e. absurd (true≢false (sym e))), (λ h. absurd (omega arith)))
  any-is p (y ∷ ys) = go (p y) (any-is p ys)
    where
      go : (b : Bool) → (any p ys ≡ true) ↔ (0 < count p ys) → (b || any p ys ≡ true) ↔ (0 < ind b + count p ys)
      go true ih = ((λ e. omega arith), (λ h. refl))
      go false ih = ((λ e. omega (arith, ih.0 e)), (λ h. ih.1 (omega arith)))

  pub count-any : (p : A → Bool) (xs : List A) → count p xs ≤ 1 → count p xs ≡ ind (any p xs)
  count-any p xs most = go (any p xs) (any-is p xs)
    where
      go : (b : Bool) → (b ≡ true) ↔ (0 < count p xs) → count p xs ≡ ind b
      go true h = omega (arith, h.0 refl)
      go false h = ⊎_elim (λ l. absurd (true≢false (sym (h.1 l)))) (λ l. omega arith) (lt-or-le 0 (count p xs))
