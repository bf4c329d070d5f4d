-- Laws of `first_index`.
--     first_index-most, first_index-passes, first_index-fails  what stands at the first index, and before it
--     first_index-unique      the index at which p passes and before which it fails is the first
--     first_index-none        where none passes it is the length, and only there
-- Assumes nothing.
use mathlib.Core.Path.{◌≡◌, refl, sym, ap, ◌∙◌}
use mathlib.Core.Logic.{◌⊎◌, inl, inr, ◌↔◌}
use mathlib.Core.Bool.{Bool, true, false, cond, true≢false}
use mathlib.Core.List.{List, [], ◌∷◌}
use mathlib.Core.List.Memᴰ
use Prim.Native.Nat.{ℕ, zero, suc, ◌<◌, ◌≤◌}
use native.Mathlib.Omega.{arith}
use lib.ListN.{length, get_or}
use Rattle.counts.specs.Count.{◌∈◌, first_index}

module _ {A : Type 0} (p : A → Bool) (d : A) where
  pub first_index-most : (xs : List A) → first_index p xs ≤ length xs
  unfolding first_index
  first_index-most [] = omega arith
  first_index-most (x ∷ xs) = go (p x) (first_index-most xs)
    where
      go : (b : Bool) → first_index p xs ≤ length xs → cond b 0 (suc (first_index p xs)) ≤ length (x ∷ xs)
      go true h = omega arith
      go false h = omega arith

  pub first_index-passes : (xs : List A) → first_index p xs < length xs → p (get_or xs (first_index p xs) d) ≡ true
  unfolding first_index
  first_index-passes [] l = absurd (omega arith)
  first_index-passes (x ∷ xs) l = go (p x) refl (λ h. first_index-passes xs h) l
    where
      go : (b : Bool) → p x ≡ b → (first_index p xs < length xs → p (get_or xs (first_index p xs) d) ≡ true)
          → cond b 0 (suc (first_index p xs)) < length (x ∷ xs)
          → p (get_or (x ∷ xs) (cond b 0 (suc (first_index p xs))) d) ≡ true
      go true e ih h = e
      go false e ih h = ih (omega arith)

  pub first_index-fails : (xs : List A) (i : ℕ) → i < first_index p xs → p (get_or xs i d) ≡ false
  unfolding first_index
  first_index-fails [] i l = absurd (omega arith)
  first_index-fails (x ∷ xs) i l = go (p x) refl i (λ j h. first_index-fails xs j h) l
    where
      go : (b : Bool) → p x ≡ b → (i : ℕ) → ((j : ℕ) → j < first_index p xs → p (get_or xs j d) ≡ false)
          → i < cond b 0 (suc (first_index p xs)) → p (get_or (x ∷ xs) i d) ≡ false
      go true e i ih h = absurd (omega arith)
      go false e zero ih h = e
      go false e (suc j) ih h = ih j (omega arith)

  pub first_index-unique : (xs : List A) (i : ℕ) → i < length xs → p (get_or xs i d) ≡ true
      → ((j : ℕ) → j < i → p (get_or xs j d) ≡ false) → i ≡ first_index p xs
  unfolding first_index
  first_index-unique [] i l t h = absurd (omega arith)
  first_index-unique (x ∷ xs) i l t h = go i (p x) refl l t h (λ j. first_index-unique xs j)
    where
      go : (i : ℕ) (b : Bool) → p x ≡ b → i < length (x ∷ xs) → p (get_or (x ∷ xs) i d) ≡ true
          → ((j : ℕ) → j < i → p (get_or (x ∷ xs) j d) ≡ false)
          → ((j : ℕ) → j < length xs → p (get_or xs j d) ≡ true
          → ((k : ℕ) → k < j → p (get_or xs k d) ≡ false) → j ≡ first_index p xs)
          → i ≡ cond b 0 (suc (first_index p xs))
      go zero true e l t h ih = refl
      go zero false e l t h ih = absurd (true≢false (sym t ∙ e))
      go (suc i) true e l t h ih = absurd (true≢false (sym e ∙ h 0 (omega arith)))
      go (suc i) false e l t h ih = ap suc (ih i (omega arith) t (λ k m. h (suc k) (omega arith)))

  pub first_index-none : (xs : List A) → (first_index p xs ≡ length xs) ↔ ((x : A) → x ∈ xs → p x ≡ false)
  unfolding first_index
  first_index-none [] = ((λ e x m. absurd (Memᴰ.not-nil m)), (λ h. refl))
  first_index-none (y ∷ ys) = let ih = first_index-none ys in (to ih, from ih)
    where
      to : (first_index p ys ≡ length ys) ↔ ((x : A) → x ∈ ys → p x ≡ false)
          → cond (p y) 0 (suc (first_index p ys)) ≡ length (y ∷ ys) → (x : A) → x ∈ y ∷ ys → p x ≡ false
      to ih e x m = go (p y) refl e (Memᴰ.cases_cons m)
        where
          go : (b : Bool) → p y ≡ b → cond b 0 (suc (first_index p ys)) ≡ length (y ∷ ys) → (x ≡ y) ⊎ (x ∈ ys)
              → p x ≡ false
          go true g e h = absurd (omega arith)
          go false g e (inl h) = ap p h ∙ g
          go false g e (inr k) = ih.0 (omega arith) x k

      from : (first_index p ys ≡ length ys) ↔ ((x : A) → x ∈ ys → p x ≡ false)
          → ((x : A) → x ∈ y ∷ ys → p x ≡ false) → cond (p y) 0 (suc (first_index p ys)) ≡ length (y ∷ ys)
      from ih h = rw (h y (Memᴰ.head refl)) (ap suc (ih.1 (λ x m. h x (Memᴰ.tail m))))
