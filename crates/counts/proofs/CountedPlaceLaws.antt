-- The places that pass a test, in their order. Generic.
--     keep_at           of those kept, as many come before one as pass before its place
--     count-reaches     as many pass before some place that passes as any number less than all that do
--     count-through     counting the numbers of those places whose number passes is counting the places
-- Assumes nothing.
use mathlib.Core.Path.{◌≡◌, refl, sym, ap, ◌∙◌}
use mathlib.Core.Logic.{◌⊎◌, inl, inr}
use mathlib.Core.Bool.{Bool, true, false, cond, ◌&&◌}
use mathlib.Core.List.{List, ◌∷◌}
use Prim.Native.Nat.{ℕ, zero, suc, ◌+◌, ◌<◌, ◌≤◌}
use native.Mathlib.Nat.{add-zero, zero-add}
use native.Mathlib.Numerals.{add-one, one-add}
use native.Mathlib.Omega.{arith}
use lib.ListN.{get_or}
use Rattle.counts.specs.Count.{ind, sum, count, keep, listed, places}
use Rattle.counts.proofs.TestLaws.{lt-or-le}
use Rattle.counts.proofs.LoopLaws.{count-more}

-- one place more
next_place : (p : ℕ → Bool) (n : ℕ) → count p (places (suc n)) ≡ count p (places n) + ind (p n)
next_place p n = ap (λ k. count p (places k)) (sym (add-one n)) ∙ count-more p (λ i. i) n

module _ (p : ℕ → Bool) where
  from_at : (a n j : ℕ) → j < n → p (a + j) ≡ true
      → get_or (keep p (listed (λ i. i) a n)) (count p (listed (λ i. i) a j)) 0 ≡ a + j
  unfolding listed sum keep
  from_at a zero j l t = absurd (omega arith)
  from_at a (suc n) zero l t =
      ap (λ b. get_or (cond b (a ∷ keep p (listed (λ i. i) (suc a) n)) (keep p (listed (λ i. i) (suc a) n))) 0 0)
      (ap p (sym (add-zero a)) ∙ t)
      ∙ sym (add-zero a)
  from_at a (suc n) (suc j) l t =
      go (p a) (keep p (listed (λ i. i) (suc a) n)) (count p (listed (λ i. i) (suc a) j))
      (from_at (suc a) n j (omega arith) (ap p next ∙ t) ∙ next)
    where
      next : suc a + j ≡ a + suc j
      next = omega arith

      -- k of those kept come before, but for the first
      go : (b : Bool) (is : List ℕ) (k : ℕ) → get_or is k 0 ≡ a + suc j
          → get_or (cond b (a ∷ is) is) (ind b + k) 0 ≡ a + suc j
      go true is k ih = rw one-add ih
      go false is k ih = rw zero-add ih

  pub keep_at : (n j : ℕ) → j < n → p j ≡ true → get_or (keep p (places n)) (count p (places j)) 0 ≡ j
  keep_at n j l t = from_at 0 n j l (ap p (zero-add j) ∙ t) ∙ zero-add j

  pub count-reaches : (n c : ℕ) → c < count p (places n)
      → (i : ℕ) × (i < n) × (p i ≡ true) × (count p (places i) ≡ c)
  unfolding listed sum
  count-reaches zero c l = absurd (omega arith)
  count-reaches (suc n) c l = go (lt-or-le c (count p (places n))) (count-reaches n c)
    where
      go : (c < count p (places n)) ⊎ (count p (places n) ≤ c)
          → (c < count p (places n) → (i : ℕ) × (i < n) × (p i ≡ true) × (count p (places i) ≡ c))
          → (i : ℕ) × (i < suc n) × (p i ≡ true) × (count p (places i) ≡ c)
      go (inl h) ih = let w = ih h in (w.0, omega arith, w.2, w.3)
      go (inr h) ih = last (p n) refl
        where
          last : (b : Bool) → p n ≡ b → (i : ℕ) × (i < suc n) × (p i ≡ true) × (count p (places i) ≡ c)
          last true t = (n, omega arith, t, omega (arith, next_place p n, ap ind t))
          last false t = absurd (omega (arith, next_place p n, ap ind t))

  module _ (q r : ℕ → Bool) where
    through-next : (n : ℕ) → (p n ≡ true → q (count p (places n)) ≡ r n)
        → count q (places (count p (places n))) ≡ count (λ i. p i && r i) (places n)
        → count q (places (count p (places (suc n)))) ≡ count (λ i. p i && r i) (places (suc n))
    through-next n h ih = go (p n) refl
      where
        go : (b : Bool) → p n ≡ b
            → count q (places (count p (places (suc n)))) ≡ count (λ i. p i && r i) (places (suc n))
        go true t =
            ap (λ c. count q (places c)) (next_place p n ∙ ap (λ b. count p (places n) + ind b) t)
            ∙ omega (
              arith,
              count-more q (λ i. i) (count p (places n)),
              ap ind (h t),
              ap (λ b. ind (b && r n)) t,
              next_place (λ i. p i && r i) n,
            )
        go false t =
            ap (λ c. count q (places c))
            (next_place p n ∙ ap (λ b. count p (places n) + ind b) t ∙ add-zero (count p (places n)))
            ∙ omega (arith, ap (λ b. ind (b && r n)) t, next_place (λ i. p i && r i) n)

    pub count-through : (n : ℕ) → ((i : ℕ) → i < n → p i ≡ true → q (count p (places i)) ≡ r i)
        → count q (places (count p (places n))) ≡ count (λ i. p i && r i) (places n)
    unfolding listed sum
    count-through zero h = refl
    count-through (suc n) h =
        through-next n (h n (omega arith)) (count-through n (λ i l. h i (omega arith)))
