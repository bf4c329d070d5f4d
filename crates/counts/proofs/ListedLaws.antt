-- Laws of `listed`: a list by its places.
--     listed-snoc                one place more is one member more, at the end
--     listed-length, listed_at   how long it is, and what stands at a place
--     listed-mem, mem-listed     a member stands at some place, and what stands at a place is a member
-- Assumes nothing.
use mathlib.Core.Path.{◌≡◌, refl, sym, ap, ◌∙◌}
use mathlib.Core.Logic.{◌⊎◌, inl, inr}
use mathlib.Core.List.{[], ◌∷◌, ◌++◌}
use mathlib.Core.List.Memᴰ
use Prim.Native.Nat.{ℕ, zero, suc, ◌+◌, ◌<◌, ◌≤◌}
use native.Mathlib.Nat.{add-zero, eq-or-lt_of_le}
use native.Mathlib.Omega.{arith}
use lib.ListN.{length, get_or}
use Rattle.counts.specs.Count.{◌∈◌, listed}

module _ {A : Type 0} (f : ℕ → A) where
  pub listed-snoc : (a k : ℕ) → listed f a (suc k) ≡ listed f a k ++ (f (a + k) ∷ [])
  unfolding listed
  listed-snoc a zero = rw add-zero
  listed-snoc a (suc k) =
      ap (λ l. f a ∷ l) (listed-snoc (suc a) k ∙ ap (λ n. listed f (suc a) k ++ (f n ∷ [])) (omega arith))

  pub listed-length : (a k : ℕ) → length (listed f a k) ≡ k
  unfolding listed
  listed-length a zero = refl
  listed-length a (suc k) = ap suc (listed-length (suc a) k)

  pub listed_at : (d : A) (a k i : ℕ) → i < k → get_or (listed f a k) i d ≡ f (a + i)
  unfolding listed
  listed_at d a zero i l = absurd (omega arith)
  listed_at d a (suc k) zero l = rw add-zero
  listed_at d a (suc k) (suc i) l = listed_at d (suc a) k i (omega arith) ∙ ap f (omega arith)

  pub listed-mem : (a k : ℕ) (x : A) → x ∈ listed f a k → (i : ℕ) × (a ≤ i) × (i < a + k) × (x ≡ f i)
  unfolding listed
  listed-mem a zero x m = absurd (Memᴰ.not-nil m)
  listed-mem a (suc k) x m = go (Memᴰ.cases_cons m) (λ n. listed-mem (suc a) k x n)
    where
      go : (x ≡ f a) ⊎ (x ∈ listed f (suc a) k)
          → (x ∈ listed f (suc a) k → (i : ℕ) × (suc a ≤ i) × (i < suc a + k) × (x ≡ f i))
          → (i : ℕ) × (a ≤ i) × (i < a + suc k) × (x ≡ f i)
      go (inl e) ih = (a, omega arith, omega arith, e)
      go (inr n) ih =
          let r = ih n in
          (r.0, omega arith, omega arith, r.3)

  pub mem-listed : (a k i : ℕ) → a ≤ i → i < a + k → f i ∈ listed f a k
  unfolding listed
  mem-listed a zero i l h = absurd (omega arith)
  mem-listed a (suc k) i l h = go (eq-or-lt_of_le l) (λ g. mem-listed (suc a) k i g (omega arith))
    where
      go : (a ≡ i) ⊎ (suc a ≤ i) → (suc a ≤ i → f i ∈ listed f (suc a) k) → f i ∈ f a ∷ listed f (suc a) k
      go (inl e) ih = Memᴰ.head (ap f (sym e))
      go (inr g) ih = Memᴰ.tail (ih g)
