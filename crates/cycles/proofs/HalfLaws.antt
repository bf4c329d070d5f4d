-- The least of the halves of some records, as the code finds it.
--     first_half-low      no more than the first number, and than each half of each record
--     first_half-some     the first number, or a half of a record
--     place_known         what stands among places of records is one
--     half_next, half_end from record t on, by that record and those after it; at the end
-- Assumes nothing.
use mathlib.Core.Path.{◌≡◌, refl, ◌∙◌}
use mathlib.Core.Logic.{◌⊎◌, inl, inr, ⊎_elim}
use mathlib.Core.List.Memᴰ
use mathlib.Core.List.{List, [], ◌∷◌}
use Prim.Native.Nat.{ℕ, ◌+◌, ◌≤◌, ◌<◌, min}
use native.Mathlib.Numerals.{add-one}
use native.Mathlib.Omega.{arith}
use lib.IntN.{ℤ}
use lib.ListN.{length, get_or, drop, drop_of_length-le}
use lib.Seq.{drop-cons}
use Rattle.counts.specs.Count.{◌∈◌}
use Rattle.counts.proofs.TestLaws.{lt-or-le}
use Rattle.record.specs.Records.{record_count}
use Rattle.walks.specs.Ways.{way_back}
use Rattle.cycles.specs.Steps.{Places, first_half}

-- ---- the lesser of two

lesser-one : (i j : ℕ) → (min i j ≡ i) ⊎ (min i j ≡ j)
lesser-one i j = ⊎_elim (λ l. inl (omega arith)) (λ l. inr (omega arith)) (lt-or-le i j)

-- ---- of some records

module _ (s : List ℤ) where
  pub first_half-low : (f : ℕ) (js : List ℕ)
      → (first_half s f js ≤ f) × ((j : ℕ) → j ∈ js → (first_half s f js ≤ j) × (first_half s f js ≤ way_back s j))
  unfolding first_half
  first_half-low f [] = (omega arith, λ j m. absurd (Memᴰ.not-nil m))
  first_half-low f (i ∷ js) =
      let b = way_back s i in
      let ih = first_half-low (min (min f i) b) js in (
        omega (arith, ih.0),
        λ j m.
            ⊎_elim (λ e. rw e (omega (arith, ih.0), omega (arith, ih.0))) (λ k. ih.1 j k)
            (Memᴰ.cases_cons m),
      )

  pub first_half-some : (f : ℕ) (js : List ℕ)
      → (first_half s f js ≡ f) ⊎ ((j : ℕ) × (j ∈ js) × ((first_half s f js ≡ j) ⊎ (first_half s f js ≡ way_back s j)))
  unfolding first_half
  first_half-some f [] = inl refl
  first_half-some f (i ∷ js) =
      ⊎_elim (λ e. first e (lesser-one (min f i) (way_back s i)) (lesser-one f i))
      (λ h. inr (h.0, Memᴰ.tail h.1, h.2))
      (first_half-some (min (min f i) (way_back s i)) js)
    where
      first : {x : ℕ} → x ≡ min (min f i) (way_back s i)
          → (min (min f i) (way_back s i) ≡ min f i) ⊎ (min (min f i) (way_back s i) ≡ way_back s i)
          → (min f i ≡ f) ⊎ (min f i ≡ i)
          → (x ≡ f) ⊎ ((j : ℕ) × (j ∈ i ∷ js) × ((x ≡ j) ⊎ (x ≡ way_back s j)))
      first e (inl g) (inl h) = inl (e ∙ g ∙ h)
      first e (inl g) (inr h) = inr (i, Memᴰ.head refl, inl (e ∙ g ∙ h))
      first e (inr g) h = inr (i, Memᴰ.head refl, inr (e ∙ g))

-- ---- the loop

pub place_known : {s : List ℤ} {js : List ℕ} {t : ℕ} → Places s js → t < length js → get_or js t 0 < record_count s
place_known {t = t} h l = h.known t l

module _ (s : List ℤ) (js : List ℕ) where
  pub half_next : (f t : ℕ) → t < length js
      → first_half s f (drop t js)
      ≡ first_half s (min (min f (get_or js t 0)) (way_back s (get_or js t 0))) (drop (t + 1) js)
  unfolding first_half
  half_next f t l = rw (drop-cons js t 0 l, add-one t) refl

  pub half_end : (f t : ℕ) → length js ≤ t → first_half s f (drop t js) ≡ f
  unfolding first_half
  half_end f t l = rw (drop_of_length-le js {i = t} l) refl
