-- In which order cycles and faces are numbered, in a region and in the lists of it (specs/Lists.antt).
--     number-one         records of one cycle have one cycle number
--     number-halves      the records of one cycle number are those of one cycle
--     number-order       a cycle whose first record comes earlier has the lesser number
--     number-first       the first record of a cycle is the least of its number
--     outers-all         as many cycles are listed as outer as there are faces
--     outers-before      the face of an outer cycle is the number of outer cycles listed before it
--     face-below, outer-exists     every cycle's face is one of those, and has an outer cycle
-- Assumes nothing.
use mathlib.Core.Path.{◌≡◌, sym, ap, ◌∙◌, subst}
use mathlib.Core.Logic.{◌↔◌}
use mathlib.Core.Bool.{Bool, true, cond}
use mathlib.Core.List.{List}
use Prim.Native.Nat.{ℕ, ◌+◌, ◌*◌, ◌<◌, ◌≤◌}
use native.Mathlib.Omega.{arith}
use lib.Dec.{eqb}
use lib.IntN.{ℤ}
use lib.ListN.{get_or}
use borrow.Author.Tests.{eqb-true, eq-eqb}
use Rattle.counts.specs.Count.{◌∈◌, count, places}
use Rattle.counts.proofs.TestLaws.{and-true, and_intro}
use Rattle.counts.proofs.ShareLaws.{count-rises}
use Rattle.record.specs.Records.{record_count}
use Rattle.chart.specs.Regions.{Region}
use Rattle.walks.specs.Cycles.{cycle_of, halves, first_of, is_first, cycle_number}
use Rattle.walks.specs.Faces.{is_outer, first_outer, face_number, face_of}
use Rattle.walks.proofs.CycleLaws.{halves-self, halves-same}
use Rattle.walks.proofs.FirstRecordLaws.{first-half, first-least, first-less, first-first, first-same}
use Rattle.walks.proofs.NumberLaws.{number_same, number-less}
use Rattle.walks.proofs.OneOuterLaws.{outer-found}
use Rattle.walks.proofs.FaceLaws.{face-outer, face-less}
use Rattle.faces.proofs.OutcomeLaws.{Told}
use Rattle.counts.proofs.CountedPlaceLaws.{count-reaches, count-through}
use Rattle.faces.proofs.CycleListLaws.{label_at, kind_at, face-at, kind-told, cycle-first}

-- ---- cycles

module _ {s : List ℤ} (region : Region s) where
  pub number-one : (i j : ℕ) → i < record_count s → j < record_count s → cycle_of s j ≡ cycle_of s i
      → cycle_number s j ≡ cycle_number s i
  unfolding cycle_number
  number-one i j l h e = ap (λ f. count (is_first s) (places f)) (first-same region i j l h e)

  pub number-halves : (i j : ℕ) → i < record_count s → j < record_count s
      → (cycle_number s j ≡ cycle_number s i) ↔ (j ∈ halves s (cycle_of s i))
  number-halves i j l h = (
    λ e. subst (λ c. j ∈ halves s c) (number_same region j i h l e) (halves-self region j h),
    λ m. number-one i j l h (halves-same region i j l m),
  )

  pub number-order : (i j : ℕ) → i < record_count s → first_of s i < first_of s j → cycle_number s i < cycle_number s j
  unfolding cycle_number
  number-order i j l h =
      count-rises (is_first s) (first_of s i) (first_of s j) h
      (eq-eqb (first_of s (first_of s i)) (first_of s i) (first-first region i l))

  pub number-first : (i : ℕ) → i < record_count s
      → (first_of s i < record_count s) × (cycle_number s (first_of s i) ≡ cycle_number s i)
      × ((j : ℕ) → j < record_count s → cycle_number s j ≡ cycle_number s i → first_of s i ≤ j)
  number-first i l =
      let f = first-less region i l in (
        f,
        (number-halves i (first_of s i) l f).1 (first-half region i l),
        λ j h e. first-least region i j l ((number-halves i j l h).0 e),
      )

  -- ---- faces

  face-first : (i : ℕ) → i < record_count s → first_outer s i ≡ true → face_of s i ≡ face_number s i
  face-first i l t =
      let w = and-true (is_first s i) (is_outer s i) t in
      let found = outer-found region i l w.1 ∙ eqb-true (first_of s i) i w.0 in
      face-outer region i l (omega (arith, found)) ∙ ap (face_number s) found

module _ {s : List ℤ} {labels cycles labels' cycles' : List ℕ} {m k : ℕ}
    (told : Told s labels cycles labels' cycles' m k) where
  -- the cycle c is listed as outer
  abbrev outer : ℕ → Bool
  outer c = eqb (get_or cycles' (2 * c) 0) 0

  first-listed : (i : ℕ) → i < record_count s → outer (cycle_number s i) ≡ is_outer s i
  first-listed i l = ap outer (sym (label_at told i l)) ∙ sym (kind-told told i l).0

  -- before a first record there are as many as its cycle's number
  before-first : (i : ℕ) → is_first s i ≡ true → count (is_first s) (places i) ≡ cycle_number s i
  unfolding cycle_number
  before-first i t = ap (λ f. count (is_first s) (places f)) (sym (eqb-true (first_of s i) i t))

  -- of the cycles whose first record is before record i
  so_far : (i : ℕ) → i ≤ record_count s → count outer (places (count (is_first s) (places i))) ≡ face_number s i
  unfolding face_number
  so_far i l =
      count-through (is_first s) outer (is_outer s) i
      (λ j h t. ap outer (before-first j t) ∙ first-listed j (omega arith))

  pub outers-all : count outer (places m) ≡ k
  unfolding face_number
  outers-all =
      ap (λ n. count outer (places n)) told.many ∙ so_far (record_count s) (omega arith) ∙ sym told.bounded

  module _ (c : ℕ) (l : c < m) where
    -- by its first record
    told-by : (i : ℕ) × (i < record_count s) × (is_first s i ≡ true) × (cycle_number s i ≡ c)
    told-by = cycle-first told c l

    face-told : get_or cycles' (2 * c + 1) 0 ≡ face_of s told-by.0
    face-told =
        ap (λ c. get_or cycles' (2 * c + 1) 0) (sym told-by.3) ∙ face-at told told-by.0 told-by.1

    pub outers-before : get_or cycles' (2 * c) 0 ≡ 0 → get_or cycles' (2 * c + 1) 0 ≡ count outer (places c)
    outers-before e =
        let i = told-by.0 in
        let h = told-by.1 in
        let out : is_outer s i ≡ true =
        sym (first-listed i h) ∙ ap outer told-by.3 ∙ ap (λ n. eqb n 0) e
        in
        face-told
        ∙ face-first told.region i h (and_intro told-by.2 out)
        ∙ sym (so_far i (omega (arith, h)))
        ∙ ap (λ n. count outer (places n)) (before-first i told-by.2 ∙ told-by.3)

    pub face-below : get_or cycles' (2 * c + 1) 0 < k
    face-below = omega (arith, face-told, face-less told.region told-by.0 told-by.1, told.bounded)

    pub outer-exists : (o : ℕ) × (o < m) × (get_or cycles' (2 * o) 0 ≡ 0)
        × (get_or cycles' (2 * o + 1) 0 ≡ get_or cycles' (2 * c + 1) 0)
    unfolding face_number
    outer-exists =
        let f = face_of s told-by.0 in
        let w = count-reaches (first_outer s) (record_count s) f (face-less told.region told-by.0 told-by.1) in
        let o = w.0 in (
          cycle_number s o,
          omega (arith, number-less told.region o w.1, told.many),
          kind_at told o w.1 ∙ ap (λ b. cond b 0 1) (and-true (is_first s o) (is_outer s o) w.2).1,
          face-at told o w.1 ∙ face-first told.region o w.1 w.2 ∙ w.3 ∙ sym face-told,
        )
