-- What the lists of faces and holes have at each record and at each cycle (specs/Lists.antt), where they are written.
--     label_at            at a record, the number of its cycle
--     kind_at, face-at    at the number of a record's cycle, the two numbers of that cycle
--     kind-told           0 exactly if that cycle is outer, 1 exactly if it is not, and one of the two
--     cycle-first         every cycle listed is that of some record, its first
--     beyond              places beyond are as they were
-- Assumes nothing.
use mathlib.Core.Path.{◌≡◌, refl, sym, ap, ◌∙◌}
use mathlib.Core.Logic.{◌⊎◌, inl, inr}
use mathlib.Core.Bool.{Bool, true, false, not, cond}
use mathlib.Core.List.{List, [], ◌∷◌}
use Prim.Native.Nat.{ℕ, zero, suc, ◌+◌, ◌*◌, ◌<◌}
use native.Mathlib.Nat.{zero-add}
use native.Mathlib.Omega.{arith}
use lib.Dec.{eqb}
use lib.IntN.{ℤ}
use lib.ListN.{length, get_or, drop, get_or-append}
use lib.Seq.{drop_at}
use borrow.Author.Tests.{eqb-true, eq-eqb}
use Rattle.counts.specs.Count.{keep, places, count}
use Rattle.counts.proofs.KeepLaws.{keep-length}
use Rattle.counts.proofs.ListedLaws.{listed-length, listed_at}
use Rattle.record.specs.Records.{record_count}
use Rattle.walks.specs.Cycles.{first_of, is_first, cycle_count, cycle_number}
use Rattle.walks.specs.Faces.{is_outer, face_of}
use Rattle.walks.proofs.CycleLaws.{cycle_start, halves-same}
use Rattle.walks.proofs.FirstRecordLaws.{first-half, first-less, first-first}
use Rattle.walks.proofs.NumberLaws.{number-less}
use Rattle.walks.proofs.SideLaws.{outer_same}
use Rattle.walks.proofs.FaceLaws.{face-walk}
use Rattle.faces.specs.Lists.{labels_of, kind_of, entries_of, cycle_list}
use Rattle.faces.proofs.EntriesLaws.{cycle_list-length}
use Rattle.faces.proofs.OutcomeLaws.{Told}
use Rattle.counts.proofs.CountedPlaceLaws.{keep_at, count-reaches}

entries_at : (s : List ℤ) (is : List ℕ) (c : ℕ) → c < length is
    → (get_or (entries_of s is) (2 * c) 0 ≡ kind_of s (get_or is c 0))
    × (get_or (entries_of s is) (2 * c + 1) 0 ≡ face_of s (get_or is c 0))
unfolding entries_of
entries_at s [] c l = absurd (omega arith)
entries_at s (i ∷ is) zero l = (refl, refl)
entries_at s (i ∷ is) (suc c) l =
    let ih = entries_at s is c (omega arith) in
    let first : 2 * suc c ≡ suc (suc (2 * c)) = omega arith in
    let second : 2 * suc c + 1 ≡ suc (suc (2 * c + 1)) = omega arith in (
      ap (λ j. get_or (entries_of s (i ∷ is)) j 0) first ∙ ih.0,
      ap (λ j. get_or (entries_of s (i ∷ is)) j 0) second ∙ ih.1,
    )

module _ {s : List ℤ} {labels cycles labels' cycles' : List ℕ} {m k : ℕ}
    (told : Told s labels cycles labels' cycles' m k) where
  pub label_at : (i : ℕ) → i < record_count s → get_or labels' i 0 ≡ cycle_number s i
  label_at i l =
      ap (λ t. get_or t i 0) told.labelled
      ∙ get_or-append (labels_of s) (drop (record_count s) labels) 0 i
      (omega (arith, listed-length (cycle_number s) 0 (record_count s)))
      ∙ listed_at (cycle_number s) 0 0 (record_count s) i l
      ∙ ap (cycle_number s) (zero-add i)

  -- ---- the two numbers of a cycle

  -- what stands in the list stands in the array
  listed_here : (j : ℕ) → j < 2 * cycle_count s → get_or cycles' j 0 ≡ get_or (cycle_list s) j 0
  listed_here j l =
      ap (λ t. get_or t j 0) told.listed
      ∙ get_or-append (cycle_list s) (drop (2 * m) cycles) 0 j (omega (arith, cycle_list-length s))

  module _ (i : ℕ) (l : i < record_count s) where
    -- the first records, in their order: that of record i stands at the number of its cycle
    abbrev firsts : List ℕ
    firsts = keep (is_first s) (places (record_count s))

    first-at : get_or firsts (cycle_number s i) 0 ≡ first_of s i
    unfolding cycle_number
    first-at =
        keep_at (is_first s) (record_count s) (first_of s i) (first-less told.region i l)
        (eq-eqb (first_of s (first_of s i)) (first_of s i) (first-first told.region i l))

    below : cycle_number s i < cycle_count s
    below = number-less told.region i l

    entry : (get_or (cycle_list s) (2 * cycle_number s i) 0 ≡ kind_of s (get_or firsts (cycle_number s i) 0))
        × (get_or (cycle_list s) (2 * cycle_number s i + 1) 0 ≡ face_of s (get_or firsts (cycle_number s i) 0))
    entry =
        entries_at s firsts (cycle_number s i)
        (omega (arith, keep-length (is_first s) (places (record_count s)), below))

    pub kind_at : get_or cycles' (2 * cycle_number s i) 0 ≡ kind_of s i
    kind_at =
        listed_here (2 * cycle_number s i) (omega (arith, below))
        ∙ entry.0
        ∙ ap (kind_of s) first-at
        ∙ ap (λ b. cond b 0 1) (outer_same told.region i (first_of s i) l (first-less told.region i l)
        (halves-same told.region i (first_of s i) l (first-half told.region i l)))

    pub face-at : get_or cycles' (2 * cycle_number s i + 1) 0 ≡ face_of s i
    face-at =
        listed_here (2 * cycle_number s i + 1) (omega (arith, below))
        ∙ entry.1
        ∙ ap (face_of s) first-at
        ∙ face-walk told.region (first_of s i) (first-less told.region i l)
        ∙ ap (face_of s) (cycle_start told.region i (first_of s i) l (first-half told.region i l))
        ∙ sym (face-walk told.region i l)

    pub kind-told : let kind = get_or cycles' (2 * get_or labels' i 0) 0 in
        (is_outer s i ≡ eqb kind 0) × (not (is_outer s i) ≡ eqb kind 1) × ((kind ≡ 0) ⊎ (kind ≡ 1))
    kind-told =
        rw (label_at i l, kind_at) (by_side (is_outer s i))
      where
        by_side : (b : Bool) → let kind : ℕ = cond b 0 1 in
            (b ≡ eqb kind 0) × (not b ≡ eqb kind 1) × ((kind ≡ 0) ⊎ (kind ≡ 1))
        by_side true = (refl, refl, inl refl)
        by_side false = (refl, refl, inr refl)

  -- ---- every cycle

  pub cycle-first : (c : ℕ) → c < m → (i : ℕ) × (i < record_count s) × (is_first s i ≡ true) × (cycle_number s i ≡ c)
  unfolding cycle_number
  cycle-first c l =
      let w = count-reaches (is_first s) (record_count s) c (omega (arith, told.many)) in
      (w.0, w.1, w.2, ap (λ f. count (is_first s) (places f)) (eqb-true (first_of s w.0) w.0 w.2) ∙ w.3)

  pub beyond : (drop (record_count s) labels' ≡ drop (record_count s) labels)
      × (drop (2 * m) cycles' ≡ drop (2 * m) cycles)
  beyond = (
    ap (drop (record_count s)) told.labelled
        ∙ drop_at (labels_of s) (drop (record_count s) labels) (record_count s)
        (listed-length (cycle_number s) 0 (record_count s)),
    ap (drop (2 * m)) told.listed
        ∙ drop_at (cycle_list s) (drop (2 * m) cycles) (2 * m)
        (cycle_list-length s ∙ ap (λ n. 2 * n) (sym told.many)),
  )
