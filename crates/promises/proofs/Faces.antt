-- What the library promises of faces and holes, over document 01's rules, for whatever arrays. First of any answer:
--     Why r             the refusal r is the chart's own; or 10 of an accepted chart, one of the lent arrays being too
--                       short
--     faces-refused     so it is of every refusal, and both arrays are as they were
--     faces-short       of an accepted chart it is 10 exactly when either is too short
--     faces-ends        so every question ends with the number 0, for none, or a refusal, and both are as they were
--     faces-room        two arrays of as many numbers as an accepted chart has records are always long enough
-- Of an answer of m cycles and k faces, where the lent arrays now have a label for each record, and for each cycle its
-- kind and its face:
--     faces-listed      those are what document 01's rules say, and places beyond are as they were
--     labels-below      every label is the number of a cycle; both halves of a segment have one label
--     labels-onto       every cycle is the label of some record
--     labels-cycle      the records of one label are those of one cycle
--     labels-ordered    cycles are numbered by smallest record index
--     cycle-area        kind 0 exactly where the signed area of the cycle is positive, 1 exactly where it is negative;
--                       it is never zero
--     cycle-mark        kind 0 exactly where the first record of the cycle has mark 1
--     one-outer         a walk has one outer cycle at most
--     faces-outer       there are as many faces as outer cycles
--     faces-ordered     which are numbered by their outer cycles' order
--     face-exists       every cycle's face is one of those, and has an outer cycle
-- The walks and cycles themselves: Walks.antt. That two outcomes coincide: Outcomes.antt. Assumes nothing.
use mathlib.Core.Path.{◌≡◌, refl, sym, ap, ◌∙◌, subst}
use mathlib.Core.Logic.{◌⊎◌, inl, inr, ◌↔◌, ⊎_elim}
use mathlib.Core.Bool.{true, true≢false}
use mathlib.Core.List.{List}
use Prim.Native.Nat.{ℕ, ◌+◌, ◌*◌, ◌<◌, ◌≤◌}
use native.Mathlib.Omega.{arith}
use lib.Dec.{eqb}
use lib.IntN.{ℤ, pos}
use lib.ListN.{length, get_or, drop}
use lib.Signed.{lt_z}
use Rattle.counts.specs.Count.{◌∈◌, count, places}
use Rattle.record.specs.Records.{record_at, record_count, marked}
use Rattle.std.specs.Prelude.{Ok, Err}
use Rattle.chart.specs.declared.Refusal.{Refusal}
use Rattle.chart.specs.declared.ChartRefusal.{ChartRefusal}
use Rattle.chart.specs.Verdicts as chart
use Rattle.chart.specs.Verdicts.{no_refusal, verdict, is_accepted}
use Rattle.chart.specs.Regions.{Region}
use Rattle.chart.proofs.RegionLaws.{accepted-is}
use Rattle.walks.specs.Ways.{way_back}
use Rattle.walks.specs.Cycles.{start_of, cycle_of, halves, first_of, cycle_count, cycle_number}
use Rattle.walks.specs.Faces.{area2_of, is_outer, face_count, face_of}
use Rattle.walks.proofs.PlaceLaws.{back-less}
use Rattle.walks.proofs.NumberLaws.{number-less, number-back}
use Rattle.walks.proofs.RoomLaws.{cycles-halved}
use Rattle.walks.proofs.SideLaws.{area-some, outer-mark}
use Rattle.walks.proofs.OneOuterLaws as walk
use Rattle.faces.specs.declared.answer.FaceCounts.{FaceCounts}
use Rattle.faces.specs.declared.FaceRefusal.{FaceRefusal}
use Rattle.faces.specs.declared.FaceRefusal.TheVariants.{NoRoom}
use Rattle.faces.specs.Lists.{FaceList, kind_of, told_listing, list_refusal, Lists}
use Rattle.faces.proofs.OutcomeLaws.{Told, TooShort, lists-told, lists-untouched, lists-refusal, lists-short}
use Rattle.faces.proofs.CycleListLaws.{label_at, kind_at, face-at, kind-told, cycle-first, beyond}
use Rattle.faces.proofs.OrderLaws.{number-one, number-halves, number-order, number-first}
use Rattle.faces.proofs.OrderLaws.{outers-all, outers-before, face-below, outer-exists}

module _ (s : List ℤ) (labels cycles labels' cycles' : List ℕ) where
  -- ---- of any answer

  -- one of the lent arrays is too short for the lists
  abbrev short : Type 0
  short = TooShort s (length labels) (length cycles)

  abbrev untouched : Type 0
  untouched = (labels' ≡ labels) × (cycles' ≡ cycles)

  abbrev pub Why : Refusal → Type 0
  Why r =
      ((q : ChartRefusal) × (verdict s ≡ Err q) × (r ≡ chart.told q))
      ⊎ ((verdict s ≡ Ok tt) × (r ≡ record { number = 10; index = 0 }) × short)

  module _ (a : FaceList) (lists : Lists s labels cycles labels' cycles' a) where
    pub faces-refused : (r : FaceRefusal) → a ≡ Err r → Why (told_listing r) × untouched
    faces-refused r e =
        let refused = subst (Lists s labels cycles labels' cycles') e lists in (
          ⊎_elim (λ w. inl (w.0, w.1, ap told_listing w.2))
              (λ w. inr ((accepted-is s).1 w.0, ap told_listing w.1, w.2)) (lists-refusal refused),
          lists-untouched refused,
        )

    pub faces-short : verdict s ≡ Ok tt
        → ((a ≡ Err NoRoom) ↔ short) × (told_listing NoRoom ≡ record { number = 10; index = 0 })
    faces-short v = (
      (
        λ e. ⊎_elim (λ w. absurd (true≢false (sym (ap is_accepted v) ∙ ap is_accepted w.1))) (λ w. w.2)
            (faces-refused NoRoom e).0,
        λ o. lists-short ((accepted-is s).0 v) o lists,
      ),
      refl,
    )

    pub faces-ends : (list_refusal a ≡ no_refusal) ⊎ (Why (list_refusal a) × untouched)
    faces-ends = go a refl
      where
        go : (b : FaceList) → a ≡ b → (list_refusal b ≡ no_refusal) ⊎ (Why (list_refusal b) × untouched)
        go (Ok c) e = inl refl
        go (Err r) e = inr (faces-refused r e)

    pub faces-room : verdict s ≡ Ok tt → record_count s ≤ length labels → record_count s ≤ length cycles
        → (counts : FaceCounts) × (a ≡ Ok counts)
    faces-room v l c = go a refl
      where
        halved : 2 * cycle_count s ≤ record_count s
        halved = cycles-halved ((accepted-is s).0 v)

        long : short → ⊥
        long (inl h) = omega (arith, h, l)
        long (inr h) = omega (arith, h, c, halved)

        go : (b : FaceList) → a ≡ b → (counts : FaceCounts) × (a ≡ Ok counts)
        go (Ok counts) e = (counts, e)
        go (Err r) e =
            absurd (⊎_elim (λ w. true≢false (sym (ap is_accepted v) ∙ ap is_accepted w.1)) (λ w. long w.2)
            (faces-refused r e).0)

  -- ---- of an answer that is no refusal

  abbrev label : ℕ → ℕ
  label i = get_or labels' i 0

  abbrev kind : ℕ → ℕ
  kind c = get_or cycles' (2 * c) 0

  abbrev face : ℕ → ℕ
  face c = get_or cycles' (2 * c + 1) 0

  module _ (counts : FaceCounts) (lists : Lists s labels cycles labels' cycles' (Ok counts)) where
    -- how many cycles and how many faces
    abbrev m : ℕ
    m = counts.cycles

    abbrev k : ℕ
    k = counts.faces

    told : Told s labels cycles labels' cycles' m k
    told = lists-told lists

    region : Region s
    region = told.region

    pub faces-listed : (m ≡ cycle_count s) × (k ≡ face_count s)
        × ((i : ℕ) → i < record_count s
        → (label i ≡ cycle_number s i) × (kind (label i) ≡ kind_of s i) × (face (label i) ≡ face_of s i))
        × (drop (record_count s) labels' ≡ drop (record_count s) labels)
        × (drop (2 * m) cycles' ≡ drop (2 * m) cycles)
    faces-listed = (
      told.many,
      told.bounded,
      λ i l.
          let e = label_at told i l in
          (e, ap (λ c. kind c) e ∙ kind_at told i l, ap (λ c. face c) e ∙ face-at told i l),
      (beyond told).0,
      (beyond told).1,
    )

    -- ---- labels

    pub labels-below : (i : ℕ) → i < record_count s → (label i < m) × (label (way_back s i) ≡ label i)
    labels-below i l = (
      rw (label_at told i l, told.many) (number-less region i l),
      label_at told (way_back s i) (back-less region i l) ∙ number-back region i l ∙ sym (label_at told i l),
    )

    pub labels-onto : (c : ℕ) → c < m → (i : ℕ) × (i < record_count s) × (label i ≡ c)
    labels-onto c l = let w = cycle-first told c l in (w.0, w.1, label_at told w.0 w.1 ∙ w.3)

    module _ (i j : ℕ) (l : i < record_count s) (h : j < record_count s) where
      pub labels-cycle : (label j ≡ label i) ↔ (j ∈ halves s (cycle_of s i))
      labels-cycle =
          let w = number-halves region i j l h in (
            λ e. w.0 (sym (label_at told j h) ∙ e ∙ label_at told i l),
            λ c. label_at told j h ∙ w.1 c ∙ sym (label_at told i l),
          )

      pub labels-ordered : (first_of s i < first_of s j → label i < label j)
          × (first_of s i < record_count s) × (label (first_of s i) ≡ label i) × (label j ≡ label i → first_of s i ≤ j)
      labels-ordered =
          let w = number-first region i l in (
            λ o. rw (label_at told i l, label_at told j h) (number-order region i j l o),
            w.0,
            label_at told (first_of s i) w.0 ∙ w.1 ∙ sym (label_at told i l),
            λ e. w.2 j h (sym (label_at told j h) ∙ e ∙ label_at told i l),
          )

    -- ---- outer cycles and holes

    pub cycle-area : (i : ℕ) → i < record_count s
        → (lt_z (pos 0) (area2_of s (cycle_of s i)) ≡ eqb (kind (label i)) 0)
        × (lt_z (area2_of s (cycle_of s i)) (pos 0) ≡ eqb (kind (label i)) 1)
        × ((kind (label i) ≡ 0) ⊎ (kind (label i) ≡ 1))
    cycle-area i l =
        let area = area-some region i l in
        let w = kind-told told i l in
        (area.0 ∙ w.0, area.1 ∙ w.1, w.2)

    pub cycle-mark : (i : ℕ) → i < record_count s
        → eqb (kind (label i)) 0 ≡ eqb (record_at s (first_of s i)).mark marked
    cycle-mark i l = sym (kind-told told i l).0 ∙ outer-mark region i l

    outer_told : (i : ℕ) → i < record_count s → kind (label i) ≡ 0 → is_outer s i ≡ true
    outer_told i l e = (kind-told told i l).0 ∙ ap (λ n. eqb n 0) e

    pub one-outer : (i j : ℕ) → i < record_count s → j < record_count s → start_of s i ≡ start_of s j
        → kind (label i) ≡ 0 → kind (label j) ≡ 0 → label i ≡ label j
    one-outer i j l h e o p =
        label_at told i l
        ∙ number-one region j i h l (walk.one-outer region j i h l e (outer_told j h p) (outer_told i l o))
        ∙ sym (label_at told j h)

    -- ---- faces

    pub faces-outer : count (λ c. eqb (kind c) 0) (places m) ≡ k
    faces-outer = outers-all told

    pub faces-ordered : (c : ℕ) → c < m → kind c ≡ 0 → face c ≡ count (λ b. eqb (kind b) 0) (places c)
    faces-ordered c l e = outers-before told c l e

    pub face-exists : (c : ℕ) → c < m
        → (face c < k) × ((o : ℕ) × (o < m) × (kind o ≡ 0) × (face o ≡ face c))
    face-exists c l = (face-below told c l, outer-exists told c l)
