-- On which side of a cycle its own inside lies, in a region: on one and the same hand all along its walk.
--     of_cycle s i        the records of the cycle of record i
--     side-along          whoever walks the walk of an outer cycle has it on the left, and that of a hole does not
--     side_same           so it is for the cycle's own records
--     area-some           an outer cycle has positive area, and a hole negative
--     outer-mark          a cycle is outer exactly if its first record has mark 1
--     outer_same          all records of a cycle have an outer cycle, or none has
-- Assumes nothing.
use mathlib.Core.Path.{◌≡◌, refl, sym, ap, ◌∙◌}
use mathlib.Core.Bool.{Bool, true, not}
use mathlib.Core.List.{List, map}
use Prim.Native.Nat.{ℕ, zero, suc, ◌<◌, ◌≤◌}
use lib.Dec.{eqb}
use lib.IntN.{ℤ, pos}
use lib.Signed.{lt_z}
use Rattle.counts.specs.Count.{◌∈◌}
use Rattle.counts.proofs.MapLaws.{map-mem, mem-map}
use Rattle.record.specs.declared.Record.{Record}
use Rattle.record.specs.Records.{record_at, record_count, records, marked}
use Rattle.chart.specs.Regions.{Region}
use Rattle.around.specs.Departing.{departs}
use Rattle.walks.specs.Ways.{next}
use Rattle.walks.specs.Walks.{walk}
use Rattle.walks.specs.Cycles.{start_of, cycle_of, halves, first_of}
use Rattle.walks.specs.Faces.{area2_of, is_outer}
use Rattle.around.proofs.Parts.{Part, left_of}
use Rattle.around.proofs.WedgeLaws.{next-same}
use Rattle.around.proofs.AreaLaws.{area-sign}
use Rattle.around.proofs.OuterLaws.{first-mark}
use Rattle.walks.proofs.PlaceLaws.{rank_in, member-at, rank-at, ranked-region}
use Rattle.walks.proofs.NextLaws.{next-less, next-is, walked-self}
use Rattle.walks.proofs.StepLaws.{goes, goes-less}
use Rattle.walks.proofs.RoundLaws.{walk_step}
use Rattle.walks.proofs.StartLaws.{start-walk}
use Rattle.walks.proofs.CycleLaws.{cycle_start, halves-self, halves-less}
use Rattle.walks.proofs.CyclePartLaws.{cycle-part, cycle-level}
use Rattle.walks.proofs.FirstRecordLaws.{first-half, first-least, first-less}

abbrev pub of_cycle : List ℤ → ℕ → List Record
of_cycle s i = map (record_at s) (halves s (cycle_of s i))

module _ {s : List ℤ} (region : Region s) where
  -- ---- along a walk

  module _ {C : List Record} (part : Part (records s) C) where
    along : (i : ℕ) → i < record_count s → (j : ℕ) → j ∈ walk s i
        → left_of C (record_at s j) ≡ left_of C (record_at s i)
    unfolding goes
    along i l j m = let w = walk_step region i l j m in ap (λ k. left_of C (record_at s k)) w.2 ∙ go w.0
      where
        go : (k : ℕ) → left_of C (record_at s (goes s i k)) ≡ left_of C (record_at s i)
        go zero = refl
        go (suc k) =
            let h = goes-less region i l k in
            next-same (ranked-region region) part (record_at s (goes s i k)) (record_at s (next s (goes s i k)))
            (member-at region (goes s i k) h) (member-at region (next s (goes s i k)) (next-less region (goes s i k) h))
            (next-is region (goes s i k) h)
            ∙ go k

    from_start : (j : ℕ) → j < record_count s → departs (record_at s j) ≡ true
        → left_of C (record_at s j) ≡ left_of C (record_at s (start_of s j))
    from_start j l d = sym (along j l (start_of s j) (rw (walked-self region j d) at (start-walk region j l)))

  -- ---- along the walk of a cycle

  module _ (i : ℕ) (l : i < record_count s) where
    abbrev there : Bool
    there = left_of (of_cycle s i) (record_at s (start_of s i))

    -- a record of the walk
    keeps-at : (j : ℕ) → j < record_count s → start_of s j ≡ start_of s i → departs (record_at s j) ≡ true
        → left_of (of_cycle s i) (record_at s j) ≡ there
    keeps-at j h e d =
        from_start (cycle-part region i l) j h d ∙ ap (λ k. left_of (of_cycle s i) (record_at s k)) e

    keeps : (r : Record) → r ∈ of_cycle s i → departs r ≡ true → left_of (of_cycle s i) r ≡ there
    keeps r m d =
        let w = map-mem (record_at s) (halves s (cycle_of s i)) r m in
        ap (left_of (of_cycle s i)) w.2
        ∙ keeps-at w.0 (halves-less region i w.0 l w.1) (cycle_start region i w.0 l w.1)
        (sym (ap (λ q. departs q) w.2) ∙ d)

    sign : (lt_z (pos 0) (area2_of s (cycle_of s i)) ≡ there) × (lt_z (area2_of s (cycle_of s i)) (pos 0) ≡ not there)
    sign =
        area-sign (ranked-region region) (cycle-part region i l) there keeps (record_at s i)
        (mem-map (record_at s) (halves s (cycle_of s i)) i (halves-self region i l)) (cycle-level region i l)

    outer-there : is_outer s i ≡ there
    unfolding is_outer
    outer-there = sign.0

    pub side-along : (j : ℕ) → j < record_count s → start_of s j ≡ start_of s i → departs (record_at s j) ≡ true
        → left_of (of_cycle s i) (record_at s j) ≡ is_outer s i
    side-along j h e d = keeps-at j h e d ∙ sym outer-there

    pub side_same : (r : Record) → r ∈ of_cycle s i → departs r ≡ true → left_of (of_cycle s i) r ≡ is_outer s i
    side_same r m d = keeps r m d ∙ sym outer-there

    pub area-some : (lt_z (pos 0) (area2_of s (cycle_of s i)) ≡ is_outer s i)
        × (lt_z (area2_of s (cycle_of s i)) (pos 0) ≡ not (is_outer s i))
    area-some = (sign.0 ∙ sym outer-there, sign.1 ∙ ap not (sym outer-there))

    pub outer-mark : is_outer s i ≡ eqb (record_at s (first_of s i)).mark marked
    outer-mark =
        sym (first-mark (ranked-region region) (cycle-part region i l) (is_outer s i) side_same
        (record_at s (first_of s i)) (mem-map (record_at s) (halves s (cycle_of s i)) (first_of s i)
        (first-half region i l))
        first).1
      where
        first : (r : Record) → r ∈ of_cycle s i → rank_in s (record_at s (first_of s i)) ≤ rank_in s r
        first r m =
            let w = map-mem (record_at s) (halves s (cycle_of s i)) r m in
            rw (
              w.2,
              rank-at region (first_of s i) (first-less region i l),
              rank-at region w.0 (halves-less region i w.0 l w.1),
            )
            (first-least region i w.0 l w.1)

  pub outer_same : (i j : ℕ) → i < record_count s → j < record_count s → cycle_of s j ≡ cycle_of s i
      → is_outer s j ≡ is_outer s i
  unfolding is_outer
  outer_same i j l h e = ap (λ c. lt_z (pos 0) (area2_of s c)) e
