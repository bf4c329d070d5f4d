-- A walk of a region without an outer cycle, at its smallest point.
--     nearest-less      a segment lies strictly below that point
--     nearest-start     and the walk of the nearest starts earlier
-- Assumes nothing.
use mathlib.Core.Path.{◌≡◌, sym, ap, ◌∙◌}
use mathlib.Core.Logic.{◌⊎◌, inl, inr}
use mathlib.Core.Bool.{true, false, true≢false}
use mathlib.Core.List.Memᴰ
use mathlib.Core.List.{List}
use Prim.Native.Nat.{ℕ, ◌<◌, ◌≤◌, zero-le}
use native.Mathlib.Omega.{arith}
use lib.IntN.{ℤ}
use Rattle.counts.specs.Count.{◌∈◌}
use Rattle.counts.proofs.TestLaws.{is_false, lt-or-le}
use Rattle.counts.proofs.ScanLaws.{first_from-passes, first_from-least}
use Rattle.counts.proofs.MapLaws.{map-mem, mem-map}
use Rattle.plane.specs.declared.Point.{Point}
use Rattle.plane.specs.Points.{before}
use Rattle.record.specs.declared.Record.{Record}
use Rattle.record.specs.Records.{record_at, record_count, records}
use Rattle.record.specs.Order.{other_half}
use Rattle.parts.proofs.RunLaws.{doms-rise}
use Rattle.chart.specs.Regions.{Region}
use Rattle.region.specs.Boundaries.{nearest}
use Rattle.around.specs.Departing.{departs}
use Rattle.walks.specs.Walks.{walk}
use Rattle.walks.specs.Cycles.{start_of, cycle_of, halves}
use Rattle.walks.specs.Faces.{is_outer, outer_in, smallest_point, nearest_to}
use Rattle.around.proofs.Parts.{Part, left_of}
use Rattle.around.proofs.OpenLaws.{nearest-there, nearest-early}
use Rattle.walks.proofs.PlaceLaws.{place_of, member-at, ranked-region}
use Rattle.walks.proofs.NextLaws.{walked-self}
use Rattle.walks.proofs.RoundLaws.{walk-self}
use Rattle.walks.proofs.StartLaws.{start-less, start-least, start-start, start-point}
use Rattle.walks.proofs.CycleLaws.{cycle_start, halves-self, halves-less}
use Rattle.walks.proofs.CyclePartLaws.{cycle-part}
use Rattle.walks.proofs.FirstRecordLaws.{first-less}
use Rattle.walks.proofs.SideLaws.{of_cycle, side_same}
use Rattle.walks.proofs.WalkRecordLaws.{of_walk, start-self, walk-place, walk-known, walk-leaves, walk-onward}
use Rattle.walks.proofs.WalkRecordLaws.{walk_start, walk-either}
use Rattle.walks.proofs.OneOuterLaws.{outer-found}

module _ {s : List ℤ} (region : Region s) (i : ℕ) (l : i < record_count s)
    (none : record_count s ≤ outer_in s (start_of s i)) where
  abbrev start : ℕ
  start = start_of s i

  short : start < record_count s
  short = start-less region i l

  -- no cycle of the walk is outer
  hole-at : (j : ℕ) → j < record_count s → start_of s j ≡ start → is_outer s j ≡ false
  hole-at j h e =
      is_false _ (λ t. omega (arith, outer-found region j h t, ap (outer_in s) e, first-less region j h))

  -- so each of its records is in a hole
  hole : (r : Record) → r ∈ of_walk s start
      → (H : List Record) × Part (records s) H × (r ∈ H)
      × ((e : Record) → e ∈ H → (e ∈ of_walk s start) ⊎ (other_half e ∈ of_walk s start))
      × ((e : Record) → e ∈ H → departs e ≡ true → left_of H e ≡ false)
  hole r m =
      let w = walk-place region i l r m in
      let j : ℕ = w.0 in
      let h = w.2 in
      let same = walk_start region i l j w.1 in (
        of_cycle s j,
        cycle-part region j h,
        Memᴰ.cast w.3 (mem-map (record_at s) (halves s (cycle_of s j)) j (halves-self region j h)),
        (λ e n.
            let v = map-mem (record_at s) (halves s (cycle_of s j)) e n in
            rw v.2
            (walk-either region i l v.0 (halves-less region j v.0 h v.1)
            (cycle_start region j v.0 h v.1 ∙ same))),
        (λ e n d. side_same region j h e n d ∙ hole-at j h same),
      )

  -- ---- its smallest point

  abbrev q : Point
  q = smallest_point s start

  at : (record_at s start).dom ≡ q
  at = sym (start-point region i l)

  past : (j : ℕ) → start ≤ j → j < record_count s → before (record_at s j).dom q ≡ false
  past j g h = ap (before (record_at s j).dom) (sym at) ∙ doms-rise s region.ordered start j g h

  lowest : (r : Record) → r ∈ of_walk s start → before r.dom q ≡ false
  lowest r m =
      let w = walk-place region i l r m in
      let j : ℕ = w.0 in
      let g = start-least region start short j (rw (start-self region i l) w.1) in
      ap (λ e. before e.dom q) w.3 ∙ past j (omega (arith, g, start-start region i l)) w.2

  member : record_at s start ∈ of_walk s start
  member = mem-map (record_at s) (walk s start) start (walk-self region start short)

  -- ---- the nearest

  pub nearest-less : nearest_to s (smallest_point s (start_of s i)) < record_count s
  unfolding nearest_to
  nearest-less =
      let n =
      nearest-there (ranked-region region) (of_walk s start) (walk-known region i l) (walk-leaves region i l)
      (walk-onward region i l) hole q (record_at s start) member at lowest in
      let k = place_of region n.0 n.1 in
      let low =
      first_from-least (nearest (records s) q) (record_at s) 0 (record_count s) zero-le k.0 zero-le
      (ap (nearest (records s) q) (sym k.2) ∙ n.2) in
      omega (arith, low, k.1)

  passes : nearest (records s) q (record_at s (nearest_to s q)) ≡ true
  unfolding nearest_to
  passes = first_from-passes (nearest (records s) q) (record_at s) 0 (record_count s) zero-le nearest-less

  pub nearest-start : start_of s (nearest_to s (smallest_point s (start_of s i))) < start_of s i
  nearest-start = go (lt-or-le k start)
    where
      k : ℕ
      k = nearest_to s q

      early : (departs (record_at s k) ≡ true) × (before (record_at s k).dom q ≡ true)
      early =
          nearest-early (ranked-region region) (of_walk s start) (walk-known region i l) (walk-leaves region i l)
          (walk-onward region i l) hole q (record_at s start) member at lowest (record_at s k)
          (member-at region k nearest-less) passes

      own : start_of s k ≤ k
      own =
          start-least region k nearest-less k
          (rw (walked-self region k early.0) (walk-self region k nearest-less))

      go : (k < start) ⊎ (start ≤ k) → start_of s k < start
      go (inl h) = omega (arith, own)
      go (inr h) = absurd (true≢false (sym early.1 ∙ past k h nearest-less))
