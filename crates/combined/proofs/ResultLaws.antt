-- Laws of the result of combining charts (specs/Results.antt): it is again laid out as a chart.
--     result-mem, mem-result         its records: the kept ones, each with the mark by the result's own count
--     result-marked, result-marks    that is each one's mark, and it is 0 or 1
--     result-proper                  of charts laid over each other: the two ends of each differ
--     result-ascending               each comes strictly after all before it
--     result-halves                  and the other half is there, with the same mark
-- Assumes nothing.
use mathlib.Core.Path.{◌≡◌, refl, sym, ap, ◌∙◌, subst}
use mathlib.Core.Logic.{◌⊎◌, inl, inr}
use mathlib.Core.Bool.{Bool, true, false, cond}
use mathlib.Core.List.{List}
use Prim.Native.Nat.{◌≤◌}
use native.Mathlib.Omega.{arith}
use Rattle.counts.specs.Count.{◌∈◌, count, odd}
use Rattle.counts.proofs.CountLaws.{count-keep-le, keep-mem, mem-keep}
use Rattle.counts.proofs.MapLaws.{map-mem, mem-map}
use Rattle.counts.proofs.AscendingLaws.{Ascending, ascending-map}
use Rattle.plane.specs.declared.Segment.{Segment}
use Rattle.plane.specs.Columns.{counted_for}
use Rattle.record.specs.declared.Record.{Record}
use Rattle.record.specs.Records.{unmarked, marked}
use Rattle.record.specs.Order.{other_half, Proper, precedes}
use Rattle.record.proofs.OrderLaws.{precedes-mark}
use Rattle.segment.specs.Segments.{segment}
use Rattle.segment.proofs.SegmentLaws.{segment-other_half}
use Rattle.among.specs.Among.{mark_count, counted_mark}
use Rattle.combined.specs.Kept.{keeps, either, kept}
use Rattle.combined.specs.Results.{in_order, with_mark, result}
use Rattle.combined.proofs.EndsLaws.{same_ends}
use Rattle.combined.proofs.Laid.{Laid}
use Rattle.combined.proofs.EitherLaws.{either-proper, either-halves, either-once}
use Rattle.combined.proofs.OrderedLaws.{in_order-mem, mem-in_order, in_order-ascending}
use Rattle.combined.proofs.KeptLaws.{segment-mark, ordered-count, result_count}

module _ (f : List Bool → Bool) (cs : List (List Record)) where
  -- ---- the marks

  mark-same : (s : Segment) → counted_mark (in_order (kept f cs)) s ≡ counted_mark (result f cs) s
  mark-same s =
      ap (λ n. cond (odd n) marked unmarked)
      (ordered-count f cs (counted_for s) ∙ sym (result_count f cs (counted_for s)))

  pub result-mem : (r : Record) → r ∈ result f cs
      → (e : Record) × (e ∈ kept f cs) × (r ≡ with_mark (counted_mark (result f cs) (segment e)) e)
  result-mem r m =
      let w = map-mem _ (in_order (kept f cs)) r m in
      (w.0, in_order-mem (kept f cs) w.0 w.1, w.2 ∙ ap (λ n. with_mark n w.0) (mark-same (segment w.0)))

  pub mem-result : (e : Record) → e ∈ kept f cs → with_mark (counted_mark (result f cs) (segment e)) e ∈ result f cs
  mem-result e m =
      subst (λ n. with_mark n e ∈ result f cs) (mark-same (segment e))
      (mem-map _ (in_order (kept f cs)) e (mem-in_order (kept f cs) e m))

  pub result-marked : (r : Record) → r ∈ result f cs → r.mark ≡ counted_mark (result f cs) (segment r)
  result-marked r m =
      let w = result-mem r m in
      ap (λ r. r.mark) w.2
      ∙ ap (counted_mark (result f cs)) (sym (segment-mark _ w.0) ∙ ap segment (sym w.2))

  pub result-marks : (r : Record) → r ∈ result f cs → (r.mark ≡ unmarked) ⊎ (r.mark ≡ marked)
  result-marks r m = by-parity (odd (mark_count (result f cs) (segment r))) (result-marked r m)
    where
      by-parity : (b : Bool) → r.mark ≡ cond b marked unmarked → (r.mark ≡ unmarked) ⊎ (r.mark ≡ marked)
      by-parity true e = inr e
      by-parity false e = inl e

  -- ---- of charts laid over each other

  module _ (laid : Laid cs) where
    kept-proper : (r : Record) → r ∈ kept f cs → Proper r
    kept-proper r m = either-proper cs laid r (keep-mem _ (either cs) r m).0

    kept-once : (r : Record) → count (same_ends r) (kept f cs) ≤ 1
    kept-once r =
        omega (
          arith,
          count-keep-le (λ e. keeps f cs (segment e)) (same_ends r) (either cs),
          either-once cs laid r,
        )

    pub result-proper : (r : Record) → r ∈ result f cs → Proper r
    result-proper r m =
        let w = result-mem r m in
        subst Proper (sym w.2) (kept-proper w.0 w.1)

    pub result-ascending : Ascending (λ r e. precedes r e ≡ true) (result f cs)
    result-ascending =
        ascending-map (λ r e. precedes r e ≡ true) _
        (λ r e h. precedes-mark _ _ r e refl refl refl refl ∙ h)
        (in_order (kept f cs)) (in_order-ascending (kept f cs) kept-proper kept-once)

    kept-halves : (r : Record) → r ∈ kept f cs → other_half r ∈ kept f cs
    kept-halves r m =
        let w = keep-mem _ (either cs) r m in
        mem-keep _ (either cs) (other_half r) (either-halves cs laid r w.0)
        (ap (keeps f cs) (segment-other_half r (kept-proper r m)) ∙ w.1)

    pub result-halves : (r : Record) → r ∈ result f cs → other_half r ∈ result f cs
    result-halves r m =
        let w = result-mem r m in
        let one = segment-other_half w.0 (kept-proper w.0 w.1) in
        subst (λ r. r ∈ result f cs)
        (ap (λ s. with_mark (counted_mark (result f cs) s) (other_half w.0)) one ∙ sym (ap other_half w.2))
        (mem-result (other_half w.0) (kept-halves w.0 w.1))
