-- Laws of the kept records (specs/Kept.antt, specs/Results.antt): what is counted of their segments is counted of the
-- kept segments, in whatever order and with whatever mark.
--     segment-mark           the mark does not count for the segment
--     remarked-count         so marking afresh changes no count of segments
--     kept_segments f cs     the segments of the charts that are kept
--     kept-count, ordered-count, result_count    records counted by their segments: kept, put in order, marked
--     result-any                                 whether some passes
--     segments-result, segments-result-mem       the segments of the result: as often, and which
-- Assumes nothing.
use mathlib.Core.Path.{◌≡◌, refl, sym, ap, ◌∙◌}
use mathlib.Core.Logic.{◌↔◌}
use mathlib.Core.Bool.{Bool, true, false, ◌&&◌}
use mathlib.Core.List.{List, map}
use Prim.Native.Nat.{ℕ}
use Rattle.counts.specs.Count.{◌∈◌, count, any}
use Rattle.counts.proofs.CountLaws.{count-ext, count-keep}
use Rattle.counts.proofs.MapLaws.{count_map}
use Rattle.counts.proofs.TallyLaws.{any-count, mem-count}
use Rattle.plane.specs.declared.Segment.{Segment}
use Rattle.plane.specs.Points.{is_segment}
use Rattle.plane.proofs.PointLaws.{is_segment-true, is_segment-refl}
use Rattle.record.specs.declared.Record.{Record}
use Rattle.record.specs.Order.{left}
use Rattle.segment.specs.Segments.{segment, of_segment}
use Rattle.region.proofs.ChartLaws.{segments, of_segment-count}
use Rattle.combined.specs.Kept.{keeps, either, kept}
use Rattle.combined.specs.Results.{in_order, with_mark, remarked, result}
use Rattle.combined.proofs.Overlay.{kept_in}
use Rattle.combined.proofs.EndsLaws.{ends-segment}
use Rattle.combined.proofs.OrderedLaws.{in_order-count}

pub segment-mark : (m : ℕ) (r : Record) → segment (with_mark m r) ≡ segment r
segment-mark m r = ends-segment r (with_mark m r) refl refl

-- whatever the marks
marked-count : (q : Segment → Bool) (mark : Record → ℕ) (rs : List Record)
    → count (of_segment q) (map (λ r. with_mark (mark r) r) rs) ≡ count (of_segment q) rs
marked-count q mark rs =
    count_map (λ r. with_mark (mark r) r) (of_segment q) rs
    ∙ count-ext (λ r. of_segment q (with_mark (mark r) r)) (of_segment q) rs
    (λ r m. ap (λ s. left r && q s) (segment-mark (mark r) r))

pub remarked-count : (q : Segment → Bool) (rs : List Record)
    → count (of_segment q) (remarked rs) ≡ count (of_segment q) rs
remarked-count q rs = marked-count q _ rs

module _ (f : List Bool → Bool) (cs : List (List Record)) where
  abbrev pub kept_segments : List Segment
  kept_segments = kept_in f cs (segments (either cs))

  module _ (q : Segment → Bool) where
    pub kept-count : count (of_segment q) (kept f cs) ≡ count q kept_segments
    kept-count =
        count-keep (λ r. keeps f cs (segment r)) (of_segment q) (either cs)
        ∙ count-ext _ _ (either cs) (λ r m. swap (keeps f cs (segment r)) (left r) (q (segment r)))
        ∙ of_segment-count (λ s. keeps f cs s && q s) (either cs)
        ∙ sym (count-keep (keeps f cs) q (segments (either cs)))
      where
        swap : (a b c : Bool) → a && (b && c) ≡ b && (a && c)
        swap true b c = refl
        swap false true c = refl
        swap false false c = refl

    pub ordered-count : count (of_segment q) (in_order (kept f cs)) ≡ count q kept_segments
    ordered-count = in_order-count (of_segment q) (kept f cs) ∙ kept-count

    pub result_count : count (of_segment q) (result f cs) ≡ count q kept_segments
    result_count = remarked-count q (in_order (kept f cs)) ∙ ordered-count

    pub result-any : any (of_segment q) (result f cs) ≡ any q kept_segments
    result-any = any-count (of_segment q) q (result f cs) kept_segments result_count

    pub segments-result : count q (segments (result f cs)) ≡ count q kept_segments
    segments-result = sym (of_segment-count q (result f cs)) ∙ result_count

  pub segments-result-mem : (t : Segment) → (t ∈ segments (result f cs)) ↔ (t ∈ kept_segments)
  segments-result-mem t = (
    mem-count is_segment is_segment-true is_segment-refl (segments (result f cs)) kept_segments segments-result t,
    mem-count is_segment is_segment-true is_segment-refl kept_segments (segments (result f cs))
        (λ q. sym (segments-result q)) t,
  )
