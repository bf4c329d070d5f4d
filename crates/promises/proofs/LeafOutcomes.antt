-- The public functions that the questions rest on: nothing is asked of a caller, and any two outcomes that one promise
-- allows coincide.
-- Assumes nothing.
use mathlib.Core.Path.{◌≡◌, refl, sym, ap, ◌∙◌}
use mathlib.Core.List.{List}
use denote.Ref.{Bor}
use lib.IntN.{ℤ}
use Rattle.std.specs.Prelude.{Result, Ok, Err}
use Rattle.std.specs.Result.{OkIff}
use Rattle.grid.specs.declared.OffGrid.{OffGrid}
use Rattle.grid.proofs.Coord.new.Kinds as new-kinds
use Rattle.grid.proofs.Coord.new.Reads as new
use Rattle.grid.proofs.Coord.least.Kinds as least-kinds
use Rattle.grid.proofs.Coord.least.Reads as least
use Rattle.grid.proofs.Coord.greatest.Kinds as greatest-kinds
use Rattle.grid.proofs.Coord.greatest.Reads as greatest
use Rattle.grid.proofs.Coord.of_wide.Kinds as of-wide-kinds
use Rattle.grid.proofs.Coord.of_wide.Reads as of-wide
use Rattle.grid.proofs.Coord.count.Kinds as count-kinds
use Rattle.grid.proofs.Coord.count.Reads as count
use Rattle.grid.proofs.Coord.at_count.Kinds as at-count-kinds
use Rattle.grid.proofs.Coord.at_count.Reads as at-count
use Rattle.grid.proofs.CoordTryFromI64.try_from.Kinds as try-from-kinds
use Rattle.grid.proofs.CoordTryFromI64.try_from.Reads as try-from
use Rattle.grid.proofs.count_of.Kinds as count-of-kinds
use Rattle.grid.proofs.count_of.Reads as count-of
use Rattle.grid.proofs.number_at.Kinds as number-at-kinds
use Rattle.grid.proofs.number_at.Reads as number-at
use Rattle.grid.proofs.point_of.Kinds as point-of-kinds
use Rattle.grid.proofs.point_of.Reads as point-of
use Rattle.points.proofs.is_before.Kinds as is-before-kinds
use Rattle.points.proofs.is_before.Reads as is-before
use Rattle.points.proofs.is_same.Kinds as is-same-kinds
use Rattle.points.proofs.is_same.Reads as is-same
use Rattle.points.proofs.product.Kinds as product-kinds
use Rattle.points.proofs.product.Reads as product
use Rattle.points.proofs.turn_of.Kinds as turn-of-kinds
use Rattle.points.proofs.turn_of.Reads as turn-of
use Rattle.points.proofs.turns_left.Kinds as turns-left-kinds
use Rattle.points.proofs.turns_left.Reads as turns-left
use Rattle.points.proofs.turns_right.Kinds as turns-right-kinds
use Rattle.points.proofs.turns_right.Reads as turns-right
use Rattle.points.proofs.is_straight.Kinds as is-straight-kinds
use Rattle.points.proofs.is_straight.Reads as is-straight
use Rattle.record.proofs.record_at.Kinds as record-at-kinds
use Rattle.record.proofs.record_at.Reads as record-at
use Rattle.record.proofs.record_count.Kinds as record-count-kinds
use Rattle.record.proofs.record_count.Reads as record-count
use Rattle.record.proofs.is_left.Kinds as is-left-kinds
use Rattle.record.proofs.is_left.Reads as is-left
use Rattle.record.proofs.other_half.Kinds as other-half-kinds
use Rattle.record.proofs.other_half.Reads as other-half
use Rattle.record.proofs.order.is_earlier.Kinds as is-earlier-kinds
use Rattle.record.proofs.order.is_earlier.Reads as is-earlier
use Rattle.parts.proofs.is_elsewhere.Kinds as is-elsewhere-kinds
use Rattle.parts.proofs.is_elsewhere.Reads as is-elsewhere
use Rattle.parts.proofs.first_elsewhere.Kinds as first-elsewhere-kinds
use Rattle.parts.proofs.first_elsewhere.Reads as first-elsewhere
use Rattle.segment.proofs.segment_of.Kinds as segment-of-kinds
use Rattle.segment.proofs.segment_of.Reads as segment-of
use Rattle.segment.proofs.segment_of_left.Kinds as segment-of-left-kinds
use Rattle.segment.proofs.segment_of_left.Reads as segment-of-left
use Rattle.segment.proofs.is_record.Kinds as is-record-kinds
use Rattle.segment.proofs.is_record.Reads as is-record
use Rattle.segment.proofs.is_segment.Kinds as is-segment-kinds
use Rattle.segment.proofs.is_segment.Reads as is-segment
use Rattle.segment.proofs.is_vertical.Kinds as is-vertical-kinds
use Rattle.segment.proofs.is_vertical.Reads as is-vertical
use Rattle.segment.proofs.is_end.Kinds as is-end-kinds
use Rattle.segment.proofs.is_end.Reads as is-end
use Rattle.segment.proofs.is_on.Kinds as is-on-kinds
use Rattle.segment.proofs.is_on.Reads as is-on
use Rattle.segment.proofs.is_below_point.Kinds as is-below-point-kinds
use Rattle.segment.proofs.is_below_point.Reads as is-below-point
use Rattle.segment.proofs.is_touching.Kinds as is-touching-kinds
use Rattle.segment.proofs.is_touching.Reads as is-touching
use Rattle.segment.proofs.is_counted_for.Kinds as is-counted-for-kinds
use Rattle.segment.proofs.is_counted_for.Reads as is-counted-for
use Rattle.segment.proofs.is_higher.Kinds as is-higher-kinds
use Rattle.segment.proofs.is_higher.Reads as is-higher
use Rattle.among.proofs.has_record.Kinds as has-record-kinds
use Rattle.among.proofs.has_record.Reads as has-record
use Rattle.among.proofs.has_segment.Kinds as has-segment-kinds
use Rattle.among.proofs.has_segment.Reads as has-segment
use Rattle.among.proofs.is_touched.Kinds as is-touched-kinds
use Rattle.among.proofs.is_touched.Reads as is-touched
use Rattle.among.proofs.end_count.Kinds as end-count-kinds
use Rattle.among.proofs.end_count.Reads as end-count
use Rattle.among.proofs.counted_mark.Kinds as counted-mark-kinds
use Rattle.among.proofs.counted_mark.Reads as counted-mark
use Rattle.among.proofs.place_of.Kinds as place-of-kinds
use Rattle.among.proofs.place_of.Reads as place-of
use Rattle.chart.proofs.RefusalFromChartRefusal.from.Kinds as from-chart-refusal-kinds
use Rattle.chart.proofs.RefusalFromChartRefusal.from.Reads as from-chart-refusal
use Rattle.chart.proofs.accepted.Chart.new.Kinds as chart-new-kinds
use Rattle.chart.proofs.accepted.Chart.new.Reads as chart-new
use Rattle.chart.proofs.accepted.Chart.numbers.Kinds as numbers-kinds
use Rattle.chart.proofs.accepted.Chart.numbers.Reads as numbers
use Rattle.chart.proofs.accepted.Chart.record_count.Kinds as chart-record-count-kinds
use Rattle.chart.proofs.accepted.Chart.record_count.Reads as chart-record-count
use Rattle.question.proofs.is_below.Kinds as is-below-kinds
use Rattle.question.proofs.is_below.Reads as is-below
use Rattle.question.proofs.is_edge.Kinds as is-edge-kinds
use Rattle.question.proofs.is_edge.Reads as is-edge
use Rattle.question.proofs.place_by.Kinds as place-by-kinds
use Rattle.question.proofs.place_by.Reads as place-by
use Rattle.nearest.proofs.highest_below.Kinds as highest-below-kinds
use Rattle.nearest.proofs.highest_below.Reads as highest-below
use Rattle.cycles.proofs.cycles_of.Kinds as cycles-of-kinds
use Rattle.cycles.proofs.cycles_of.Reads as cycles-of
use Rattle.faces.proofs.FaceRefusalFromChartRefusal.from.Kinds as face-from-chart-refusal-kinds
use Rattle.faces.proofs.FaceRefusalFromChartRefusal.from.Reads as face-from-chart-refusal
use Rattle.faces.proofs.RefusalFromFaceRefusal.from.Kinds as from-face-refusal-kinds
use Rattle.faces.proofs.RefusalFromFaceRefusal.from.Reads as from-face-refusal
use Rattle.sides.proofs.is_kept_first.Kinds as is-kept-first-kinds
use Rattle.sides.proofs.is_kept_first.Reads as is-kept-first
use Rattle.sides.proofs.is_kept_second.Kinds as is-kept-second-kinds
use Rattle.sides.proofs.is_kept_second.Reads as is-kept-second
use Rattle.sides.proofs.marked_afresh.Kinds as marked-afresh-kinds
use Rattle.sides.proofs.marked_afresh.Reads as marked-afresh
use Rattle.sides.proofs.Pair.of.Kinds as of-kinds
use Rattle.sides.proofs.Pair.of.Reads as of
use Rattle.sides.proofs.Pair.is_kept.Kinds as is-kept-kinds
use Rattle.sides.proofs.Pair.is_kept.Reads as is-kept
use Rattle.sides.proofs.Pair.marked_afresh.Kinds as pair-marked-afresh-kinds
use Rattle.sides.proofs.Pair.marked_afresh.Reads as pair-marked-afresh
use Rattle.join.proofs.JoinRefusal.chart.Kinds as chart-kinds
use Rattle.join.proofs.JoinRefusal.chart.Reads as chart
use Rattle.join.proofs.RefusalFromJoinRefusal.from.Kinds as from-join-refusal-kinds
use Rattle.join.proofs.RefusalFromJoinRefusal.from.Reads as from-join-refusal
use Rattle.gauge.proofs.GaugeRefusal.number.Kinds as number-kinds
use Rattle.gauge.proofs.GaugeRefusal.number.Reads as number
use Rattle.gauge.proofs.handed.Kinds as handed-kinds
use Rattle.gauge.proofs.handed.Reads as handed
use Rattle.number.proofs.RefusalFromNumberRefusal.from.Kinds as from-number-refusal-kinds
use Rattle.number.proofs.RefusalFromNumberRefusal.from.Reads as from-number-refusal
use Rattle.file.proofs.FileRefusalFromNumberRefusal.from.Kinds as file-from-number-refusal-kinds
use Rattle.file.proofs.FileRefusalFromNumberRefusal.from.Reads as file-from-number-refusal
use Rattle.file.proofs.RefusalFromFileRefusal.from.Kinds as from-file-refusal-kinds
use Rattle.file.proofs.RefusalFromFileRefusal.from.Reads as from-file-refusal
use Rattle.promises.proofs.Settled.{Settled, SamePart, SettledPart}

-- ---- grid

pub same-new : Settled 0 new-kinds.ps new-kinds.r new.Pre new.Post
same-new = ((λ κs a. tt), (λ κs a v w s t h k. h ∙ sym k))

pub same-least : Settled 0 least-kinds.ps least-kinds.r least.Pre least.Post
same-least = ((λ κs a. tt), (λ κs a v w s t h k. h ∙ sym k))

pub same-greatest : Settled 0 greatest-kinds.ps greatest-kinds.r greatest.Pre greatest.Post
same-greatest = ((λ κs a. tt), (λ κs a v w s t h k. h ∙ sym k))

pub same-of-wide : Settled 0 of-wide-kinds.ps of-wide-kinds.r of-wide.Pre of-wide.Post
same-of-wide = ((λ κs a. tt), (λ κs a v w s t h k. h ∙ sym k))

-- a wider number is a coordinate or it is none, for one reason
ok-one : {A : Type 0} (P : Type 0) (x : A) (v w : Result A OffGrid) → OkIff v P x → OkIff w P x → v ≡ w
ok-one P x (Ok a) (Ok b) h k = ap Ok (h.1 ∙ sym k.1)
ok-one P x (Ok a) (Err f) h k = absurd (k h.0)
ok-one P x (Err e) (Ok b) h k = absurd (h k.0)
ok-one P x (Err e) (Err f) h k = refl

pub same-try-from : Settled 0 try-from-kinds.ps try-from-kinds.r try-from.Pre try-from.Post
same-try-from = ((λ κs a. tt), (λ κs a v w s t h k. ok-one _ _ v w h k))

pub same-count : Settled 0 count-kinds.ps count-kinds.r count.Pre count.Post
same-count = ((λ κs a. tt), (λ κs a v w s t h k. h ∙ sym k))

pub same-at-count : Settled 0 at-count-kinds.ps at-count-kinds.r at-count.Pre at-count.Post
same-at-count = ((λ κs a. tt), (λ κs a v w s t h k. h ∙ sym k))

pub same-count-of : Settled 0 count-of-kinds.ps count-of-kinds.r count-of.Pre count-of.Post
same-count-of = ((λ κs a. tt), (λ κs a v w s t h k. h ∙ sym k))

pub same-number-at : Settled 0 number-at-kinds.ps number-at-kinds.r number-at.Pre number-at.Post
same-number-at = ((λ κs a. tt), (λ κs a v w s t h k. h ∙ sym k))

pub same-point-of : Settled 0 point-of-kinds.ps point-of-kinds.r point-of.Pre point-of.Post
same-point-of = ((λ κs a. tt), (λ κs a v w s t h k. h ∙ sym k))

-- ---- points

pub same-is-before : Settled 0 is-before-kinds.ps is-before-kinds.r is-before.Pre is-before.Post
same-is-before = ((λ κs a. tt), (λ κs a v w s t h k. h ∙ sym k))

pub same-is-same : Settled 0 is-same-kinds.ps is-same-kinds.r is-same.Pre is-same.Post
same-is-same = ((λ κs a. tt), (λ κs a v w s t h k. h ∙ sym k))

pub same-product : Settled 0 product-kinds.ps product-kinds.r product.Pre product.Post
same-product = ((λ κs a. tt), (λ κs a v w s t h k. h.is ∙ sym k.is))

pub same-turn-of : Settled 0 turn-of-kinds.ps turn-of-kinds.r turn-of.Pre turn-of.Post
same-turn-of = ((λ κs a. tt), (λ κs a v w s t h k. h ∙ sym k))

pub same-turns-left : Settled 0 turns-left-kinds.ps turns-left-kinds.r turns-left.Pre turns-left.Post
same-turns-left = ((λ κs a. tt), (λ κs a v w s t h k. h ∙ sym k))

pub same-turns-right : Settled 0 turns-right-kinds.ps turns-right-kinds.r turns-right.Pre turns-right.Post
same-turns-right = ((λ κs a. tt), (λ κs a v w s t h k. h ∙ sym k))

pub same-is-straight : Settled 0 is-straight-kinds.ps is-straight-kinds.r is-straight.Pre is-straight.Post
same-is-straight = ((λ κs a. tt), (λ κs a v w s t h k. h ∙ sym k))

-- ---- record

pub same-record-at : Settled 1 record-at-kinds.ps record-at-kinds.r record-at.Pre record-at.Post
same-record-at = ((λ κs a. tt), (λ κs a v w s t h k. h ∙ sym k))

pub same-record-count : Settled 1 record-count-kinds.ps record-count-kinds.r record-count.Pre record-count.Post
same-record-count = ((λ κs a. tt), (λ κs a v w s t h k. h ∙ sym k))

pub same-is-left : Settled 0 is-left-kinds.ps is-left-kinds.r is-left.Pre is-left.Post
same-is-left = ((λ κs a. tt), (λ κs a v w s t h k. h ∙ sym k))

pub same-other-half : Settled 0 other-half-kinds.ps other-half-kinds.r other-half.Pre other-half.Post
same-other-half = ((λ κs a. tt), (λ κs a v w s t h k. h ∙ sym k))

pub same-is-earlier : Settled 0 is-earlier-kinds.ps is-earlier-kinds.r is-earlier.Pre is-earlier.Post
same-is-earlier = ((λ κs a. tt), (λ κs a v w s t h k. h ∙ sym k))

-- ---- parts

pub same-is-elsewhere : Settled 1 is-elsewhere-kinds.ps is-elsewhere-kinds.r is-elsewhere.Pre is-elsewhere.Post
same-is-elsewhere = ((λ κs a. tt), (λ κs a v w s t h k. h ∙ sym k))

pub same-first-elsewhere : Settled 1 first-elsewhere-kinds.ps first-elsewhere-kinds.r first-elsewhere.Pre
    first-elsewhere.Post
same-first-elsewhere = ((λ κs a. tt), (λ κs a v w s t h k. h ∙ sym k))

-- ---- segment

pub same-segment-of : Settled 0 segment-of-kinds.ps segment-of-kinds.r segment-of.Pre segment-of.Post
same-segment-of = ((λ κs a. tt), (λ κs a v w s t h k. h ∙ sym k))

pub same-segment-of-left : Settled 0 segment-of-left-kinds.ps segment-of-left-kinds.r segment-of-left.Pre
    segment-of-left.Post
same-segment-of-left = ((λ κs a. tt), (λ κs a v w s t h k. h ∙ sym k))

pub same-is-record : Settled 0 is-record-kinds.ps is-record-kinds.r is-record.Pre is-record.Post
same-is-record = ((λ κs a. tt), (λ κs a v w s t h k. h ∙ sym k))

pub same-is-segment : Settled 0 is-segment-kinds.ps is-segment-kinds.r is-segment.Pre is-segment.Post
same-is-segment = ((λ κs a. tt), (λ κs a v w s t h k. h ∙ sym k))

pub same-is-vertical : Settled 0 is-vertical-kinds.ps is-vertical-kinds.r is-vertical.Pre is-vertical.Post
same-is-vertical = ((λ κs a. tt), (λ κs a v w s t h k. h ∙ sym k))

pub same-is-end : Settled 0 is-end-kinds.ps is-end-kinds.r is-end.Pre is-end.Post
same-is-end = ((λ κs a. tt), (λ κs a v w s t h k. h ∙ sym k))

pub same-is-on : Settled 0 is-on-kinds.ps is-on-kinds.r is-on.Pre is-on.Post
same-is-on = ((λ κs a. tt), (λ κs a v w s t h k. h ∙ sym k))

pub same-is-below-point : Settled 0 is-below-point-kinds.ps is-below-point-kinds.r
    is-below-point.Pre is-below-point.Post
same-is-below-point = ((λ κs a. tt), (λ κs a v w s t h k. h ∙ sym k))

pub same-is-touching : Settled 0 is-touching-kinds.ps is-touching-kinds.r is-touching.Pre is-touching.Post
same-is-touching = ((λ κs a. tt), (λ κs a v w s t h k. h ∙ sym k))

pub same-is-counted-for : Settled 0 is-counted-for-kinds.ps is-counted-for-kinds.r
    is-counted-for.Pre is-counted-for.Post
same-is-counted-for = ((λ κs a. tt), (λ κs a v w s t h k. h ∙ sym k))

pub same-is-higher : Settled 0 is-higher-kinds.ps is-higher-kinds.r is-higher.Pre is-higher.Post
same-is-higher = ((λ κs a. tt), (λ κs a v w s t h k. h ∙ sym k))

-- ---- among

pub same-has-record : Settled 1 has-record-kinds.ps has-record-kinds.r has-record.Pre has-record.Post
same-has-record = ((λ κs a. tt), (λ κs a v w s t h k. h ∙ sym k))

pub same-has-segment : Settled 1 has-segment-kinds.ps has-segment-kinds.r has-segment.Pre has-segment.Post
same-has-segment = ((λ κs a. tt), (λ κs a v w s t h k. h ∙ sym k))

pub same-is-touched : Settled 1 is-touched-kinds.ps is-touched-kinds.r is-touched.Pre is-touched.Post
same-is-touched = ((λ κs a. tt), (λ κs a v w s t h k. h ∙ sym k))

pub same-end-count : Settled 1 end-count-kinds.ps end-count-kinds.r end-count.Pre end-count.Post
same-end-count = ((λ κs a. tt), (λ κs a v w s t h k. h ∙ sym k))

pub same-counted-mark : Settled 1 counted-mark-kinds.ps counted-mark-kinds.r counted-mark.Pre counted-mark.Post
same-counted-mark = ((λ κs a. tt), (λ κs a v w s t h k. h ∙ sym k))

pub same-place-of : Settled 1 place-of-kinds.ps place-of-kinds.r place-of.Pre place-of.Post
same-place-of = ((λ κs a. tt), (λ κs a v w s t h k. h.is ∙ sym k.is))

-- ---- chart

pub same-from-chart-refusal : Settled 0 from-chart-refusal-kinds.ps from-chart-refusal-kinds.r
    from-chart-refusal.Pre from-chart-refusal.Post
same-from-chart-refusal = ((λ κs a. tt), (λ κs a v w s t h k. h ∙ sym k))

pub same-chart-new : Settled 1 chart-new-kinds.ps chart-new-kinds.r chart-new.Pre chart-new.Post
same-chart-new = ((λ κs a. tt), (λ κs a v w s t h k. h ∙ sym k))

-- equal slices are one part
one-part : (p q : Bor (List ℤ)) → p ≡ q → SamePart p q
one-part p q e = (
  ap (λ (b : Bor (List ℤ)). b.now) e,
  ap (λ (b : Bor (List ℤ)). b.ref_ptr.0) e,
  ap (λ (b : Bor (List ℤ)). b.ref_ptr.1) e,
)

pub same-numbers : SettledPart 2 numbers-kinds.ps numbers-kinds.r numbers.Pre numbers.Post
same-numbers = ((λ κs a. tt), (λ κs a p q s t h k. one-part p q (h.0 ∙ sym k.0)))

pub same-chart-record-count : Settled 2 chart-record-count-kinds.ps chart-record-count-kinds.r
    chart-record-count.Pre chart-record-count.Post
same-chart-record-count = ((λ κs a. tt), (λ κs a v w s t h k. h.0 ∙ sym k.0))

-- ---- question

pub same-is-below : Settled 0 is-below-kinds.ps is-below-kinds.r is-below.Pre is-below.Post
same-is-below = ((λ κs a. tt), (λ κs a v w s t h k. h ∙ sym k))

pub same-is-edge : Settled 1 is-edge-kinds.ps is-edge-kinds.r is-edge.Pre is-edge.Post
same-is-edge = ((λ κs a. tt), (λ κs a v w s t h k. h ∙ sym k))

pub same-place-by : Settled 0 place-by-kinds.ps place-by-kinds.r place-by.Pre place-by.Post
same-place-by = ((λ κs a. tt), (λ κs a v w s t h k. h ∙ sym k))

-- ---- nearest

pub same-highest-below : Settled 1 highest-below-kinds.ps highest-below-kinds.r highest-below.Pre highest-below.Post
same-highest-below = ((λ κs a. tt), (λ κs a v w s t h k. h.is ∙ sym k.is))

-- ---- cycles

pub same-cycles-of : Settled 1 cycles-of-kinds.ps cycles-of-kinds.r cycles-of.Pre cycles-of.Post
same-cycles-of = ((λ κs a. tt), (λ κs a v w s t h k. h ∙ sym k))

-- ---- faces

pub same-from-face-refusal : Settled 0 from-face-refusal-kinds.ps from-face-refusal-kinds.r
    from-face-refusal.Pre from-face-refusal.Post
same-from-face-refusal = ((λ κs a. tt), (λ κs a v w s t h k. h ∙ sym k))

pub same-face-from-chart-refusal : Settled 0 face-from-chart-refusal-kinds.ps face-from-chart-refusal-kinds.r
    face-from-chart-refusal.Pre face-from-chart-refusal.Post
same-face-from-chart-refusal = ((λ κs a. tt), (λ κs a v w s t h k. h ∙ sym k))

-- ---- sides

pub same-is-kept-first : Settled 2 is-kept-first-kinds.ps is-kept-first-kinds.r is-kept-first.Pre is-kept-first.Post
same-is-kept-first = ((λ κs a. tt), (λ κs a v w s t h k. h ∙ sym k))

pub same-is-kept-second : Settled 2 is-kept-second-kinds.ps is-kept-second-kinds.r
    is-kept-second.Pre is-kept-second.Post
same-is-kept-second = ((λ κs a. tt), (λ κs a v w s t h k. h ∙ sym k))

pub same-marked-afresh : Settled 2 marked-afresh-kinds.ps marked-afresh-kinds.r marked-afresh.Pre marked-afresh.Post
same-marked-afresh = ((λ κs a. tt), (λ κs a v w s t h k. h ∙ sym k))

pub same-of : SettledPart 1 of-kinds.ps of-kinds.r of.Pre of.Post
same-of = ((λ κs a. tt), (λ κs a p q s t h k. one-part p q (h.1 ∙ sym k.1)))

pub same-is-kept : Settled 1 is-kept-kinds.ps is-kept-kinds.r is-kept.Pre is-kept.Post
same-is-kept = ((λ κs a. tt), (λ κs a v w s t h k. h ∙ sym k))

pub same-pair-marked-afresh : Settled 1 pair-marked-afresh-kinds.ps pair-marked-afresh-kinds.r
    pair-marked-afresh.Pre pair-marked-afresh.Post
same-pair-marked-afresh = ((λ κs a. tt), (λ κs a v w s t h k. h ∙ sym k))

-- ---- join

pub same-chart : Settled 0 chart-kinds.ps chart-kinds.r
    chart.Pre chart.Post
same-chart = ((λ κs a. tt), (λ κs a v w s t h k. h ∙ sym k))

pub same-from-join-refusal : Settled 0 from-join-refusal-kinds.ps from-join-refusal-kinds.r
    from-join-refusal.Pre from-join-refusal.Post
same-from-join-refusal = ((λ κs a. tt), (λ κs a v w s t h k. h ∙ sym k))

-- ---- gauge

pub same-number : Settled 0 number-kinds.ps number-kinds.r
    number.Pre number.Post
same-number = ((λ κs a. tt), (λ κs a v w s t h k. h ∙ sym k))

pub same-handed : Settled 0 handed-kinds.ps handed-kinds.r handed.Pre handed.Post
same-handed = ((λ κs a. tt), (λ κs a v w s t h k. h ∙ sym k))

-- ---- file

pub same-from-number-refusal : Settled 0 from-number-refusal-kinds.ps from-number-refusal-kinds.r
    from-number-refusal.Pre from-number-refusal.Post
same-from-number-refusal = ((λ κs a. tt), (λ κs a v w s t h k. h ∙ sym k))

pub same-file-from-number-refusal : Settled 0 file-from-number-refusal-kinds.ps file-from-number-refusal-kinds.r
    file-from-number-refusal.Pre file-from-number-refusal.Post
same-file-from-number-refusal = ((λ κs a. tt), (λ κs a v w s t h k. h ∙ sym k))

pub same-from-file-refusal : Settled 0 from-file-refusal-kinds.ps from-file-refusal-kinds.r
    from-file-refusal.Pre from-file-refusal.Post
same-from-file-refusal = ((λ κs a. tt), (λ κs a v w s t h k. h ∙ sym k))
