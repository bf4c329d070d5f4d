-- Twice the area of a chart (document 01: "over non-vertical segments, width times the sum of both end heights, minus
-- for mark 1, plus for mark 0").
--     total f xs      the sum of f over the members, signed
--     heights r       the sum of both end heights
--     share r         for a left half: the width of its segment times that sum, minus for mark 1. A vertical one has no
--                     width, so it adds nothing. For a right half 0, so that each segment is taken once
--     twice_area rs   over all records
--     area_of s       the same of an array of numbers: first its refusal, if it is no chart
-- Assumes nothing.
use Rattle.std.specs.Prelude.{cond, List, [], ◌∷◌, eqb, ℤ, pos, neg_ℤ, ◌+ℤ◌, ◌*ℤ◌, Result}
use Rattle.plane.specs.Columns.{breadth}
use Rattle.grid.specs.Coordinates.{down}
use Rattle.record.specs.declared.Record.{Record}
use Rattle.record.specs.Records.{records, marked}
use Rattle.record.specs.Order.{left}
use Rattle.segment.specs.Segments.{segment}
use Rattle.chart.specs.declared.ChartRefusal.{ChartRefusal}
use Rattle.chart.specs.Verdicts.{verdict, answered}

unfoldable pub total : {A : Type 0} → (A → ℤ) → List A → ℤ
total f [] = pos 0
total f (x ∷ xs) = f x +ℤ total f xs

abbrev pub heights : Record → ℤ
heights r = down r.dom.y +ℤ down r.other.y

unfoldable pub share : Record → ℤ
share r =
    let strip = pos (breadth (segment r)) *ℤ heights r in
    cond (left r) (cond (eqb r.mark marked) (neg_ℤ strip) strip) (pos 0)

abbrev pub twice_area : List Record → ℤ
twice_area rs = total share rs

unfoldable pub area_of : List ℤ → Result ℤ ChartRefusal
area_of s = answered (verdict s) (twice_area (records s))
