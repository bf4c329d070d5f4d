-- The nearest segment below a point of a chart (document 01, "Points, corners and heads"), as an answer to an array of
-- numbers, and what its side mark says. What is nearest below a point: region's specs/Boundaries.antt.
--     nearest_of s n p     the index of the first record among n that is nearest below p; None where there is none
--     nearest_below s p    the nearest below p in the chart s: first its refusal, if it is no chart
--     by_mark s a          what the side mark of the record that a names says: Inside where it is 1, else Outside;
--                          Outside where a names none
-- Assumes nothing.
use Rattle.std.specs.Prelude.{cond, List, ℕ, ltb, eqb, ℤ, Option, Some, None, Result, Ok, Err}
use Rattle.counts.specs.Scan.{first_from}
use Rattle.plane.specs.declared.Point.{Point}
use Rattle.record.specs.Records.{record_at, record_count, first_records, marked}
use Rattle.chart.specs.declared.ChartRefusal.{ChartRefusal}
use Rattle.chart.specs.Verdicts.{verdict, answered}
use Rattle.region.specs.Boundaries.{nearest}
use Rattle.question.specs.declared.Place.{Place}
use Rattle.question.specs.declared.Place.TheVariants as place

unfoldable pub nearest_of : List ℤ → ℕ → Point → Option ℕ
nearest_of s n p =
    let i = first_from (nearest (first_records s n) p) (record_at s) 0 n in
    cond (ltb i n) (Some i) None

unfoldable pub nearest_below : List ℤ → Point → Result (Option ℕ) ChartRefusal
nearest_below s p = answered (verdict s) (nearest_of s (record_count s) p)

abbrev pub by_mark : List ℤ → Result (Option ℕ) ChartRefusal → Result Place ChartRefusal
by_mark s (Ok None) = Ok place.Outside
by_mark s (Ok (Some i)) = Ok (cond (eqb (record_at s i).mark marked) place.Inside place.Outside)
by_mark s (Err r) = Err r
