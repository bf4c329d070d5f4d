-- Where a point lies to a chart (document 01, "Points, corners and heads"), as an answer to an array of numbers. What
-- lies below a point: region's specs/Boundaries.antt.
--     by_count rs p     Inside where an odd number of segments lies below p, else Outside
--     place_by e b      Edge where e holds; else Inside where b does, else Outside
--     place_of rs p     Edge where a segment holds p; else by the count
--     placed s p        where p lies to the chart s: first its refusal, if it is no chart
--     is_inside a       the answer is Inside
-- Assumes nothing.
use Rattle.std.specs.Prelude.{Bool, true, false, cond, List, ℤ, Result, Ok, Err}
use Rattle.counts.specs.Count.{odd}
use Rattle.plane.specs.declared.Point.{Point}
use Rattle.record.specs.declared.Record.{Record}
use Rattle.record.specs.Records.{records}
use Rattle.chart.specs.declared.ChartRefusal.{ChartRefusal}
use Rattle.chart.specs.Verdicts.{verdict, answered}
use Rattle.region.specs.Boundaries.{held, below}
use Rattle.question.specs.declared.Place.{Place}
use Rattle.question.specs.declared.Place.TheVariants as place

abbrev pub by_count : List Record → Point → Place
by_count rs p = cond (odd (below rs p)) place.Inside place.Outside

abbrev pub place_by : Bool → Bool → Place
place_by e b = cond e place.Edge (cond b place.Inside place.Outside)

unfoldable pub place_of : List Record → Point → Place
place_of rs p = place_by (held rs p) (odd (below rs p))

abbrev pub is_inside : Result Place ChartRefusal → Bool
is_inside (Ok place.Outside) = false
is_inside (Ok place.Inside) = true
is_inside (Ok place.Edge) = false
is_inside (Err r) = false

unfoldable pub placed : List ℤ → Point → Result Place ChartRefusal
placed s p = answered (verdict s) (place_of (records s) p)
