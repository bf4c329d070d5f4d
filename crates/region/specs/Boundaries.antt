-- A point and the boundaries of a chart, which are its segments (document 01, "Points, corners and heads").
--     held rs p             p lies on a segment, ends included
--     counted p r           the segment of r, which is its left half, lies strictly below p at its column
--     below rs p            how many are counted there
--     higher_below p t e    the segment of e is counted below p, and is higher there than t
--     nearest rs p r        the segment of r is counted below p, and no other counted there is higher
-- Assumes nothing.
use Rattle.std.specs.Prelude.{Bool, not, ◌&&◌, List, ℕ}
use Rattle.counts.specs.Count.{count, any}
use Rattle.plane.specs.declared.Point.{Point}
use Rattle.plane.specs.declared.Segment.{Segment}
use Rattle.plane.specs.Columns.{holds, below_point, higher}
use Rattle.record.specs.declared.Record.{Record}
use Rattle.segment.specs.Segments.{segment, of_segment}

abbrev pub held : List Record → Point → Bool
held rs p = any (of_segment (holds p)) rs

abbrev pub counted : Point → Record → Bool
counted p r = of_segment (below_point p) r

abbrev pub below : List Record → Point → ℕ
below rs p = count (counted p) rs

abbrev pub higher_below : Point → Segment → Record → Bool
higher_below p t e = counted p e && higher p.x (segment e) t

abbrev pub nearest : List Record → Point → Record → Bool
nearest rs p r = counted p r && not (any (higher_below p (segment r)) rs)
