-- One record, segment or point among records rs (document 01, "How a chart is laid out" and "When a chart is turned
-- away").
--     has rs e             the record e is there, with its mark
--     has_segment rs s     the segment s is there
--     touched rs s         s touches one of the segments
--     end_count rs p       how many segments end at p
--     mark_count rs s      how many of the segments are counted for the mark of s
--     counted_mark rs s    mark 1 exactly if that number is odd
-- Assumes nothing.
use Rattle.std.specs.Prelude.{Bool, cond, List, ℕ}
use Rattle.counts.specs.Count.{count, any, odd}
use Rattle.plane.specs.declared.Point.{Point}
use Rattle.plane.specs.declared.Segment.{Segment}
use Rattle.plane.specs.Points.{is_segment}
use Rattle.plane.specs.Touching.{touches}
use Rattle.plane.specs.Columns.{counted_for, ends_at}
use Rattle.record.specs.declared.Record.{Record}
use Rattle.record.specs.Records.{unmarked, marked}
use Rattle.segment.specs.Segments.{of_segment, is_record}

abbrev pub has : List Record → Record → Bool
has rs e = any (is_record e) rs

abbrev pub has_segment : List Record → Segment → Bool
has_segment rs s = any (of_segment (is_segment s)) rs

abbrev pub touched : List Record → Segment → Bool
touched rs s = any (of_segment (touches s)) rs

abbrev pub end_count : List Record → Point → ℕ
end_count rs p = count (of_segment (ends_at p)) rs

abbrev pub mark_count : List Record → Segment → ℕ
mark_count rs s = count (of_segment (counted_for s)) rs

abbrev pub counted_mark : List Record → Segment → ℕ
counted_mark rs s = cond (odd (mark_count rs s)) marked unmarked
