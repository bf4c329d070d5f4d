-- The two sides of a segment over a chart that need not have it (document 01, "Joining two charts": "A segment's upper
-- side, or a vertical one's left, lies in a chart exactly if the mark's count for that segment, taken over that chart's
-- own segments, is odd; so does its other side, but the reverse if the chart has that segment").
--     upper_side rs s     whether the upper side of s, or the left of a vertical one, lies in the chart
--     lower_side rs s     whether the other side does
-- Assumes nothing.
use Rattle.std.specs.Prelude.{Bool, List}
use Rattle.counts.specs.Count.{odd, ◌⊕◌}
use Rattle.plane.specs.declared.Segment.{Segment}
use Rattle.record.specs.declared.Record.{Record}
use Rattle.among.specs.Among.{has_segment, mark_count}

abbrev pub upper_side : List Record → Segment → Bool
upper_side rs s = odd (mark_count rs s)

abbrev pub lower_side : List Record → Segment → Bool
lower_side rs s = upper_side rs s ⊕ has_segment rs s
