-- Where a point lies to a segment that is not vertical, told by a turn at its smaller end.
--     above p s, on p s, below p s    p lies above the line of s, on it, below it
-- Assumes nothing.
use Rattle.std.specs.Prelude.{Bool}
use Rattle.plane.specs.declared.Point.{Point}
use Rattle.plane.specs.declared.Segment.{Segment}
use Rattle.plane.specs.Turns.{turns_left, turns_right, straight}

abbrev pub above : Point → Segment → Bool
above p s = turns_left s.a s.b p

abbrev pub on : Point → Segment → Bool
on p s = straight s.a s.b p

abbrev pub below : Point → Segment → Bool
below p s = turns_right s.a s.b p
