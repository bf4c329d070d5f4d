-- Which records of two charts a and b are kept, and how they stand in the result: devices that contracts cite. Document
-- 01's words for them are combined's specs.
--     kept_first op a b r      the segment of r, a record of the first chart, is kept
--     kept_second op a b r     the same of a record of the second, whose segment the first has not
--     kept_of which op a b r   the one or the other, of a record of that chart
--     side_mark op a b t       1 exactly if the upper side of the segment t, or a vertical one's left, is in the result
--     side_marked op a b r     r with that mark
-- Assumes nothing.
use Rattle.std.specs.Prelude.{Bool, not, cond, ◌&&◌, List, ℕ, ℤ}
use Rattle.plane.specs.declared.Segment.{Segment}
use Rattle.record.specs.declared.Record.{Record}
use Rattle.record.specs.Records.{records, unmarked, marked}
use Rattle.parts.specs.declared.Which.{Which}
use Rattle.parts.specs.declared.Which.TheVariants.{First, Second}
use Rattle.segment.specs.Segments.{segment}
use Rattle.among.specs.Among.{has_segment}
use Rattle.combined.specs.Kept.{upper_sides, keeps}
use Rattle.combined.specs.Results.{with_mark}
use Rattle.sides.specs.declared.Op.{Op}
use Rattle.sides.specs.Operations.{joining, both}

unfoldable pub kept_first : Op → List ℤ → List ℤ → Record → Bool
kept_first op a b r = keeps (joining op) (both a b) (segment r)

unfoldable pub kept_second : Op → List ℤ → List ℤ → Record → Bool
kept_second op a b r = not (has_segment (records a) (segment r)) && kept_first op a b r

-- by the chart alone, so that it reduces where a law leaves the arrays or the record out
abbrev pub kept_of : Which → Op → List ℤ → List ℤ → Record → Bool
kept_of First = kept_first
kept_of Second = kept_second

-- ---- the marks, by the upper sides

abbrev pub side_mark : Op → List ℤ → List ℤ → Segment → ℕ
side_mark op a b t = cond (joining op (upper_sides (both a b) t)) marked unmarked

unfoldable pub side_marked : Op → List ℤ → List ℤ → Record → Record
side_marked op a b r = with_mark (side_mark op a b (segment r)) r
