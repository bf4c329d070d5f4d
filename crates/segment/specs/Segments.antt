-- The segment of a record (document 01: "Each segment has both" halves), and records as a chart's segments.
--     segment r          the segment that r is a half of, its smaller end first
--     of_segment q r     r is the left half of a segment that passes q. A chart has one left half for each of its
--                        segments, so counting these counts segments
--     is_record e r      r is the record e, its mark too
--     Rise x s r         r is the rise of s at column x, and no more than two products of counts
-- Assumes nothing.
use Rattle.std.specs.Prelude.{◌≡◌, Bool, cond, ◌&&◌, ℕ, ◌*◌, ◌≤◌, eqb}
use Rattle.plane.specs.declared.Segment.{Segment}
use Rattle.plane.specs.Points.{same}
use Rattle.plane.specs.Turns.{largest_product}
use Rattle.plane.specs.Columns.{rise}
use Rattle.record.specs.declared.Record.{Record}
use Rattle.record.specs.Order.{left}

unfoldable pub segment : Record → Segment
segment r = cond (left r) (record { a = r.dom; b = r.other }) (record { a = r.other; b = r.dom })

abbrev pub of_segment : (Segment → Bool) → Record → Bool
of_segment q r = left r && q (segment r)

unfoldable pub is_record : Record → Record → Bool
is_record e r = same r.dom e.dom && same r.other e.other && eqb r.mark e.mark

pub record Rise (x : ℕ) (s : Segment) (r : ℕ) : Type 0 where
  pub is : r ≡ rise x s
  pub most : r ≤ 2 * largest_product
