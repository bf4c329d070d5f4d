-- Which segment is walked next (document 01, "Faces, holes and area": "at its far end turn clockwise from the way back
-- to the first segment met"). Records are named by their place in the chart s. Which way a segment is walked: around's
-- specs/Departing.antt.
--     way_back s i      the other half of record i: from the far end, the way that was come
--     first_here s j    no record at the corner of record j comes before it
--     last_here s j     the last record at that corner
--     clockwise s j     turning clockwise from record j around its corner, the first record met. The record order goes
--                       around a corner once, counter-clockwise, from just past straight up: right halves end straight
--                       down, left halves straight up. So it is the record before; from the first, the last
--     next s i          after record i is walked, record `next s i` is
--     walked s i        the half by which the segment of record i is walked
-- Assumes nothing.
use Rattle.std.specs.Prelude.{Bool, cond, ◌||◌, List, ℕ, ◌-◌, eqb, ℤ}
use Rattle.counts.specs.Scan.{first_from}
use Rattle.record.specs.Records.{record_at, record_count}
use Rattle.record.specs.Order.{other_half}
use Rattle.segment.specs.Segments.{is_record}
use Rattle.parts.specs.Parts.{off_corner}
use Rattle.around.specs.Departing.{departs}

unfoldable pub way_back : List ℤ → ℕ → ℕ
way_back s i = first_from (is_record (other_half (record_at s i))) (record_at s) 0 (record_count s)

abbrev pub first_here : List ℤ → ℕ → Bool
first_here s j = eqb j 0 || off_corner (record_at s j).dom (record_at s (j - 1))

abbrev pub last_here : List ℤ → ℕ → ℕ
last_here s j = first_from (off_corner (record_at s j).dom) (record_at s) j (record_count s) - 1

unfoldable pub clockwise : List ℤ → ℕ → ℕ
clockwise s j = cond (first_here s j) (last_here s j) (j - 1)

abbrev pub next : List ℤ → ℕ → ℕ
next s i = clockwise s (way_back s i)

unfoldable pub walked : List ℤ → ℕ → ℕ
walked s i = cond (departs (record_at s i)) i (way_back s i)
