-- Records out of a chart array (document 01: "A chart is an array of such numbers, five per record: x and y of the
-- dominating end, x and y of the other end, side mark 0 or 1").
--     width              how many numbers a record takes
--     count_at s i       number i, counted from the grid's lower end
--     point_at s i       the point whose x is number i
--     record_at s i      record i; of an array that ends before it, what is missing reads as 0
--     record_count s     how many whole records there are: numbers left over at the end belong to none
--     first_records s n  the first n of them, in their order
--     records s          all of them
--     unmarked, marked   what the marks 0 and 1 read as
-- Assumes nothing.
use Rattle.std.specs.Prelude.{List, ℕ, ◌+◌, ◌*◌, ◌/◌, ℤ, pos, length, get_or}
use Rattle.counts.specs.Count.{listed}
use Rattle.plane.specs.declared.Point.{Point}
use Rattle.grid.specs.Coordinates.{up, point_of}
use Rattle.record.specs.declared.Record.{Record}

abbrev pub width : ℕ
width = 5

abbrev pub count_at : List ℤ → ℕ → ℕ
count_at s i = up (get_or s i (pos 0))

abbrev pub point_at : List ℤ → ℕ → Point
point_at s i = point_of (get_or s i (pos 0)) (get_or s (i + 1) (pos 0))

unfoldable pub record_at : List ℤ → ℕ → Record
record_at s i =
    record { dom = point_at s (width * i); other = point_at s (width * i + 2); mark = count_at s (width * i + 4) }

abbrev pub record_count : List ℤ → ℕ
record_count s = length s / width

abbrev pub first_records : List ℤ → ℕ → List Record
first_records s n = listed (record_at s) 0 n

abbrev pub records : List ℤ → List Record
records s = first_records s (record_count s)

abbrev pub unmarked : ℕ
unmarked = up (pos 0)

abbrev pub marked : ℕ
marked = up (pos 1)
