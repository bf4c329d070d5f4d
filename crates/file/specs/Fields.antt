-- What a number of a chart file gives the array (document 01: "then each record: four signed numbers and the mark").
-- n is a number of the file that stands from the place `at` to the place `next`, k the place of the array that it is
-- for.
--     Field                  what the array gets and the next place of the file, or the refusal
--     put z next             the array gets z
--     coordinate_for n       the signed number that n stands for; None for "a coordinate off the grid"
--     mark_for n             n itself; None for "a mark above 1"
--     is_mark k              the last of a record's five numbers is the mark
--     number_for k n         what n is at the place k of the array
--     fit z at next          that number; where it is None, 33, at the first byte of the number
--     field k n at next      what the array gets at its place k, and the next place of the file
--     field_in k at a        the same of what stands at the place `at`: the refusal, where that is no number
--     field_at s k at        the same of the number at the place `at` of a file s
-- Assumes nothing.
use Rattle.std.specs.Prelude.{Bool, cond, List, ℕ, ◌%◌, leb, eqb, ℤ, pos, Option, Some, None, Result, Ok, Err}
use Rattle.grid.specs.Coordinates.{on_grid}
use Rattle.record.specs.Records.{width}
use Rattle.file.specs.declared.FileRefusal.{FileRefusal}
use Rattle.file.specs.declared.FileRefusal.TheVariants.{NoNumber, Unfit}
use Rattle.number.specs.Numbers.{Number, number_at, signed}

abbrev pub Field : Type 0
Field = Result (ℤ × ℕ) FileRefusal

abbrev pub put : ℤ → ℕ → Field
put z next = Ok (z, next)

unfoldable pub coordinate_for : ℕ → Option ℤ
coordinate_for n = cond (on_grid (signed n)) (Some (signed n)) None

abbrev pub mark_for : ℕ → Option ℤ
mark_for n = cond (leb n 1) (Some (pos n)) None

abbrev pub is_mark : ℕ → Bool
is_mark k = eqb (k % width) 4

unfoldable pub number_for : ℕ → ℕ → Option ℤ
unfolding coordinate_for
number_for k n = cond (is_mark k) (mark_for n) (coordinate_for n)

abbrev pub fit : Option ℤ → ℕ → ℕ → Field
fit (Some z) at next = put z next
fit None at next = Err (Unfit at)

unfoldable pub field : ℕ → ℕ → ℕ → ℕ → Field
unfolding number_for
field k n at next = fit (number_for k n) at next

abbrev pub field_in : ℕ → ℕ → Number → Field
field_in k at (Ok (n, next)) = field k n at next
field_in k at (Err r) = Err (NoNumber r)

abbrev pub field_at : List ℕ → ℕ → ℕ → Field
field_at s k at = field_in k at (number_at s at)
