-- Twice the area as a program finds it, over heights that are counts: two sums with nothing taken away. A breadth w by
-- the heights that a and b count is w * a + w * b less w * ground + w * ground; for mark 1 the other way round. So the
-- area is the gains less the losses: `twice_area-is` of proofs/AreaLaws.antt.
--     ground              what the height 0 reads as
--     across r            how far across the segment of a left half goes; 0 for a right half
--     strip w a b         a breadth by two counted heights
--     gain r, loss r      what r adds to either sum
--     most_term           the most that a term reaches: two products of counts
--     most_records        of how many records the sums are shown to fit
--     Term n m           m is n, a term of a sum, and no more than the most
-- Assumes nothing.
use Rattle.std.specs.Prelude.{◌≡◌, cond, ℕ, ◌+◌, ◌*◌, ◌≤◌, eqb, pos}
use Rattle.plane.specs.Columns.{breadth}
use Rattle.plane.specs.Turns.{largest_product}
use Rattle.grid.specs.Coordinates.{up}
use Rattle.record.specs.declared.Record.{Record}
use Rattle.record.specs.Records.{marked}
use Rattle.record.specs.Order.{left}
use Rattle.segment.specs.Segments.{segment}

abbrev pub ground : ℕ
ground = up (pos 0)

abbrev pub across : Record → ℕ
across r = cond (left r) (breadth (segment r)) 0

abbrev pub strip : ℕ → ℕ → ℕ → ℕ
strip w a b = w * a + w * b

unfoldable pub gain : Record → ℕ
gain r = cond (eqb r.mark marked) (strip (across r) ground ground) (strip (across r) r.dom.y r.other.y)

unfoldable pub loss : Record → ℕ
loss r = cond (eqb r.mark marked) (strip (across r) r.dom.y r.other.y) (strip (across r) ground ground)

abbrev pub most_term : ℕ
most_term = 2 * largest_product

abbrev pub most_records : ℕ
most_records = 2048

pub record Term (n m : ℕ) : Type 0 where
  pub is : m ≡ n
  pub most : m ≤ most_term
