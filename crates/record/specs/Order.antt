-- Halves and the order of two records (document 01, "How a chart is laid out").
--     left r              a left half: the dominating end is the smaller; every other record is a right half
--     other_half r        the other half of its segment: the ends swapped, the mark the same
--     Proper r            its two ends differ
--     gap m n             how far two counts lie apart
--     square_length r     the square of its length
--     Squared r q         q is that square, and no more than two products of counts
--     leads r e           at one end and of one half: r turns counter-clockwise onto e, or lies in line with it and is
--                         shorter
--     earlier r e         at one end: right halves before left, then as `leads` says
--     precedes r e        document 01's order: the smaller dominating end first, then as `earlier` says. The mark does
--                         not count
-- Assumes nothing.
use Rattle.std.specs.Prelude.{◌≡◌, Bool, false, ◌&&◌, ◌||◌, cond, ℕ, ◌+◌, ◌-◌, ◌*◌, ◌≤◌, ltb}
use Rattle.counts.specs.Count.{◌⊕◌}
use Rattle.plane.specs.Points.{before, same}
use Rattle.plane.specs.Turns.{turns_left, straight, largest_product}
use Rattle.record.specs.declared.Record.{Record}

abbrev pub left : Record → Bool
left r = before r.dom r.other

abbrev pub other_half : Record → Record
other_half r = record { dom = r.other; other = r.dom; mark = r.mark }

abbrev pub Proper : Record → Type 0
Proper r = same r.dom r.other ≡ false

abbrev pub gap : ℕ → ℕ → ℕ
gap m n = (m - n) + (n - m)

unfoldable pub square_length : Record → ℕ
square_length r =
    gap r.dom.x r.other.x * gap r.dom.x r.other.x
    + gap r.dom.y r.other.y * gap r.dom.y r.other.y

pub record Squared (r : Record) (q : ℕ) : Type 0 where
  pub is : q ≡ square_length r
  pub most : q ≤ 2 * largest_product

unfoldable pub leads : Record → Record → Bool
leads r e =
    turns_left r.dom r.other e.other
    || (straight r.dom r.other e.other && ltb (square_length r) (square_length e))

unfoldable pub earlier : Record → Record → Bool
earlier r e = cond (left r ⊕ left e) (left e) (leads r e)

unfoldable pub precedes : Record → Record → Bool
precedes r e = before r.dom e.dom || (same r.dom e.dom && earlier r e)
