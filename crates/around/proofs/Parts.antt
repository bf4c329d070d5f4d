-- What the theory of walks speaks of. Devices of the proofs: heights, W and M are those of plane's Heights.antt, charts
-- and what lies beside a column those of region's Charts.antt.
--     Part rs C            C is some of the records rs, both halves of each of its segments, each once, with an even
--                          number of its segments at every point: an even chart of its own
--     left_of C r          whether C lies on the left hand of one who walks r from its dominating end to the other
--     Ranked rs rank       a sound chart, each record once, and a number for each by document 01's order
--     Before rs rank e j   e is just before j around their corner: none of rs lies between them in the order, or j is
--                          the first there and e the last
--     Next rs rank r e     e is just before the other half of r: the record after r in its walk
--     rightwards C, leftwards C      twice what lies below the segments of C that are walked to the right, and below
--                          those that are walked to the left
-- Assumes nothing.
use mathlib.Core.Path.{◌≡◌}
use mathlib.Core.Logic.{◌⊎◌}
use mathlib.Core.Bool.{Bool, not, cond, ◌&&◌}
use mathlib.Core.List.{List}
use Prim.Native.Nat.{ℕ, ◌+◌, ◌*◌, ◌<◌, ◌≤◌}
use lib.Dec.{ltb}
use Rattle.counts.specs.Count.{◌∈◌, ind, sum, count, Even}
use Rattle.plane.specs.declared.Point.{Point}
use Rattle.plane.specs.Columns.{breadth}
use Rattle.record.specs.declared.Record.{Record}
use Rattle.record.specs.Order.{left, other_half, precedes}
use Rattle.segment.specs.Segments.{segment, is_record}
use Rattle.among.specs.Among.{end_count}
use Rattle.chart.specs.Regions.{Sound}
use Rattle.region.proofs.Charts.{upper, lower}
use Rattle.region.proofs.ChartLaws.{segments}
use Rattle.around.specs.Departing.{departs}

pub record Part (rs C : List Record) : Type 0 where
  pub sub : (r : Record) → r ∈ C → r ∈ rs
  pub halves : (r : Record) → r ∈ C → other_half r ∈ C
  pub once : (r : Record) → count (is_record r) C ≤ 1
  pub even : (p : Point) → Even (end_count C p)

unfoldable pub left_of : List Record → Record → Bool
left_of C r = cond (left r) (upper (segments C) (segment r)) (lower (segments C) (segment r))

-- ---- around a corner

pub record Ranked (rs : List Record) (rank : Record → ℕ) : Type 0 where
  pub sound : Sound rs
  pub once : (r : Record) → count (is_record r) rs ≤ 1
  pub follows : (r e : Record) → r ∈ rs → e ∈ rs → ltb (rank r) (rank e) ≡ precedes r e

pub record Before (rs : List Record) (rank : Record → ℕ) (e j : Record) : Type 0 where
  pub at : e.dom ≡ j.dom
  pub none : ((rank e < rank j)
      × ((r : Record) → r ∈ rs → r.dom ≡ j.dom → (rank r ≤ rank e) ⊎ (rank j ≤ rank r)))
      ⊎ ((r : Record) → r ∈ rs → r.dom ≡ j.dom → (rank j ≤ rank r) × (rank r ≤ rank e))

abbrev pub Next : List Record → (Record → ℕ) → Record → Record → Type 0
Next rs rank r e = Before rs rank e (other_half r)

-- ---- areas

abbrev pub underneath : Record → ℕ
underneath r = breadth (segment r) * (r.dom.y + r.other.y)

abbrev pub rightwards : List Record → ℕ
rightwards C = sum (λ r. ind (left r && departs r) * underneath r) C

abbrev pub leftwards : List Record → ℕ
leftwards C = sum (λ r. ind (left r && not (departs r)) * underneath r) C
