-- The result of combining charts (document 01, "Joining two charts": the kept segments "in record order, marked
-- afresh"), as records and as the numbers of an array.
--     inserted r rs     r put among rs, which are in record order, before the first that does not precede it
--     in_order rs       rs in record order
--     with_mark m r     r with the mark m
--     remarked rs       each with the mark by document 01's count over rs themselves
--     result f cs       the kept records in record order, marked afresh
--     numbers rs        the array of these records, five numbers each
-- Assumes nothing.
use Rattle.std.specs.Prelude.{Bool, cond, List, [], ◌∷◌, map, ℕ, ℤ}
use Rattle.grid.specs.Coordinates.{down}
use Rattle.record.specs.declared.Record.{Record}
use Rattle.record.specs.Order.{precedes}
use Rattle.segment.specs.Segments.{segment}
use Rattle.among.specs.Among.{counted_mark}
use Rattle.combined.specs.Kept.{kept}

unfoldable pub inserted : Record → List Record → List Record
inserted r [] = r ∷ []
inserted r (e ∷ es) = cond (precedes e r) (e ∷ inserted r es) (r ∷ e ∷ es)

unfoldable pub in_order : List Record → List Record
in_order [] = []
in_order (r ∷ rs) = inserted r (in_order rs)

abbrev pub with_mark : ℕ → Record → Record
with_mark m r = record { dom = r.dom; other = r.other; mark = m }

abbrev pub remarked : List Record → List Record
remarked rs = map (λ r. with_mark (counted_mark rs (segment r)) r) rs

abbrev pub result : (List Bool → Bool) → List (List Record) → List Record
result f cs = remarked (in_order (kept f cs))

unfoldable pub numbers : List Record → List ℤ
numbers [] = []
numbers (r ∷ rs) =
    down r.dom.x ∷ down r.dom.y ∷ down r.other.x ∷ down r.other.y ∷ down r.mark ∷ numbers rs
