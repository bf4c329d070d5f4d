-- Why document 01 counts as it does: three slips, each with an accepted chart and a point on which it goes wrong. Three
-- edits in region's must-fail/ make them; this shows that they are refused because what they make of the rule is false.
--     both_ends        right_end_counted: a segment counted at its right end too
--     with_verticals   verticals_counted: a vertical one counted where it lies below the point
--     any_highest      tie_dropped: any of the highest, though another that starts with it is higher just to the right
--     wedge, diamond   (0,0), (4,0), (4,4), and (0,2), (2,0), (4,2), (2,4)
--     Slips, slips     what each slip says of a point, and what is so
-- Assumes nothing.
use mathlib.Core.Path.{◌≡◌, refl}
use mathlib.Core.Bool.{Bool, true, false, not, cond, ◌&&◌}
use mathlib.Core.List.{List, [], ◌∷◌}
use Prim.Native.Nat.{◌*◌}
use lib.Dec.{ltb, leb, eqb}
use lib.IntN.{ℤ, pos}
use Rattle.counts.specs.Count.{sum, count, any, odd, first_index, listed}
use Rattle.counts.specs.Scan.{first_from}
use Rattle.plane.specs.declared.Point.{Point}
use Rattle.plane.specs.declared.Segment.{Segment}
use Rattle.plane.specs.Turns.{turns_left, turns_right, straight}
use Rattle.plane.specs.Touching.{within, splits, touches}
use Rattle.plane.specs.Sides.{above}
use Rattle.plane.specs.Columns.{vertical, counted_for, below_point, breadth, rise, holds, ends_at}
use Rattle.grid.specs.Coordinates.{up, point_of}
use Rattle.record.specs.declared.Record.{Record}
use Rattle.record.specs.Records.{record_at, records, marked}
use Rattle.record.specs.Order.{square_length, leads, earlier, precedes}
use Rattle.segment.specs.Segments.{segment, of_segment, is_record}
use Rattle.std.specs.Prelude.{Ok}
use Rattle.chart.specs.Verdicts.{judged, verdict}
use Rattle.region.specs.Boundaries.{counted}
use Rattle.question.specs.declared.Place.TheVariants.{Inside, Outside}
use Rattle.question.specs.Places.{place_of, placed}
use Rattle.promises.specs.Bench.{square}

unfoldable pub both_ends : Point → Segment → Bool
both_ends p t = leb t.a.x p.x && leb p.x t.b.x && above p t

unfoldable pub with_verticals : Point → Segment → Bool
with_verticals p t = cond (vertical t) (eqb t.a.x p.x && ltb t.b.y p.y) (below_point p t)

unfoldable pub any_highest : List Record → Point → Record → Bool
any_highest rs p r =
    counted p r
    && not (any (λ e. counted p e && lower (segment r) (segment e)) rs)
  where
    lower : Segment → Segment → Bool
    lower s t = ltb (rise p.x s * breadth t) (rise p.x t * breadth s)

unfoldable pub wedge : List ℤ
wedge =
    pos 0 ∷ pos 0 ∷ pos 4 ∷ pos 0 ∷ pos 1
    ∷ pos 0 ∷ pos 0 ∷ pos 4 ∷ pos 4 ∷ pos 0
    ∷ pos 4 ∷ pos 0 ∷ pos 0 ∷ pos 0 ∷ pos 1
    ∷ pos 4 ∷ pos 0 ∷ pos 4 ∷ pos 4 ∷ pos 1
    ∷ pos 4 ∷ pos 4 ∷ pos 0 ∷ pos 0 ∷ pos 0
    ∷ pos 4 ∷ pos 4 ∷ pos 4 ∷ pos 0 ∷ pos 1
    ∷ []

unfoldable pub diamond : List ℤ
diamond =
    pos 0 ∷ pos 2 ∷ pos 2 ∷ pos 0 ∷ pos 1
    ∷ pos 0 ∷ pos 2 ∷ pos 2 ∷ pos 4 ∷ pos 0
    ∷ pos 2 ∷ pos 0 ∷ pos 0 ∷ pos 2 ∷ pos 1
    ∷ pos 2 ∷ pos 0 ∷ pos 4 ∷ pos 2 ∷ pos 1
    ∷ pos 2 ∷ pos 4 ∷ pos 0 ∷ pos 2 ∷ pos 0
    ∷ pos 2 ∷ pos 4 ∷ pos 4 ∷ pos 2 ∷ pos 0
    ∷ pos 4 ∷ pos 2 ∷ pos 2 ∷ pos 4 ∷ pos 0
    ∷ pos 4 ∷ pos 2 ∷ pos 2 ∷ pos 0 ∷ pos 1
    ∷ []

pub record Slips : Type 0 where
  pub diamond-accepted : verdict diamond ≡ Ok tt
  pub centre-inside : placed diamond (point_of (pos 2) (pos 2)) ≡ Ok Inside
  pub both-ends-even : odd (count (of_segment (both_ends (point_of (pos 2) (pos 2)))) (records diamond)) ≡ false
  pub square-accepted : verdict square ≡ Ok tt
  pub over-outside : placed square (point_of (pos 0) (pos 5)) ≡ Ok Outside
  pub with-verticals-odd : odd (count (of_segment (with_verticals (point_of (pos 0) (pos 5)))) (records square)) ≡ true
  pub wedge-accepted : verdict wedge ≡ Ok tt
  pub left-outside : placed wedge (point_of (pos 0) (pos 2)) ≡ Ok Outside
  pub any-highest : any_highest (records wedge) (point_of (pos 0) (pos 2)) (record_at wedge 0) ≡ true
  pub any-marked : (record_at wedge 0).mark ≡ marked

pub slips : Slips
unfolding sum any first_index listed first_from up record_at precedes earlier leads square_length segment is_record
    touches splits within turns_left turns_right straight counted_for ends_at below_point holds
    verdict judged place_of placed both_ends with_verticals any_highest wedge diamond
slips = record {
  diamond-accepted = refl;
  centre-inside = refl;
  both-ends-even = refl;
  square-accepted = refl;
  over-outside = refl;
  with-verticals-odd = refl;
  wedge-accepted = refl;
  left-outside = refl;
  any-highest = refl;
  any-marked = refl;
}
