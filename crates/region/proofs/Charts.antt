-- What the theory asks of a chart, over the list of its segments, and the sets of segments that it counts. Devices of
-- the proofs: heights, keys, W and M are those of plane's Heights.antt.
--     EvenChart W ss     each segment with its smaller end first and before column W, and an even number ending at
--                        every point
--     Clear ss s         s is one of them or touches none of them
--     SoundChart W ss    an even chart, of which each segment is clear of the others
--     upper ss s, lower ss s     the two sides of s over the chart, as specs/TwoSides.antt has them over its records
--     from_left M c η t  t comes to column c from the left, and is below the height η there
--     to_right M c η t   t goes on from column c to the right, and is below η there
--     across M c η t     t is vertical, on column c, and η lies above its lower end and no higher than its upper one
--     under M s x t      t covers the strip right of column x, and is below s in the middle of it
--     up_to M s x t      the same, at or below
--     ends_up p t        t is vertical and ends at p, from below
-- Assumes nothing.
use mathlib.Core.Path.{◌≡◌}
use mathlib.Core.Logic.{◌⊎◌}
use mathlib.Core.Bool.{Bool, ◌&&◌}
use mathlib.Core.List.{List}
use Prim.Native.Nat.{ℕ, ◌*◌, ◌<◌}
use lib.Dec.{ltb, leb, eqb}
use Rattle.counts.specs.Count.{◌∈◌, count, any, odd, Even, ◌⊕◌}
use Rattle.plane.specs.declared.Point.{Point}
use Rattle.plane.specs.declared.Segment.{Segment}
use Rattle.plane.specs.Points.{same, Forward, is_segment}
use Rattle.plane.specs.Touching.{Touch}
use Rattle.plane.specs.Columns.{vertical, covers, reaches, counted_for, ends_at}
use Rattle.plane.proofs.Heights.{height, key}

pub record EvenChart (W : ℕ) (ss : List Segment) : Type 0 where
  pub forward : (t : Segment) → t ∈ ss → Forward t
  pub small : (t : Segment) → t ∈ ss → t.b.x < W
  pub even : (p : Point) → Even (count (ends_at p) ss)

abbrev pub Clear : List Segment → Segment → Type 0
Clear ss s = (t : Segment) → t ∈ ss → (t ≡ s) ⊎ (¬ (Touch s t))

pub record SoundChart (W : ℕ) (ss : List Segment) : Type 0 where
  pub chart : EvenChart W ss
  pub clear : (s : Segment) → s ∈ ss → Clear ss s

-- ---- the sides of a segment

abbrev pub upper : List Segment → Segment → Bool
upper ss s = odd (count (counted_for s) ss)

abbrev pub lower : List Segment → Segment → Bool
lower ss s = upper ss s ⊕ any (is_segment s) ss

-- ---- at a column

abbrev pub from_left : ℕ → ℕ → ℕ → Segment → Bool
from_left M c η t = reaches c t && ltb (height M t (2 * c)) η

abbrev pub to_right : ℕ → ℕ → ℕ → Segment → Bool
to_right M c η t = covers c t && ltb (height M t (2 * c)) η

abbrev pub across : ℕ → ℕ → ℕ → Segment → Bool
across M c η t = eqb t.a.x c && eqb t.b.x c && ltb (2 * M * t.a.y) η && leb η (2 * M * t.b.y)

-- ---- in a strip

abbrev pub under : ℕ → Segment → ℕ → Segment → Bool
under M s x t = covers x t && ltb (key M t x) (key M s x)

abbrev pub up_to : ℕ → Segment → ℕ → Segment → Bool
up_to M s x t = covers x t && leb (key M t x) (key M s x)

-- ---- vertical ones at a point

abbrev pub ends_up : Point → Segment → Bool
ends_up p t = vertical t && same t.b p
