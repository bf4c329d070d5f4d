-- A segment at a column and beside another there (document 01, how marks are counted, points, the nearest below).
--     vertical s       its two ends have one x
--     covers x s       its left x is at most x and its right x exceeds x: just right of x there is s
--     reaches x s      its left x is below x and its right x is at least x: just left of x there is s
--                      (neither holds of a vertical one, so what is counted by them is not vertical)
--     counted_for s t  t is counted for the mark of s. For s not vertical: t covers the column of the left end of s and
--                      lies at or below s just right of it, that is, it passes below that end, or through it and then
--                      goes no higher. For s vertical: t reaches the column, and its height there is at most the
--                      lower end's
--     below_point p t  t covers the column of p and lies strictly below p there
--     breadth s        how far s goes across
--     rise x s         the height of s at column x, times its breadth: a whole number
--     higher x s t     at column x, s is higher than t; or both start at one point, and s is higher just right of it
--     ends_at p s      p is an end of s
--     holds p s        p lies on s, ends included
-- Assumes nothing.
use Rattle.std.specs.Prelude.{Bool, not, cond, ◌&&◌, ◌||◌, ℕ, ◌+◌, ◌-◌, ◌*◌, ltb, leb, eqb}
use Rattle.plane.specs.declared.Point.{Point}
use Rattle.plane.specs.declared.Segment.{Segment}
use Rattle.plane.specs.Points.{same}
use Rattle.plane.specs.Touching.{within}
use Rattle.plane.specs.Sides.{above, on, below}

abbrev pub vertical : Segment → Bool
vertical s = eqb s.a.x s.b.x

abbrev pub covers : ℕ → Segment → Bool
covers x s = leb s.a.x x && ltb x s.b.x

abbrev pub reaches : ℕ → Segment → Bool
reaches x s = ltb s.a.x x && leb x s.b.x

unfoldable pub counted_for : Segment → Segment → Bool
counted_for s t =
    cond (vertical s) (reaches s.a.x t && not (below s.a t))
    (covers s.a.x t && (above s.a t || (on s.a t && not (above t.b s))))

unfoldable pub below_point : Point → Segment → Bool
below_point p t = covers p.x t && above p t

abbrev pub breadth : Segment → ℕ
breadth s = s.b.x - s.a.x

abbrev pub rise : ℕ → Segment → ℕ
rise x s = s.a.y * (s.b.x - x) + s.b.y * (x - s.a.x)

unfoldable pub higher : ℕ → Segment → Segment → Bool
higher x s t = ltb (rise x t * breadth s) (rise x s * breadth t) || (same s.a t.a && above s.b t)

unfoldable pub ends_at : Point → Segment → Bool
ends_at p s = same s.a p || same s.b p

unfoldable pub holds : Point → Segment → Bool
holds p s = ends_at p s || within s p
