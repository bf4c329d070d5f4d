-- When two segments touch (document 01: "Two distinct segments touch if they share a point that is not an end of
-- both"). The shared point is one of the plane, not of the grid, so it is named by weights: α parts of one end and β of
-- the other.
--     Touch s t      they share a point that is not an end of both; said of a segment and itself too
--     within s p     p lies inside s, and is none of its ends
--     splits s t     the ends of t lie on different sides of the line of s, and not on it
--     touches s t    what a program computes: they cross, or an end of one lies within the other
-- For distinct segments with the smaller end first the two agree, both ways: `touches-is` of proofs/TouchLaws.antt.
-- Assumes nothing.
use Rattle.std.specs.Prelude.{◌≡◌, ◌⊎◌, Bool, ◌&&◌, ◌||◌, ℕ, ◌+◌, ◌*◌, ◌<◌}
use Rattle.plane.specs.declared.Point.{Point}
use Rattle.plane.specs.declared.Segment.{Segment}
use Rattle.plane.specs.Points.{before}
use Rattle.plane.specs.Turns.{turns_left, turns_right, straight}

pub record Touch (s t : Segment) : Type 0 where
  pub α : ℕ
  pub β : ℕ
  pub γ : ℕ
  pub δ : ℕ
  pub total : α + β ≡ γ + δ
  pub on-x : α * s.a.x + β * s.b.x ≡ γ * t.a.x + δ * t.b.x
  pub on-y : α * s.a.y + β * s.b.y ≡ γ * t.a.y + δ * t.b.y
  -- not an end of both: strictly between the ends of s, or of t
  pub inner : ((0 < α) × (0 < β)) ⊎ ((0 < γ) × (0 < δ))

unfoldable pub within : Segment → Point → Bool
within s p = before s.a p && before p s.b && straight s.a s.b p

unfoldable pub splits : Segment → Segment → Bool
splits s t =
    (turns_left s.a s.b t.a && turns_right s.a s.b t.b)
    || (turns_right s.a s.b t.a && turns_left s.a s.b t.b)

unfoldable pub touches : Segment → Segment → Bool
touches s t = (splits s t && splits t s) || within s t.a || within s t.b || within t s.a || within t s.b
