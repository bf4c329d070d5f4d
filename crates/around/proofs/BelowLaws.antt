-- What lies below a point.
--     below_point-before    a segment that is counted below a point starts before it
-- Assumes nothing.
use mathlib.Core.Path.{◌≡◌, ap}
use mathlib.Core.Logic.{inl, inr}
use mathlib.Core.Bool.{true}
use Prim.Native.Nat.{ℕ, ◌+◌, ◌-◌, ◌*◌, ◌<◌, ◌≤◌}
use native.Mathlib.Nat.{lt_of_mul-lt-mul_left}
use native.Mathlib.Omega.{arith}
use borrow.Author.Tests.{ltb-true}
use Rattle.counts.proofs.TestLaws.{and-true, Side, less, equal, more, side}
use Rattle.plane.specs.declared.Point.{Point}
use Rattle.plane.specs.declared.Segment.{Segment}
use Rattle.plane.specs.Points.{before}
use Rattle.plane.specs.Turns.{plus, minus, turns_left}
use Rattle.plane.specs.Columns.{covers, below_point}
use Rattle.plane.proofs.PointLaws.{Before, before-intro}
use Rattle.plane.proofs.ColumnLaws.{covers-is}

pub below_point-before : (p : Point) (t : Segment) → below_point p t ≡ true → before t.a p ≡ true
unfolding below_point turns_left
below_point-before p t h =
    let g = and-true (covers p.x t) _ h in
    before-intro t.a p (go ((covers-is p.x t).0 g.0) (ltb-true _ _ g.1) (side t.a.x p.x))
  where
    go : (t.a.x ≤ p.x) × (p.x < t.b.x) → minus t.a t.b p < plus t.a t.b p
        → Side t.a.x p.x → Before t.a p
    go c l (less s) = inl s
    go c l (equal s) = inr (s, under (t.b.x - t.a.x) (omega (arith, c)))
      where
        under : (n : ℕ) → t.a.x + n ≡ t.b.x → t.a.y < p.y
        under n e =
            lt_of_mul-lt-mul_left n
            (omega (
              arith,
              l,
              ap (λ k. t.a.y * k) e,
              ap (λ k. p.y * k) e,
              ap (λ k. t.a.y * k) s,
              ap (λ k. t.b.y * k) s,
            ))
    go c l (more s) = absurd (omega (arith, c))
