-- The ends of the segments of a chart: an even number at every point, so an even number in any set of points.
--     one_end      a point is at most one of the two ends of a segment: the test `ends_at` counts it once
--     even-ends    of an even chart, an even number of ends lie in any set of points
-- Assumes nothing.
use mathlib.Core.Path.{◌≡◌, refl, sym, ◌∙◌}
use mathlib.Core.Bool.{Bool, true, false, ◌||◌}
use mathlib.Core.List.{List, [], ◌∷◌}
use Prim.Native.Nat.{ℕ, ◌+◌}
use native.Mathlib.Omega.{arith}
use Rattle.counts.specs.Count.{ind, sum, count, Even}
use Rattle.counts.proofs.SumLaws.{sum-ext}
use Rattle.counts.proofs.FibreLaws.{even-fibres}
use Rattle.plane.specs.declared.Point.{Point}
use Rattle.plane.specs.declared.Segment.{Segment}
use Rattle.plane.specs.Points.{same, Forward}
use Rattle.plane.specs.Columns.{ends_at}
use Rattle.plane.proofs.PointLaws.{same_true, same_refl, before-irrefl}
use Rattle.region.proofs.Charts.{EvenChart}

unfoldable ends : List Segment → List Point
ends [] = []
ends (s ∷ ss) = s.a ∷ s.b ∷ ends ss

count-ends : (q : Point → Bool) (ss : List Segment)
    → count q (ends ss) ≡ sum (λ t. ind (q t.a) + ind (q t.b)) ss
unfolding sum ends
count-ends q [] = refl
count-ends q (s ∷ ss) = omega (arith, count-ends q ss)

pub one_end : (p : Point) (t : Segment) → Forward t → ind (same t.a p) + ind (same t.b p) ≡ ind (ends_at p t)
unfolding ends_at
one_end p t f = go (same t.a p) (same t.b p) refl refl
  where
    go : (c d : Bool) → same t.a p ≡ c → same t.b p ≡ d → ind c + ind d ≡ ind (c || d)
    go true true e g = absurd (before-irrefl p (rw (same_true t.a p e, same_true t.b p g) at f))
    go true false e g = refl
    go false d e g = omega arith

pub even-ends : {W : ℕ} {ss : List Segment} → EvenChart W ss → (q : Point → Bool)
    → Even (sum (λ t. ind (q t.a) + ind (q t.b)) ss)
even-ends {W} {ss} chart q =
    rw (← count-ends q ss)
    (even-fibres (λ p r. same r p) (λ p r e. sym (same_true r p e)) same_refl (λ r. r) (ends ss) even q)
  where
    even : (p : Point) → Even (count (λ r. same r p) (ends ss))
    even p =
        rw (count-ends (λ r. same r p) ss ∙ sum-ext _ _ ss (λ t m. one_end p t (chart.forward t m))) (chart.even p)
