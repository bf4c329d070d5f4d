-- A half column that a segment spans: inside it, or at one of its ends.
--     EndAt M s k      a point that ends s at half column k, with its height
--     inside-or-end    k that s spans is inside it, or there is such a point
--     one-point        two points of one column and one height are one
-- Assumes nothing.
use mathlib.Core.Path.{◌≡◌, refl, ap, ◌∙◌}
use mathlib.Core.Logic.{◌⊎◌, inl, inr}
use Prim.Native.Nat.{ℕ, ◌*◌}
use native.Mathlib.Nat.{eq_of_mul-eq-mul_left}
use native.Mathlib.Omega.{arith}
use Rattle.counts.proofs.TestLaws.{Side, less, equal, more, side}
use Rattle.plane.specs.declared.Point.{Point}
use Rattle.plane.specs.declared.Segment.{Segment}
use Rattle.plane.proofs.Heights.{Scale, Spans, Inside, height}
use Rattle.plane.proofs.HeightLaws.{height-a, height-b}
use Rattle.plane.proofs.WithinLaws.{EndOf}

pub record EndAt (M : ℕ) (s : Segment) (k : ℕ) : Type 0 where
  pub point : Point
  pub ends : EndOf s point
  pub column : k ≡ 2 * point.x
  pub high : height M s k ≡ 2 * M * point.y

module _ {W : ℕ} (M : ℕ) (scale : Scale W M) where
  pub inside-or-end : (s : Segment) (k : ℕ) → Spans W s k → Inside s k ⊎ EndAt M s k
  inside-or-end s k h = go (side k (2 * s.a.x)) (side k (2 * s.b.x))
    where
      go : Side k (2 * s.a.x) → Side k (2 * s.b.x) → Inside s k ⊎ EndAt M s k
      go (less l) r = absurd (omega arith)
      go (equal l) r = inr (record {
        point = s.a;
        ends = inl refl;
        column = l;
        high = ap (height M s) l ∙ height-a M scale s h.slanted h.small;
      })
      go (more l) (less r) = inl (record { past = l; ahead = r })
      go (more l) (equal r) = inr (record {
        point = s.b;
        ends = inr refl;
        column = r;
        high = ap (height M s) r ∙ height-b M scale s h.slanted h.small;
      })
      go (more l) (more r) = absurd (omega arith)

  pub one-point : (p q : Point) → p.x ≡ q.x → 2 * M * p.y ≡ 2 * M * q.y → p ≡ q
  one-point p q e g =
      let y : p.y ≡ q.y = eq_of_mul-eq-mul_left (2 * M) (omega (arith, scale.positive)) _ _ g in
      λ i. record { x = e i; y = y i }
