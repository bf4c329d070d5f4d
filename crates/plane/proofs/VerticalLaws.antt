-- A vertical segment and its column.
--     upright-between    a point of it above its lower end and below its upper one is between them
--     upright-side       F3: it lies at or above another segment that spans its column and does not touch it, or at or
--                        below that one, and meets it only in a common end
-- Assumes nothing.
use mathlib.Core.Path.{◌≡◌, ap}
use mathlib.Core.Logic.{◌⊎◌, inl, inr}
use Prim.Native.Nat.{ℕ, ◌+◌, ◌-◌, ◌*◌, ◌<◌, ◌≤◌}
use native.Mathlib.Nat.{mul-lt-mul_of_pos_left}
use native.Mathlib.Omega.{arith}
use Rattle.counts.proofs.TestLaws.{lt-or-le, Side, less, equal, more, side}
use Rattle.plane.specs.declared.Point.{Point}
use Rattle.plane.specs.declared.Segment.{Segment}
use Rattle.plane.specs.Touching.{Touch}
use Rattle.plane.proofs.Heights.{Scale, Spans, Inside, height}
use Rattle.plane.proofs.WithinLaws.{EndOf, Between}
use Rattle.plane.proofs.ContactLaws.{touch-sym}
use Rattle.plane.proofs.CrossLaws.{between-touch}
use Rattle.plane.proofs.LevelLaws.{touch-upright}
use Rattle.plane.proofs.SpanLaws.{EndAt, inside-or-end, one-point}

pub upright-between : (t : Segment) (d : Point) → t.a.x ≡ d.x → t.b.x ≡ d.x
    → t.a.y < d.y → d.y < t.b.y → Between t d
upright-between t d ea eb lo hi = go (t.b.y - d.y) (d.y - t.a.y) (omega arith) (omega arith)
  where
    go : (α β : ℕ) → d.y + α ≡ t.b.y → t.a.y + β ≡ d.y → Between t d
    go α β e g = record {
      α = α;
      β = β;
      hα = omega arith;
      hβ = omega arith;
      on-x = omega (arith, ap (λ n. α * n) ea, ap (λ n. β * n) eb);
      on-y = omega (arith, ap (λ n. β * n) e, ap (λ n. α * n) g);
    }

module _ {W : ℕ} (M : ℕ) (scale : Scale W M) (s t : Segment) (free : ¬ (Touch s t)) where
  pub upright-side : (c : ℕ) → Spans W s (2 * c) → t.a.x ≡ c → t.b.x ≡ c → t.a.y < t.b.y
      → ((2 * M * t.b.y ≤ height M s (2 * c)) × (2 * M * t.b.y ≡ height M s (2 * c) → EndOf s t.b))
      ⊎ ((height M s (2 * c) ≤ 2 * M * t.a.y) × (height M s (2 * c) ≡ 2 * M * t.a.y → EndOf s t.a))
  upright-side c sc ea eb up = go (inside-or-end M scale s (2 * c) sc)
    where
      Answer : Type 0
      Answer =
          ((2 * M * t.b.y ≤ height M s (2 * c)) × (2 * M * t.b.y ≡ height M s (2 * c) → EndOf s t.b))
          ⊎ ((height M s (2 * c) ≤ 2 * M * t.a.y) × (height M s (2 * c) ≡ 2 * M * t.a.y → EndOf s t.a))

      -- inside s it lies clear of s on one side
      clear : Inside s (2 * c) → (height M s (2 * c) < 2 * M * t.a.y) ⊎ (2 * M * t.a.y ≤ height M s (2 * c))
          → (2 * M * t.b.y < height M s (2 * c)) ⊎ (height M s (2 * c) ≤ 2 * M * t.b.y) → Answer
      clear i (inl l) r = inr (omega arith, λ e. absurd (omega arith))
      clear i (inr l) (inl r) = inl (omega arith, λ e. absurd (omega arith))
      clear i (inr l) (inr r) = absurd (free (touch-upright M scale s t c sc i ea eb up l r))

      -- at an end of s, which does not lie between the ends of t
      beside : (d : EndAt M s (2 * c)) → Side d.point.y t.a.y → Side d.point.y t.b.y → Answer
      beside d (less l) r =
          let m = mul-lt-mul_of_pos_left {k = 2 * M} l (omega (arith, scale.positive)) in
          inr (omega (arith, d.high), λ e. absurd (omega (arith, d.high)))
      beside d (equal l) r =
          let same = one-point M scale d.point t.a (omega (arith, d.column)) (ap (λ n. 2 * M * n) l) in
          inr (omega (arith, d.high, ap (λ n. 2 * M * n) l), λ e. rw same at d.ends)
      beside d (more l) (less r) =
          let inner : Between t d.point =
          upright-between t d.point (omega (arith, d.column)) (omega (arith, d.column)) l r in
          absurd (free (touch-sym (between-touch t s d.point inner d.ends)))
      beside d (more l) (equal r) =
          let same = one-point M scale d.point t.b (omega (arith, d.column)) (ap (λ n. 2 * M * n) r) in
          inl (omega (arith, d.high, ap (λ n. 2 * M * n) r), λ e. rw same at d.ends)
      beside d (more l) (more r) =
          let m = mul-lt-mul_of_pos_left {k = 2 * M} r (omega (arith, scale.positive)) in
          inl (omega (arith, d.high), λ e. absurd (omega (arith, d.high)))

      go : Inside s (2 * c) ⊎ EndAt M s (2 * c) → Answer
      go (inl i) =
          clear i (lt-or-le (height M s (2 * c)) (2 * M * t.a.y)) (lt-or-le (2 * M * t.b.y) (height M s (2 * c)))
      go (inr d) = beside d (side d.point.y t.a.y) (side d.point.y t.b.y)
