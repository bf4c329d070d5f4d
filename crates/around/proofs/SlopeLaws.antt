-- Two segments with a common end, not touching: how they turn there, by their heights beside it.
--     scaled           heights of points are in the order of the points
--     steeper-start    of one that goes right and one that goes up from its start, the latter turns left of it
--     steeper-end      of one that comes from the left and one that comes from below to its end, the same
--     lower-end        of two that come from the left to one end, the lower turns left of the higher
-- Assumes nothing.
use mathlib.Core.Path.{◌≡◌, sym, ap, ◌∙◌}
use mathlib.Core.Logic.{◌⊎◌, inl, inr}
use mathlib.Core.Bool.{true}
use Prim.Native.Nat.{ℕ, ◌+◌, ◌*◌, ◌<◌, ◌≤◌}
use native.Mathlib.Nat.{mul-lt-mul_of_pos_left}
use native.Mathlib.Omega.{arith}
use borrow.Author.Tests.{lt-ltb}
use Rattle.counts.proofs.TestLaws.{lt-or-le, Side, less, equal, more, side}
use Rattle.plane.specs.declared.Segment.{Segment}
use Rattle.plane.specs.Turns.{turns_left}
use Rattle.plane.specs.Touching.{Touch}
use Rattle.plane.specs.Sides.{above}
use Rattle.plane.proofs.Heights.{Scale, Spans, height, key}
use Rattle.plane.proofs.HeightLaws.{height-a, height-b}
use Rattle.plane.proofs.AboveLaws.{above-is, below-is}
use Rattle.plane.proofs.DeterminantLaws.{turns_left-turn, turns_left-swap}
use Rattle.plane.proofs.OrderLaws.{order-left}

pub scaled : {W : ℕ} (M : ℕ) → Scale W M → (m n : ℕ) → m < n → 2 * M * m < 2 * M * n
scaled M scale m n l = mul-lt-mul_of_pos_left {k = 2 * M} l (omega (arith, scale.positive))

module _ {W : ℕ} (M : ℕ) (scale : Scale W M) (s t : Segment) where
  module _ (slanted : s.a.x < s.b.x) (small : s.b.x < W)
      (upright : t.a.x ≡ t.b.x) (up : t.a.y < t.b.y) where
    pub steeper-start : s.a ≡ t.a → above t.b s ≡ true
    steeper-start d =
        let column : t.b.x ≡ s.a.x = sym (ap (λ p. p.x) d ∙ upright) in
        let start = ap (λ n. height M s (2 * n)) column ∙ height-a M scale s slanted small in
        let higher : s.a.y < t.b.y = omega (arith, ap (λ p. p.y) d) in
        above-is M scale s t.b (omega arith)
        ∙ lt-ltb (height M s (2 * t.b.x)) (2 * M * t.b.y) (omega (arith, scaled M scale _ _ higher))

    pub steeper-end : s.b ≡ t.b → turns_left s.b s.a t.a ≡ true
    steeper-end d =
        let column : t.a.x ≡ s.b.x = upright ∙ sym (ap (λ p. p.x) d) in
        let end = ap (λ n. height M s (2 * n)) column ∙ height-b M scale s slanted small in
        let lower : t.a.y < s.b.y = omega (arith, ap (λ p. p.y) d) in
        turns_left-swap s.a s.b t.a ∙ below-is M scale s t.a (omega arith)
        ∙ lt-ltb (2 * M * t.a.y) (height M s (2 * t.a.x)) (omega (arith, scaled M scale _ _ lower))

  module _ (free : ¬ (Touch t s)) (d : s.b ≡ t.b) (z : ℕ)
      (sz : Spans W s (2 * z + 1)) (tz : Spans W t (2 * z + 1)) (l : key M s z < key M t z) where
    -- from the strip to the left s stays lower: they have only one end in common
    lower-left : (k : ℕ) → Spans W s k → Spans W t k → k < 2 * z + 1 → height M s k < height M t k
    lower-left k sk tk h =
        go (side (height M s k) (height M t k)) (order-left M scale t s free (2 * z + 1) k tz tk sz sk h l)
      where
        go : Side (height M s k) (height M t k)
            → (height M s k ≤ height M t k) × (height M s k ≡ height M t k → (k ≡ 2 * t.a.x) × (t.a ≡ s.a))
            → height M s k < height M t k
        go (less g) o = g
        go (equal g) o =
            let start = (o.1 g).1 in
            let one : t ≡ s = λ i. record { a = start i; b = sym d i } in
            absurd (omega (arith, ap (λ u. key M u z) one))
        go (more g) o = absurd (omega (arith, o.0))

    pub lower-end : turns_left t.b t.a s.a ≡ true
    lower-end = go (lt-or-le s.a.x t.a.x)
      where
        go : (s.a.x < t.a.x) ⊎ (t.a.x ≤ s.a.x) → turns_left t.b t.a s.a ≡ true
        go (inl h) =
            let spans : Spans W s (2 * t.a.x) = omega arith in
            ap (λ p. turns_left p t.a s.a) (sym d)
            ∙ turns_left-turn s.a s.b t.a ∙ above-is M scale s t.a spans
            ∙ lt-ltb (height M s (2 * t.a.x)) (2 * M * t.a.y) (omega (
              arith,
              height-a M scale t tz.slanted tz.small,
              lower-left (2 * t.a.x) spans (omega arith) (omega arith),
            ))
        go (inr h) =
            let spans : Spans W t (2 * s.a.x) = omega arith in
            turns_left-swap t.a t.b s.a ∙ below-is M scale t s.a spans
            ∙ lt-ltb (2 * M * s.a.y) (height M t (2 * s.a.x)) (omega (
              arith,
              height-a M scale s sz.slanted sz.small,
              lower-left (2 * s.a.x) (omega arith) spans (omega arith),
            ))
