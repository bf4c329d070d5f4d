-- Two segments beside each other, by their heights.
--     rise-is         at a column, two rises, each times the other's breadth, are in the order of the heights
--     level-slopes    level where s starts: the right end of t lies above the line of s exactly if t is the higher one,
--                     at any half column after that; both are straight
--     start-slopes    the same for two that start at one point
-- Assumes nothing.
use mathlib.Core.Path.{◌≡◌, sym, ap, ◌∙◌}
use Prim.Native.Nat.{ℕ, ◌+◌, ◌-◌, ◌*◌, ◌<◌, ◌≤◌}
use native.Mathlib.Nat.{mul-pos}
use native.Mathlib.Omega.{arith}
use lib.Dec.{ltb}
use Rattle.plane.specs.declared.Point.{Point}
use Rattle.plane.specs.declared.Segment.{Segment}
use Rattle.plane.specs.Turns.{turns_left}
use Rattle.plane.specs.Sides.{above}
use Rattle.plane.specs.Columns.{breadth, rise}
use Rattle.plane.proofs.Heights.{Scale, Spans, height}
use Rattle.plane.proofs.HeightLaws.{height-a, height-b, height-straight, height-rise}
use Rattle.plane.proofs.AboveLaws.{turn-across, balance-ltb}

module _ {W : ℕ} (M : ℕ) (scale : Scale W M) where
  pub rise-is : (x : ℕ) (s t : Segment) → Spans W s (2 * x) → Spans W t (2 * x)
      → ltb (rise x t * breadth s) (rise x s * breadth t) ≡ ltb (height M t (2 * x)) (height M s (2 * x))
  rise-is x s t sx tx =
      balance-ltb (breadth s * breadth t) (2 * M) _ _ _ _
      (mul-pos (omega arith) (omega arith)) (omega (arith, scale.positive))
      (go (breadth s) (breadth t) _ _ _ _ (height-rise M scale s x sx) (height-rise M scale t x tx))
    where
      go : (w z A B p q : ℕ) → w * A ≡ 2 * M * p → z * B ≡ 2 * M * q
          → w * z * B + 2 * M * (p * z) ≡ w * z * A + 2 * M * (q * w)
      go w z A B p q e g = omega (arith, ap (λ n. z * n) e, ap (λ n. w * n) g)

  -- a segment from a point of it on: what it has gained at k, of what it gains as far as its right end
  from-point : (s : Segment) (p : Point) (k : ℕ) → Spans W s (2 * p.x) → 2 * p.x ≤ k → k ≤ 2 * s.b.x
      → height M s (2 * p.x) ≡ 2 * M * p.y
      → (s.b.x - p.x) * height M s k + M * (k - 2 * p.x) * p.y
      ≡ (s.b.x - p.x) * (2 * M * p.y) + M * (k - 2 * p.x) * s.b.y
  from-point s p k h lo hi e =
      go (s.b.x - p.x) (k - 2 * p.x) (2 * s.b.x - k) (2 * s.b.x - 2 * p.x) _ (omega arith) (omega arith)
      (rw (← e, ← height-b M scale s h.slanted h.small)
      (height-straight M s (2 * p.x) k (2 * s.b.x) (omega arith) lo hi (omega arith)))
    where
      go : (w i j n H : ℕ) → n ≡ 2 * w → i + j ≡ 2 * w → n * H ≡ j * (2 * M * p.y) + i * (2 * M * s.b.y)
          → w * H + M * i * p.y ≡ w * (2 * M * p.y) + M * i * s.b.y
      go w i j n H twice wide mean = omega (arith, ap (λ m. m * H) twice, ap (λ m. M * p.y * m) wide)

  pub level-slopes : (s t : Segment) (k : ℕ) → Spans W s k → Spans W t (2 * s.a.x) → Spans W t k → 2 * s.a.x < k
      → height M t (2 * s.a.x) ≡ height M s (2 * s.a.x) → above t.b s ≡ ltb (height M s k) (height M t k)
  unfolding turns_left
  level-slopes s t k sk ta tk past e =
      let sa : Spans W s (2 * s.a.x) = omega arith in
      let start = height-a M scale s sk.slanted sk.small in
      balance-ltb ((s.b.x - s.a.x) * (t.b.x - s.a.x)) (M * (k - 2 * s.a.x)) _ _ _ _
      (mul-pos (omega arith) (omega arith)) (mul-pos scale.positive (omega arith))
      (go (s.b.x - s.a.x) (t.b.x - s.a.x) (M * (k - 2 * s.a.x)) _ _ _ _ _ _ _
      (from-point s s.a k sa (omega arith) (omega arith) start)
      (from-point t s.a k ta (omega arith) (omega arith) (e ∙ start))
      (turn-across s.a s.b t.b _ _ (omega arith) (omega arith)))
    where
      go : (w j n A B y b c P Q : ℕ) → w * A + n * y ≡ w * (2 * M * y) + n * b → j * B + n * y ≡ j * (2 * M * y) + n * c
          → P + w * y + j * b ≡ Q + w * c + j * y → w * j * A + n * P ≡ w * j * B + n * Q
      go w j n A B y b c P Q hs ht turn =
          omega (arith, ap (λ m. j * m) hs, ap (λ m. w * m) ht, ap (λ m. n * m) turn)

  pub start-slopes : (s t : Segment) (k : ℕ) → Spans W s k → Spans W t k → 2 * s.a.x < k → s.a ≡ t.a
      → above t.b s ≡ ltb (height M s k) (height M t k)
  start-slopes s t k sk tk past e =
      level-slopes s t k sk (let c = ap (λ p. p.x) e in omega arith) tk past
      (ap (λ p. height M t (2 * p.x)) e ∙ height-a M scale t tk.slanted tk.small
      ∙ ap (λ p. 2 * M * p.y) (sym e) ∙ sym (height-a M scale s sk.slanted sk.small))
