-- Where a point lies to a segment that is not vertical: the turn there says what the heights say.
--     balance-ltb                  two differences of which one is a multiple of the other have one sign
--     turn-across                  a turn from how far across two points lie from the first
--     above-is, on-is, below-is    a point lies above, on or below a segment as its height says: three turns
-- Assumes nothing.
use mathlib.Core.Path.{◌≡◌, sym, ap, ◌∙◌}
use Prim.Native.Nat.{ℕ, ◌+◌, ◌-◌, ◌*◌, ◌<◌}
use native.Mathlib.Nat.{mul-lt-mul_of_pos_left, lt_of_mul-lt-mul_left}
use native.Mathlib.Omega.{arith}
use lib.Dec.{ltb, eqb}
use borrow.Author.Tests.{lt-ltb, le-ltb, eq-eqb, ne_eqb}
use Rattle.counts.proofs.TestLaws.{Side, less, equal, more, side}
use Rattle.plane.specs.declared.Point.{Point}
use Rattle.plane.specs.declared.Segment.{Segment}
use Rattle.plane.specs.Turns.{plus, minus, turns_left, turns_right, straight}
use Rattle.plane.specs.Sides.{above, on, below}
use Rattle.plane.specs.Columns.{breadth}
use Rattle.plane.proofs.Heights.{Scale, Spans, height}
use Rattle.plane.proofs.HeightLaws.{height-rise}

-- ---- numbers

-- two differences that are multiples of one another are of one sign
module _ (w N A B P Q : ℕ) (hw : 0 < w) (hN : 0 < N) (e : w * A + N * P ≡ w * B + N * Q) where
  balance-lt : A < B → Q < P
  balance-lt l = lt_of_mul-lt-mul_left N (omega (arith, mul-lt-mul_of_pos_left l hw))

  balance-gt : B < A → P < Q
  balance-gt l = lt_of_mul-lt-mul_left N (omega (arith, mul-lt-mul_of_pos_left l hw))

  balance-eq : A ≡ B → Q ≡ P
  balance-eq l = go (side P Q)
    where
      go : Side P Q → Q ≡ P
      go (less h) = absurd (omega (arith, mul-lt-mul_of_pos_left h hN, ap (λ n. w * n) l))
      go (equal h) = sym h
      go (more h) = absurd (omega (arith, mul-lt-mul_of_pos_left h hN, ap (λ n. w * n) l))

  pub balance-ltb : ltb Q P ≡ ltb A B
  balance-ltb = go (side A B)
    where
      go : Side A B → ltb Q P ≡ ltb A B
      go (less l) = lt-ltb _ _ (balance-lt l) ∙ sym (lt-ltb _ _ l)
      go (equal l) = le-ltb Q P (omega (arith, balance-eq l)) ∙ sym (le-ltb A B (omega arith))
      go (more l) = le-ltb Q P (omega (arith, balance-gt l)) ∙ sym (le-ltb A B (omega arith))

  balance-eqb : eqb Q P ≡ eqb A B
  balance-eqb = go (side A B)
    where
      go : Side A B → eqb Q P ≡ eqb A B
      go (less l) = let g = balance-lt l in ne_eqb Q P (omega arith) ∙ sym (ne_eqb A B (omega arith))
      go (equal l) = eq-eqb Q P (balance-eq l) ∙ sym (eq-eqb A B l)
      go (more l) = let g = balance-gt l in ne_eqb Q P (omega arith) ∙ sym (ne_eqb A B (omega arith))

-- a turn from p, where q is w across and r is i
pub turn-across : (p q r : Point) (w i : ℕ) → p.x + w ≡ q.x → p.x + i ≡ r.x
    → plus p q r + w * p.y + i * q.y ≡ minus p q r + w * r.y + i * p.y
turn-across p q r w i e g =
    omega (arith, ap (λ n. n * r.y) e, ap (λ n. n * p.y) e, ap (λ n. n * q.y) g, ap (λ n. n * p.y) g)

-- ---- a point and a segment

module _ {W : ℕ} (M : ℕ) (scale : Scale W M) where
  -- the height of the point less that of s is a multiple of their turn
  at-point : (s : Segment) (p : Point) → Spans W s (2 * p.x)
      → breadth s * height M s (2 * p.x) + 2 * M * plus s.a s.b p
      ≡ breadth s * (2 * M * p.y) + 2 * M * minus s.a s.b p
  at-point s p h =
      go (s.b.x - s.a.x) (p.x - s.a.x) (s.b.x - p.x) (height M s (2 * p.x))
      (height-rise M scale s p.x h) (omega arith) (turn-across s.a s.b p _ _ (omega arith) (omega arith))
    where
      -- p is i past a and j before b
      go : (w i j H : ℕ) → w * H ≡ 2 * M * (s.a.y * j + s.b.y * i) → i + j ≡ w
          → plus s.a s.b p + w * s.a.y + i * s.b.y ≡ minus s.a s.b p + w * p.y + i * s.a.y
          → w * H + 2 * M * plus s.a s.b p ≡ w * (2 * M * p.y) + 2 * M * minus s.a s.b p
      go w i j H e wide g = omega (arith, ap (λ n. 2 * M * n) g, ap (λ n. 2 * M * n * s.a.y) wide)

  module _ (s : Segment) (p : Point) (h : Spans W s (2 * p.x)) where
    pub above-is : above p s ≡ ltb (height M s (2 * p.x)) (2 * M * p.y)
    unfolding turns_left
    above-is = balance-ltb _ (2 * M) _ _ _ _ (omega arith) (omega (arith, scale.positive)) (at-point s p h)

    pub on-is : on p s ≡ eqb (height M s (2 * p.x)) (2 * M * p.y)
    unfolding straight
    on-is = balance-eqb _ (2 * M) _ _ _ _ (omega arith) (omega (arith, scale.positive)) (at-point s p h)

    pub below-is : below p s ≡ ltb (2 * M * p.y) (height M s (2 * p.x))
    unfolding turns_right
    below-is = balance-ltb _ (2 * M) _ _ _ _ (omega arith) (omega (arith, scale.positive)) (sym (at-point s p h))
