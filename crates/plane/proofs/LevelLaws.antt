-- Two segments touch, told by their heights.
--     touch-level      level inside one of them
--     touch-cross      in one order at a half column, and in the other at another
--     touch-upright    a vertical segment across the inside of the other
-- The arithmetic of their common point: MeetLaws.antt. Assumes nothing.
use mathlib.Core.Path.{◌≡◌, sym, ap, ◌∙◌}
use mathlib.Core.Logic.{◌⊎◌, inl, inr}
use Prim.Native.Nat.{ℕ, ◌+◌, ◌-◌, ◌*◌, ◌<◌, ◌≤◌}
use native.Mathlib.Nat.{mul-pos, add-sub_of_le, eq-zero-or-pos}
use native.Mathlib.Omega.{arith}
use Rattle.counts.proofs.TestLaws.{lt-or-le}
use Rattle.plane.specs.declared.Segment.{Segment}
use Rattle.plane.specs.Touching.{Touch}
use Rattle.plane.proofs.Heights.{Scale, Spans, Inside, height}
use Rattle.plane.proofs.MeetLaws.{level, meet, meet-vertical}
use Rattle.plane.proofs.HeightLaws.{read, height-read}

-- ---- numbers

pos-add : (u v a b : ℕ) → ((0 < u) × (0 < a)) ⊎ ((0 < v) × (0 < b)) → 0 < u * a + v * b
pos-add u v a b (inl h) = omega (arith, mul-pos h.0 h.1)
pos-add u v a b (inr h) = omega (arith, mul-pos h.0 h.1)

-- weights at which two numbers that change their order are level
change : {A B C D : ℕ} → B < A → C < D → (u : ℕ) × (v : ℕ) × (0 < u) × (0 < v) × (u * A + v * C ≡ u * B + v * D)
change {A} {B} {C} {D} l h = go (D - C) (A - B) (omega arith) (omega arith)
  where
    go : (u v : ℕ) → C + u ≡ D → B + v ≡ A → (u : ℕ) × (v : ℕ) × (0 < u) × (0 < v) × (u * A + v * C ≡ u * B + v * D)
    go u v e g = (u, v, omega arith, omega arith, omega (arith, ap (λ n. u * n) g, ap (λ n. v * n) e))

-- ---- common points of two segments

module _ {W : ℕ} (M : ℕ) (scale : Scale W M) where
  touch-at : (s t : Segment) (p k u v : ℕ) → Spans W s p → Spans W s k → Spans W t p → Spans W t k
      → u * height M s p + v * height M s k ≡ u * height M t p + v * height M t k
      → 0 < u * (2 * s.b.x - p) + v * (2 * s.b.x - k)
      → 0 < u * (p - 2 * s.a.x) + v * (k - 2 * s.a.x) → Touch s t
  unfolding read
  touch-at s t p k u v sp sk tp tk e hj hi =
      meet (read M scale s p sp) (read M scale s k sk) (read M scale t p tp) (read M scale t k tk) u v
      (omega (arith, scale.positive)) (mean s sp sk ∙ e ∙ sym (mean t tp tk)) (omega arith) (omega arith) hj hi
    where
      -- the mean of the levels is that of the heights
      mean : (o : Segment) (op : Spans W o p) (ok : Spans W o k)
          → u * level (read M scale o p op) + v * level (read M scale o k ok) ≡ u * height M o p + v * height M o k
      mean o op ok = λ i. u * height-read M scale o p op i + v * height-read M scale o k ok i

  pub touch-level : (s t : Segment) (k : ℕ) → Spans W s k → Spans W t k → Inside s k → height M s k ≡ height M t k
      → Touch s t
  touch-level s t k sk tk inside e = touch-at s t k k 0 1 sk sk tk tk (omega arith) (omega arith) (omega arith)

  pub touch-cross : (s t : Segment) (p k : ℕ) → Spans W s p → Spans W s k → Spans W t p → Spans W t k
      → height M t p < height M s p → height M s k < height M t k → Touch s t
  touch-cross s t p k sp sk tp tk lp lk =
      let w = change lp lk in
      touch-at s t p k w.0 w.1 sp sk tp tk w.4
      (ahead w.2 w.3 (lt-or-le p k)) (behind w.2 w.3 (lt-or-le p k))
    where
      apart : (k < p) ⊎ (p ≤ k) → k ≤ p → k < p
      apart (inl h) l = h
      apart (inr h) l =
          let e : k ≡ p = omega arith in
          let turned = rw e at lk in
          omega arith

      ahead : {u v : ℕ} → 0 < u → 0 < v → (p < k) ⊎ (k ≤ p) → 0 < u * (2 * s.b.x - p) + v * (2 * s.b.x - k)
      ahead hu hv (inl l) = pos-add _ _ _ _ (inl (hu, omega arith))
      ahead hu hv (inr l) = pos-add _ _ _ _ (inr (hv, omega (arith, apart (lt-or-le k p) l)))

      behind : {u v : ℕ} → 0 < u → 0 < v → (p < k) ⊎ (k ≤ p) → 0 < u * (p - 2 * s.a.x) + v * (k - 2 * s.a.x)
      behind hu hv (inl l) = pos-add _ _ _ _ (inr (hv, omega arith))
      behind hu hv (inr l) = pos-add _ _ _ _ (inl (hu, omega (arith, apart (lt-or-le k p) l)))

  unit-pos : (q w : ℕ) → q * w ≡ 2 * M → 0 < q
  unit-pos q w e = go (eq-zero-or-pos q)
    where
      go : (q ≡ 0) ⊎ (0 < q) → 0 < q
      go (inl z) = omega (arith, scale.positive, ap (λ n. n * w) z)
      go (inr h) = h

  pub touch-upright : (s t : Segment) (c : ℕ) → Spans W s (2 * c) → Inside s (2 * c)
      → t.a.x ≡ c → t.b.x ≡ c → t.a.y < t.b.y
      → 2 * M * t.a.y ≤ height M s (2 * c) → height M s (2 * c) ≤ 2 * M * t.b.y → Touch s t
  unfolding read
  touch-upright s t c sp inside ea eb up l h =
      let S = read M scale s (2 * c) sp in
      let same : level S ≡ height M s (2 * c) = height-read M scale s (2 * c) sp in
      meet-vertical S (omega (arith, scale.positive)) ea eb
      (t.b.y - t.a.y) (2 * M * t.b.y - level S) (level S - 2 * M * t.a.y)
      (omega arith) (add-sub_of_le (omega (arith, same))) (add-sub_of_le (omega (arith, same)))
      (omega arith) (unit-pos _ _ S.unit) (omega arith) (omega arith)
