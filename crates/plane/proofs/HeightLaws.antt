-- Laws of `height`: along a segment, at a column and at its ends.
--     height-straight       the height between two half columns is their mean, by how far it is to each
--     height-rise           the height at a column, times the breadth, is the rise
--     height-a, height-b    at its own ends a segment is as high as they are
--     read                  a segment at a half column that it spans, in the additive form of MeetLaws.antt
--     height-read           its level there is its height
-- Only this file looks behind `height`. Assumes nothing.
use mathlib.Core.Path.{◌≡◌, refl, ap}
use Prim.Native.Nat.{ℕ, ◌+◌, ◌-◌, ◌*◌, ◌/◌, ◌<◌, ◌≤◌}
use native.Mathlib.Omega.{arith}
use Rattle.plane.specs.declared.Segment.{Segment}
use Rattle.plane.specs.Columns.{breadth, rise}
use Rattle.plane.proofs.Heights.{Scale, Spans, height}
use Rattle.plane.proofs.MeetLaws.{Read, level}

pub height-straight : (M : ℕ) (s : Segment) (k l m : ℕ) → 2 * s.a.x ≤ k → k ≤ l → l ≤ m → m ≤ 2 * s.b.x
    → (m - k) * height M s l ≡ (m - l) * height M s k + (l - k) * height M s m
unfolding height
height-straight M s k l m from lo hi upto =
    go (M / (s.b.x - s.a.x)) (k - 2 * s.a.x) (2 * s.b.x - m) (l - k) (m - l)
    _ _ _ _ _ (omega arith) (omega arith) (omega arith) (omega arith) (omega arith)
  where
    -- k is f past the left end, m is g before the right end, and l is i past k and j before m
    go : (q f g i j n fl fm gl gk : ℕ) → n ≡ i + j → fl ≡ f + i → fm ≡ f + i + j → gl ≡ g + j → gk ≡ g + j + i
        → n * (q * (s.a.y * gl + s.b.y * fl))
        ≡ j * (q * (s.a.y * gk + s.b.y * f)) + i * (q * (s.a.y * g + s.b.y * fm))
    go q f g i j n fl fm gl gk en el em er ek = rw (en, el, em, er, ek) (omega arith)

module _ {W : ℕ} (M : ℕ) (scale : Scale W M) where
  pub height-rise : (s : Segment) (x : ℕ) → Spans W s (2 * x) → breadth s * height M s (2 * x) ≡ 2 * M * rise x s
  unfolding height
  height-rise s x h =
      go (s.b.x - s.a.x) (M / (s.b.x - s.a.x)) (s.b.x - x) (x - s.a.x)
      (2 * s.b.x - 2 * x) (2 * x - 2 * s.a.x)
      (scale.divides _ (omega arith) (omega arith)) (omega arith) (omega arith)
    where
      go : (w q j i jj ii : ℕ) → q * w ≡ M → jj ≡ 2 * j → ii ≡ 2 * i
          → w * (q * (s.a.y * jj + s.b.y * ii)) ≡ 2 * M * (s.a.y * j + s.b.y * i)
      go w q j i jj ii e ej ei = rw (ej, ei) (omega (arith, ap (λ n. 2 * n * (s.a.y * j + s.b.y * i)) e))

  pub height-a : (s : Segment) → s.a.x < s.b.x → s.b.x < W → height M s (2 * s.a.x) ≡ 2 * M * s.a.y
  unfolding height
  height-a s h l =
      go (s.b.x - s.a.x) (M / (s.b.x - s.a.x)) (2 * s.b.x - 2 * s.a.x) (2 * s.a.x - 2 * s.a.x)
      (scale.divides _ (omega arith) (omega arith)) (omega arith) (omega arith)
    where
      go : (w q j i : ℕ) → q * w ≡ M → j ≡ 2 * w → i ≡ 0 → q * (s.a.y * j + s.b.y * i) ≡ 2 * M * s.a.y
      go w q j i e g f = rw (g, f) (omega (arith, ap (λ n. 2 * n * s.a.y) e))

  pub height-b : (s : Segment) → s.a.x < s.b.x → s.b.x < W → height M s (2 * s.b.x) ≡ 2 * M * s.b.y
  unfolding height
  height-b s h l =
      go (s.b.x - s.a.x) (M / (s.b.x - s.a.x)) (2 * s.b.x - 2 * s.b.x) (2 * s.b.x - 2 * s.a.x)
      (scale.divides _ (omega arith) (omega arith)) (omega arith) (omega arith)
    where
      go : (w q j i : ℕ) → q * w ≡ M → j ≡ 0 → i ≡ 2 * w → q * (s.a.y * j + s.b.y * i) ≡ 2 * M * s.b.y
      go w q j i e g f = rw (g, f) (omega (arith, ap (λ n. 2 * n * s.b.y) e))

  -- ---- in additive form

  unfoldable pub read : (s : Segment) (k : ℕ) → Spans W s k
      → Read s (2 * M) (2 * (s.b.x - s.a.x)) (M / (s.b.x - s.a.x)) k
  read s k h = record {
    i = k - 2 * s.a.x;
    j = 2 * s.b.x - k;
    lo = omega arith;
    hi = omega arith;
    wide = omega arith;
    unit = omega (arith, scale.divides (s.b.x - s.a.x) (omega arith) (omega arith));
  }

  pub height-read : (s : Segment) (k : ℕ) (h : Spans W s k) → level (read s k h) ≡ height M s k
  unfolding height read
  height-read s k h = refl
