-- What the definitions of specs/Columns.antt say of heights, beside document 01's sentences.
--     covers-is, reaches-is      the two tests, both ways
--     reaches-covers             just left of the next column is just right of this one
--     covers-spans               what covers x spans that column, the middle of the strip right of it, the next column
--     reaches-spans              what reaches x spans that column and the middle of the strip left of it
--     counted_for-slanted        "just right of x lie at or below it": lower at x, or level there and no higher in the
--                                middle of the strip right of x
--     counted_for-vertical       "whose height at x is at most y"
--     counted_for-uncovered, counted_for-unreached   nothing else is counted
--     below_point-is             "lying strictly below it there"
--     below_point-uncovered      and nothing else is
--     higher-is                  "the highest counted there; if several start at one point, the highest just to the
--                                right"
-- Segments are straight over a strip, so of two that are level at x its middle says which is higher just right of x.
-- Assumes nothing.
use mathlib.Core.Path.{◌≡◌, refl, sym, ap, ◌∙◌}
use mathlib.Core.Logic.{◌⊎◌, ◌↔◌}
use mathlib.Core.Bool.{true, false}
use Prim.Native.Nat.{ℕ, suc, ◌+◌, ◌-◌, ◌*◌, ◌<◌, ◌≤◌}
use native.Mathlib.Omega.{arith}
use lib.Dec.{ltb, eqb}
use borrow.Author.Tests.{eq-eqb, ne_eqb}
use Rattle.counts.proofs.TestLaws.{same_test, or_is, and_is, ltb-is, leb-is, eqb_is, not-ltb-is}
use Rattle.plane.specs.declared.Point.{Point}
use Rattle.plane.specs.declared.Segment.{Segment}
use Rattle.plane.specs.Points.{same}
use Rattle.plane.specs.Columns.{covers, reaches, below_point, counted_for, higher}
use Rattle.plane.proofs.Heights.{Scale, Spans, height, key}
use Rattle.plane.proofs.PointLaws.{same_true, same_refl}
use Rattle.plane.proofs.HeightLaws.{height-a}
use Rattle.plane.proofs.AboveLaws.{above-is, on-is, below-is}
use Rattle.plane.proofs.RiseLaws.{rise-is, level-slopes, start-slopes}

-- ---- the columns of a segment

pub covers-is : (x : ℕ) (t : Segment) → (covers x t ≡ true) ↔ ((t.a.x ≤ x) × (x < t.b.x))
covers-is x t = and_is _ _ (leb-is refl) (λ l. ltb-is refl)

pub reaches-is : (x : ℕ) (t : Segment) → (reaches x t ≡ true) ↔ ((t.a.x < x) × (x ≤ t.b.x))
reaches-is x t = and_is _ _ (ltb-is refl) (λ l. leb-is refl)

pub reaches-covers : (x : ℕ) (t : Segment) → reaches (suc x) t ≡ covers x t
reaches-covers x t =
    same_test (reaches (suc x) t) (covers x t)
    (λ h. let g = (reaches-is (suc x) t).0 h in (covers-is x t).1 (omega arith))
    (λ h. let g = (covers-is x t).0 h in (reaches-is (suc x) t).1 (omega arith))

pub covers-spans : {W : ℕ} (x : ℕ) (t : Segment) → t.b.x < W → covers x t ≡ true
    → Spans W t (2 * x) × Spans W t (2 * x + 1) × Spans W t (2 * suc x)
covers-spans x t small h = let g = (covers-is x t).0 h in omega arith

pub reaches-spans : {W : ℕ} (x : ℕ) (t : Segment) → t.b.x < W → reaches x t ≡ true
    → Spans W t (2 * x) × Spans W t (2 * x - 1)
reaches-spans x t small h = let g = (reaches-is x t).0 h in omega arith

-- ---- what is not counted

pub counted_for-uncovered : (s t : Segment) → s.a.x < s.b.x → covers s.a.x t ≡ false → counted_for s t ≡ false
unfolding counted_for
counted_for-uncovered s t slanted h = rw (ne_eqb s.a.x s.b.x (omega arith), h)

pub counted_for-unreached : (s t : Segment) → s.a.x ≡ s.b.x → reaches s.a.x t ≡ false → counted_for s t ≡ false
unfolding counted_for
counted_for-unreached s t upright h = rw (eq-eqb s.a.x s.b.x upright, h)

pub below_point-uncovered : (p : Point) (t : Segment) → covers p.x t ≡ false → below_point p t ≡ false
unfolding below_point
below_point-uncovered p t h = rw h

module _ {W : ℕ} (M : ℕ) (scale : Scale W M) where
  -- ---- what is counted for a mark

  pub counted_for-slanted : (s t : Segment) → s.a.x < s.b.x → s.b.x < W → t.b.x < W
      → covers s.a.x t ≡ true
      → (counted_for s t ≡ true)
      ↔ ((height M t (2 * s.a.x) < height M s (2 * s.a.x))
      ⊎ ((height M t (2 * s.a.x) ≡ height M s (2 * s.a.x)) × (key M t s.a.x ≤ key M s s.a.x)))
  unfolding counted_for
  counted_for-slanted s t slanted sm tm h =
      let strip : Spans W s (2 * s.a.x + 1) = omega arith in
      let at = covers-spans s.a.x t tm h in
      let start = sym (height-a M scale s slanted sm) in
      rw (ne_eqb s.a.x s.b.x (omega arith), h)
      (or_is _ _ (ltb-is (above-is M scale t s.a at.0 ∙ ap (ltb _) start))
      (and_is _ _ (eqb_is (on-is M scale t s.a at.0 ∙ ap (eqb _) start))
      (λ e. not-ltb-is (level-slopes M scale s t _ strip at.0 at.1 (omega arith) e))))

  pub counted_for-vertical : (s t : Segment) → s.a.x ≡ s.b.x → t.b.x < W → reaches s.a.x t ≡ true
      → (counted_for s t ≡ true) ↔ (height M t (2 * s.a.x) ≤ 2 * M * s.a.y)
  unfolding counted_for
  counted_for-vertical s t upright small h =
      rw (eq-eqb s.a.x s.b.x upright, h)
      (not-ltb-is (below-is M scale t s.a (reaches-spans s.a.x t small h).0))

  -- ---- below a point, and the nearest there

  pub below_point-is : (p : Point) (t : Segment) → t.b.x < W → covers p.x t ≡ true
      → below_point p t ≡ ltb (height M t (2 * p.x)) (2 * M * p.y)
  unfolding below_point
  below_point-is p t small h = rw h (above-is M scale t p (covers-spans p.x t small h).0)

  pub higher-is : (x : ℕ) (s t : Segment) → s.b.x < W → t.b.x < W
      → covers x s ≡ true → covers x t ≡ true
      → (higher x s t ≡ true)
      ↔ ((height M t (2 * x) < height M s (2 * x)) ⊎ ((s.a ≡ t.a) × (key M t x < key M s x)))
  unfolding higher
  higher-is x s t sm tm sx tx =
      let ss = covers-spans x s sm sx in
      let ts = covers-spans x t tm tx in
      or_is _ _ (ltb-is (rise-is M scale x s t ss.0 ts.0))
      (and_is _ _ (same_true s.a t.a, λ e. ap (same s.a) (sym e) ∙ same_refl s.a)
      (λ e. ltb-is (start-slopes M scale t s (2 * x + 1) ts.1 ss.1 (omega arith) (sym e))))
