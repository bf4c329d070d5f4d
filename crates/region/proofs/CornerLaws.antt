-- How the parities left and right of a column differ, at a point p of it that lies inside no segment of a chart.
--     across-ends     across the height of p lies just what ends there from below
--     corner-below    below p they differ exactly if a vertical segment ends there, from below
-- Assumes nothing.
use mathlib.Core.Path.{◌≡◌, refl, sym, ap, ◌∙◌}
use mathlib.Core.Logic.{inl, inr, ◌↔◌}
use mathlib.Core.Bool.{Bool, true, false, ◌&&◌, true≢false}
use mathlib.Core.List.{List}
use Prim.Native.Nat.{ℕ, ◌*◌, ◌<◌, ◌≤◌}
use native.Mathlib.Nat.{lt_of_mul-lt-mul_left, le_of_mul-le-mul_left, mul-lt-mul_of_pos_left}
use native.Mathlib.Omega.{arith}
use Rattle.counts.specs.Count.{◌∈◌, count, any, odd, ◌⊕◌}
use Rattle.counts.proofs.TestLaws.{same_test, and_is, eqb_is}
use Rattle.counts.proofs.CountLaws.{count-ext}
use Rattle.counts.proofs.ParityLaws.{odd-any, even-parities}
use Rattle.plane.specs.declared.Point.{Point}
use Rattle.plane.specs.declared.Segment.{Segment}
use Rattle.plane.specs.Points.{same, is_segment}
use Rattle.plane.specs.Touching.{within}
use Rattle.plane.specs.Columns.{vertical}
use Rattle.plane.proofs.Heights.{Scale}
use Rattle.plane.proofs.PointLaws.{Before, before-true}
use Rattle.plane.proofs.WithinLaws.{within-is}
use Rattle.plane.proofs.VerticalLaws.{upright-between}
use Rattle.region.proofs.Charts.{SoundChart, from_left, to_right, across, ends_up}
use Rattle.region.proofs.ColumnLemma.{column}
use Rattle.region.proofs.AcrossLaws.{across-is, across-most}

module _ {W : ℕ} (M : ℕ) (scale : Scale W M) {ss : List Segment} (sound : SoundChart W ss)
    (single : (t : Segment) → t ∈ ss → count (is_segment t) ss ≤ 1) (p : Point)
    (outside : (t : Segment) → t ∈ ss → within t p ≡ false) where
  -- at a height across which lies just what passes the test
  corner : (η : ℕ) (test : Segment → Bool) → ((t : Segment) → t ∈ ss → across M p.x η t ≡ test t)
      → odd (count (from_left M p.x η) ss) ⊕ odd (count (to_right M p.x η) ss) ≡ any test ss
  corner η test is =
      let e = count-ext (across M p.x η) test ss is in
      (even-parities _ _ _ (column M scale sound.chart p.x η)).1
      ∙ ap odd e
      ∙ odd-any test ss (omega (arith, across-most M p.x η sound single))

  -- p lies on no vertical segment but at an end
  not-between : (t : Segment) → t ∈ ss → t.a.x ≡ p.x → t.b.x ≡ p.x → t.a.y < p.y → p.y < t.b.y → ⊥
  not-between t m ea eb lo hi =
      true≢false
      (sym ((within-is t p (sound.chart.forward t m)).1 (upright-between t p ea eb lo hi)) ∙ outside t m)

  -- what the test `ends_up` says, of the end q
  up_is : (t : Segment) (q : Point) → (vertical t && same q p ≡ true)
      ↔ ((t.a.x ≡ t.b.x) × ((q.x ≡ p.x) × (q.y ≡ p.y)))
  up_is t q = and_is _ _ (eqb_is refl) (λ _. and_is _ _ (eqb_is refl) (λ _. eqb_is refl))

  upwards : (t : Segment) → t ∈ ss → t.a.x ≡ t.b.x → 2 * M * t.a.y < 2 * M * t.b.y
  upwards t m e = go (before-true t.a t.b (sound.chart.forward t m))
    where
      go : Before t.a t.b → 2 * M * t.a.y < 2 * M * t.b.y
      go (inl h) = absurd (omega arith)
      go (inr h) = mul-lt-mul_of_pos_left {k = 2 * M} h.1 (omega (arith, scale.positive))

  pub across-ends : (t : Segment) → t ∈ ss → across M p.x (2 * M * p.y) t ≡ ends_up p t
  across-ends t m = same_test _ _ to from
    where
      to : across M p.x (2 * M * p.y) t ≡ true → ends_up p t ≡ true
      to e =
          let h = (across-is M p.x (2 * M * p.y) t).0 e in
          let lo : t.a.y < p.y = lt_of_mul-lt-mul_left (2 * M) h.2 in
          let hi : p.y ≤ t.b.y = le_of_mul-le-mul_left {k = 2 * M} h.3 (omega (arith, scale.positive)) in
          let not-past : ¬ (p.y < t.b.y) = not-between t m h.0 h.1 lo in
          (up_is t t.b).1 (omega arith)

      from : ends_up p t ≡ true → across M p.x (2 * M * p.y) t ≡ true
      from e =
          let h = (up_is t t.b).0 e in
          (across-is M p.x (2 * M * p.y) t).1 (omega (arith, upwards t m h.0, ap (λ n. 2 * M * n) h.1.1))

  pub corner-below : odd (count (from_left M p.x (2 * M * p.y)) ss)
      ⊕ odd (count (to_right M p.x (2 * M * p.y)) ss) ≡ any (ends_up p) ss
  corner-below = corner (2 * M * p.y) (ends_up p) across-ends
