-- What is level with a point d, where d lies inside no segment of a chart.
--     starts    just right of the column of d, what is level with d there starts at it
--     ends      just left of it, what is level with d there ends at it
-- Assumes nothing.
use mathlib.Core.Path.{◌≡◌, sym, ap, ◌∙◌}
use mathlib.Core.Logic.{◌⊎◌, inl, inr}
use mathlib.Core.Bool.{true, false, true≢false}
use mathlib.Core.List.{List}
use Prim.Native.Nat.{ℕ, suc, ◌+◌, ◌-◌, ◌*◌, ◌<◌, ◌≤◌}
use native.Mathlib.Omega.{arith}
use lib.Dec.{eqb}
use borrow.Author.Tests.{eqb-true, eq-eqb}
use Rattle.counts.specs.Count.{◌∈◌}
use Rattle.counts.proofs.TestLaws.{and_intro, same_test}
use Rattle.plane.specs.declared.Point.{Point}
use Rattle.plane.specs.declared.Segment.{Segment}
use Rattle.plane.specs.Points.{same}
use Rattle.plane.specs.Touching.{within}
use Rattle.plane.specs.Columns.{covers, reaches}
use Rattle.plane.proofs.Heights.{Scale, Spans, Inside, height}
use Rattle.plane.proofs.PointLaws.{same_true, same_refl, before-intro}
use Rattle.plane.proofs.HeightLaws.{height-a, height-b}
use Rattle.plane.proofs.AboveLaws.{on-is}
use Rattle.plane.proofs.WithinLaws.{EndOf}
use Rattle.plane.proofs.SpanLaws.{EndAt, inside-or-end, one-point}
use Rattle.plane.proofs.ColumnLaws.{covers-is, reaches-is, covers-spans, reaches-spans}
use Rattle.region.proofs.Charts.{EvenChart}

module _ {W : ℕ} (M : ℕ) (scale : Scale W M) {ss : List Segment} (chart : EvenChart W ss) (d : Point)
    (outside : (t : Segment) → t ∈ ss → within t d ≡ false) where
  abbrev c : ℕ
  c = d.x

  abbrev η : ℕ
  η = 2 * M * d.y

  -- what is level with d ends at it
  level-at : (t : Segment) → t ∈ ss → Spans W t (2 * c) → height M t (2 * c) ≡ η → EndOf t d
  unfolding within
  level-at t m spans e = go (inside-or-end M scale t (2 * c) spans)
    where
      go : Inside t (2 * c) ⊎ EndAt M t (2 * c) → EndOf t d
      go (inl i) =
          let left : t.a.x < c = omega arith in
          let right : c < t.b.x = omega arith in
          absurd (true≢false (sym (and_intro (and_intro (before-intro t.a d (inl left))
          (before-intro d t.b (inl right))) (on-is M scale t d spans ∙ eq-eqb _ _ e)) ∙ outside t m))
      go (inr p) =
          rw (one-point M scale p.point d (omega (arith, p.column)) (sym p.high ∙ e)) at p.ends

  pub starts : (t : Segment) → t ∈ ss → covers c t ≡ true → eqb (height M t (2 * c)) η ≡ same t.a d
  starts t m h = same_test _ _ (λ e. to (level-at t m spans.0 (eqb-true _ _ e))) from
    where
      at : (t.a.x ≤ c) × (c < t.b.x)
      at = (covers-is c t).0 h

      spans : Spans W t (2 * c) × Spans W t (2 * c + 1) × Spans W t (2 * suc c)
      spans = covers-spans c t (chart.small t m) h

      to : EndOf t d → same t.a d ≡ true
      to (inl e) = rw e (same_refl d)
      to (inr e) = absurd (omega (arith, at.1, ap (λ p. p.x) e))

      from : same t.a d ≡ true → eqb (height M t (2 * c)) η ≡ true
      from e =
          let g = same_true t.a d e in
          eq-eqb _ _ (ap (λ p. height M t (2 * p.x)) (sym g)
          ∙ height-a M scale t spans.0.slanted spans.0.small ∙ ap (λ p. 2 * M * p.y) g)

  pub ends : (t : Segment) → t ∈ ss → reaches c t ≡ true → eqb (height M t (2 * c)) η ≡ same t.b d
  ends t m h = same_test _ _ (λ e. to (level-at t m spans.0 (eqb-true _ _ e))) from
    where
      at : (t.a.x < c) × (c ≤ t.b.x)
      at = (reaches-is c t).0 h

      spans : Spans W t (2 * c) × Spans W t (2 * c - 1)
      spans = reaches-spans c t (chart.small t m) h

      to : EndOf t d → same t.b d ≡ true
      to (inl e) = absurd (omega (arith, at.0, ap (λ p. p.x) e))
      to (inr e) = rw e (same_refl d)

      from : same t.b d ≡ true → eqb (height M t (2 * c)) η ≡ true
      from e =
          let g = same_true t.b d e in
          eq-eqb _ _ (ap (λ p. height M t (2 * p.x)) (sym g)
          ∙ height-b M scale t spans.0.slanted spans.0.small ∙ ap (λ p. 2 * M * p.y) g)
