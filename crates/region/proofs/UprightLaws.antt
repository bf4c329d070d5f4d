-- The two sides of a vertical segment over a chart, read beside it at any height η of it above its lower end.
--     counted_for-left   what is counted for s is what comes to its column from the left, below η
--     upper-left         so its left side is the parity there, just left of it
--     lower-right        and its right side is the parity just right of it
-- Assumes nothing.
use mathlib.Core.Path.{◌≡◌, refl, sym, ap, ap₂, ◌∙◌}
use mathlib.Core.Logic.{◌⊎◌, inl, inr, ⊎_elim}
use mathlib.Core.Bool.{Bool, true, false, ◌&&◌}
use mathlib.Core.List.{List}
use Prim.Native.Nat.{ℕ, ◌*◌, ◌<◌, ◌≤◌}
use native.Mathlib.Nat.{lt_of_mul-lt-mul_left}
use native.Mathlib.Omega.{arith}
use lib.Dec.{ltb}
use borrow.Author.Tests.{ltb-true, lt-ltb}
use Rattle.counts.specs.Count.{◌∈◌, count, odd, ◌⊕◌}
use Rattle.counts.proofs.TestLaws.{same_test}
use Rattle.counts.proofs.CountLaws.{count-ext}
use Rattle.counts.proofs.ParityLaws.{odd-any, even-parities}
use Rattle.plane.specs.declared.Segment.{Segment}
use Rattle.plane.specs.Points.{is_segment}
use Rattle.plane.specs.Touching.{Touch}
use Rattle.plane.specs.Columns.{reaches, counted_for}
use Rattle.plane.proofs.Heights.{Scale, Spans, height}
use Rattle.plane.proofs.PointLaws.{is_segment-true, is_segment-refl}
use Rattle.plane.proofs.ContactLaws.{touch-sym}
use Rattle.plane.proofs.VerticalLaws.{upright-side}
use Rattle.plane.proofs.ColumnLaws.{reaches-spans, counted_for-vertical, counted_for-unreached}
use Rattle.region.proofs.Charts.{EvenChart, Clear, upper, lower, from_left, to_right, across}
use Rattle.region.proofs.ColumnLemma.{column}
use Rattle.region.proofs.AcrossLaws.{across-is, across-one}

module _ {W : ℕ} (M : ℕ) (scale : Scale W M) {ss : List Segment} (chart : EvenChart W ss) (s : Segment)
    (upright : s.a.x ≡ s.b.x) (clear : Clear ss s) (η : ℕ)
    (lo : 2 * M * s.a.y < η) (hi : η ≤ 2 * M * s.b.y) where
  -- what spans the column is not vertical, so it is not s, and lies at or above its upper end or at or below its lower
  beside : (t : Segment) → t ∈ ss → Spans W t (2 * s.a.x) → height M t (2 * s.a.x) < η
      → height M t (2 * s.a.x) ≤ 2 * M * s.a.y
  beside t m spans l = go (clear t m)
    where
      go : (t ≡ s) ⊎ (¬ (Touch s t)) → height M t (2 * s.a.x) ≤ 2 * M * s.a.y
      go (inl e) = absurd (omega (arith, ap (λ u. u.a.x) e, ap (λ u. u.b.x) e))
      go (inr h) =
          ⊎_elim (λ g. absurd (omega arith)) (λ g. g.0)
          (upright-side M scale t s (λ u. h (touch-sym u)) s.a.x spans refl (sym upright)
          (lt_of_mul-lt-mul_left (2 * M) (omega arith)))

  pub counted_for-left : (t : Segment) → t ∈ ss → counted_for s t ≡ from_left M s.a.x η t
  counted_for-left t m = go (reaches s.a.x t) refl
    where
      go : (b : Bool) → reaches s.a.x t ≡ b → counted_for s t ≡ b && ltb (height M t (2 * s.a.x)) η
      go true e =
          let is = counted_for-vertical M scale s t upright (chart.small t m) e in
          same_test _ _ (λ h. lt-ltb (height M t (2 * s.a.x)) η (omega (arith, is.0 h)))
          (λ h. is.1 (beside t m (reaches-spans s.a.x t (chart.small t m) e).0 (ltb-true _ _ h)))
      go false e = counted_for-unreached s t upright e

  pub upper-left : upper ss s ≡ odd (count (from_left M s.a.x η) ss)
  upper-left = ap odd (count-ext _ _ ss counted_for-left)

  -- only s itself lies across η
  across-self : (t : Segment) → t ∈ ss → across M s.a.x η t ≡ is_segment s t
  across-self t m =
      same_test _ _ (λ e. rw (across-one M s.a.x η s t clear m self e) (is_segment-refl s))
      (λ e. rw (is_segment-true s t e) self)
    where
      self : across M s.a.x η s ≡ true
      self = (across-is M s.a.x η s).1 (refl, sym upright, lo, hi)

  pub lower-right : count (is_segment s) ss ≤ 1 → lower ss s ≡ odd (count (to_right M s.a.x η) ss)
  lower-right single =
      ap₂ ◌⊕◌ upper-left (sym (ap odd (count-ext _ _ ss across-self) ∙ odd-any (is_segment s) ss single))
      ∙ (even-parities _ _ _ (column M scale chart s.a.x η)).0
