-- The two sides of a segment s that is not vertical, over an even chart that is clear of it: the count of its mark,
-- which is taken at the left end of s, is read in any strip that s spans.
--     counted_for-up_to  counted for the mark are those at or below s in the strip right of its left end
--     upper-strip        the upper side: the parity of what lies at or below s, in any strip
--     lower-strip        the lower side: the parity of what lies strictly below s, where the chart has s at most once
-- Assumes nothing.
use mathlib.Core.Path.{◌≡◌, refl, sym, ap, ap₂, ◌∙◌}
use mathlib.Core.Logic.{◌⊎◌, inl, inr}
use mathlib.Core.Bool.{Bool, true, false, ◌&&◌}
use mathlib.Core.List.{List}
use Prim.Native.Nat.{ℕ, suc, ◌+◌, ◌*◌, ◌<◌, ◌≤◌}
use native.Mathlib.Omega.{arith}
use lib.Dec.{leb}
use borrow.Author.Tests.{leb-true, le-leb}
use Rattle.counts.specs.Count.{◌∈◌, count, odd, ◌⊕◌}
use Rattle.counts.proofs.TestLaws.{same_test, Side, less, equal, more, side}
use Rattle.counts.proofs.CountLaws.{count-ext}
use Rattle.counts.proofs.ParityLaws.{odd-any, odd-less}
use Rattle.plane.specs.declared.Segment.{Segment}
use Rattle.plane.specs.Points.{is_segment}
use Rattle.plane.specs.Touching.{Touch}
use Rattle.plane.specs.Columns.{covers, counted_for}
use Rattle.plane.proofs.Heights.{Scale, Spans, Inside, height, key}
use Rattle.plane.proofs.OrderLaws.{order_le, order-gt}
use Rattle.plane.proofs.ColumnLaws.{covers-is, covers-spans, counted_for-slanted, counted_for-uncovered}
use Rattle.region.proofs.Charts.{EvenChart, Clear, upper, lower, under, up_to}
use Rattle.region.proofs.StripLaws.{up_to-under, up_to-strips}

module _ {W : ℕ} (M : ℕ) (scale : Scale W M) {ss : List Segment} (chart : EvenChart W ss)
    (s : Segment) (small : s.b.x < W) (clear : Clear ss s) where
  -- what covers the column of the left end keeps its order to s from there into the strip
  covered : s.a.x < s.b.x → (t : Segment) → t ∈ ss → covers s.a.x t ≡ true
      → counted_for s t ≡ leb (key M t s.a.x) (key M s s.a.x)
  covered slanted t m h =
      let counted = counted_for-slanted M scale s t slanted small (chart.small t m) h in
      same_test (counted_for s t) (leb (key M t x) (key M s x))
      (λ e. le-leb _ _ (low (counted.0 e) (clear t m)))
      (λ e. counted.1 (start (leb-true _ _ e) (side (height M t (2 * x)) (height M s (2 * x))) (clear t m)))
    where
      x : ℕ
      x = s.a.x

      -- what `counted_for-slanted` says of t
      Lower : Type 0
      Lower =
          (height M t (2 * x) < height M s (2 * x))
          ⊎ ((height M t (2 * x) ≡ height M s (2 * x)) × (key M t x ≤ key M s x))

      tx : Spans W t (2 * x) × Spans W t (2 * x + 1) × Spans W t (2 * suc x)
      tx = covers-spans x t (chart.small t m) h

      low : Lower → (t ≡ s) ⊎ (¬ (Touch s t)) → key M t x ≤ key M s x
      low (inl l) (inl e) = absurd (omega (arith, ap (λ u. height M u (2 * x)) e))
      low (inl l) (inr free) =
          order_le M scale s t free (2 * x) (2 * x + 1) (omega arith) (omega arith) tx.0 tx.1 l
      low (inr l) c = l.1

      start : key M t x ≤ key M s x → Side (height M t (2 * x)) (height M s (2 * x)) → (t ≡ s) ⊎ (¬ (Touch s t))
          → Lower
      start l (less g) c = inl g
      start l (equal g) c = inr (g, l)
      start l (more g) (inl e) = absurd (omega (arith, ap (λ u. height M u (2 * x)) e))
      start l (more g) (inr free) =
          let inside : Inside s (2 * x + 1) = omega arith in
          let up = order-gt M scale s t free (2 * x) (2 * x + 1)
          (omega arith) (omega arith) tx.0 tx.1 (inl inside) g in
          absurd (omega arith)

  pub counted_for-up_to : s.a.x < s.b.x → (t : Segment) → t ∈ ss → counted_for s t ≡ up_to M s s.a.x t
  counted_for-up_to slanted t m = go (covers s.a.x t) refl
    where
      go : (b : Bool) → covers s.a.x t ≡ b → counted_for s t ≡ b && leb (key M t s.a.x) (key M s s.a.x)
      go true h = covered slanted t m h
      go false h = counted_for-uncovered s t slanted h

  pub upper-strip : (x : ℕ) → covers x s ≡ true → upper ss s ≡ odd (count (up_to M s x) ss)
  upper-strip x hx =
      let at = (covers-is x s).0 hx in
      ap odd (count-ext (counted_for s) (up_to M s s.a.x) ss (counted_for-up_to (omega arith)))
      ∙ up_to-strips M scale chart s small clear s.a.x x ((covers-is s.a.x s).1 (omega arith)) hx

  pub lower-strip : count (is_segment s) ss ≤ 1 → (x : ℕ) → covers x s ≡ true
      → lower ss s ≡ odd (count (under M s x) ss)
  lower-strip once x hx =
      ap₂ ◌⊕◌ (upper-strip x hx) (sym (odd-any (is_segment s) ss once))
      ∙ sym (odd-less (count (up_to M s x) ss) (count (is_segment s) ss) (count (under M s x) ss)
      (omega (arith, up_to-under M scale chart s small clear x hx)))
