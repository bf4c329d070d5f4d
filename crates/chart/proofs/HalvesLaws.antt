-- Rows 7 and 8 of document 01's refusal table (specs/Rows.antt), where rows 3 and 6 find nothing: each record's ends
-- differ, and its other half is there.
--     left-half        each segment has its left half
--     touching-off     row 7 finds nothing exactly if no two distinct segments touch
--     odd_end-off      row 8 finds nothing exactly if an even number of segments ends at every point
-- Assumes nothing.
use mathlib.Core.Path.{◌≡◌, refl, sym, ap, ◌∙◌, subst}
use mathlib.Core.Logic.{◌↔◌, ⊎_elim}
use mathlib.Core.Bool.{Bool, true, false, not, true≢false}
use mathlib.Core.List.{List}
use native.Mathlib.Omega.{arith}
use Rattle.counts.specs.Count.{◌∈◌, any, Even}
use Rattle.counts.proofs.TestLaws.{and-true, and_intro, is_false}
use Rattle.counts.proofs.CountLaws.{count-off}
use Rattle.counts.proofs.ParityLaws.{odd-off}
use Rattle.counts.proofs.HighestLaws.{any-member, any_none}
use Rattle.plane.specs.declared.Point.{Point}
use Rattle.plane.specs.Points.{same}
use Rattle.plane.specs.Touching.{Touch, touches}
use Rattle.plane.specs.Columns.{ends_at}
use Rattle.plane.proofs.PointLaws.{same_true, same_refl}
use Rattle.plane.proofs.WithinLaws.{EndOf, ends_at-is}
use Rattle.plane.proofs.TouchLaws.{touches-is}
use Rattle.record.specs.declared.Record.{Record}
use Rattle.record.specs.Order.{left, other_half, Proper}
use Rattle.record.proofs.HalfLaws.{left-other_half}
use Rattle.segment.specs.Segments.{segment, of_segment}
use Rattle.segment.proofs.SegmentLaws.{segment-left, segment-forward, segment-other_half}
use Rattle.among.specs.Among.{end_count}
use Rattle.chart.specs.Rows.{touching, odd_end}

module _ (rs : List Record) (proper : (r : Record) → r ∈ rs → Proper r)
    (halves : (r : Record) → r ∈ rs → other_half r ∈ rs) where
  pub left-half : (r : Record) → r ∈ rs → (h : Record) × (h ∈ rs) × (left h ≡ true) × (segment h ≡ segment r)
  left-half r m = by-half (left r) refl
    where
      by-half : (b : Bool) → left r ≡ b → (h : Record) × (h ∈ rs) × (left h ≡ true) × (segment h ≡ segment r)
      by-half true e = (r, m, e, refl)
      by-half false e =
          let p = proper r m in
          (other_half r, halves r m, left-other_half r p ∙ ap not e, segment-other_half r p)

  meets : (r e : Record) → r ∈ rs → e ∈ rs
      → (touches (segment r) (segment e) ≡ true) ↔ ((segment r ≡ segment e → ⊥) × Touch (segment r) (segment e))
  meets r e m n =
      touches-is (segment r) (segment e) (segment-forward r (proper r m)) (segment-forward e (proper e n))

  -- the test asks left halves only, and each segment has one
  pub touching-off : ((r : Record) → r ∈ rs → touching rs r ≡ false)
      ↔ ((r e : Record) → r ∈ rs → e ∈ rs → (segment r ≡ segment e → ⊥) → Touch (segment r) (segment e) → ⊥)
  touching-off = (
    (λ off r e m n differ shared.
        let h = left-half e n in
        let moved = subst (λ g. Touch (segment r) g) (sym h.3) shared in
        let t = (meets r h.0 m h.1).1 ((λ g. differ (g ∙ h.3)), moved) in
        true≢false (sym (and_intro h.2 t) ∙ (any_none _ rs).0 (off r m) h.0 h.1)),
    (λ apart r m.
        (any_none _ rs).1 (λ e n. is_false _ (λ t.
        let h = (meets r e m n).0 (and-true (left e) _ t).1 in
        apart r e m n h.0 h.1))),
  )

  -- a point that dominates no record ends no segment: both ends of a left half dominate, one of them its other half
  no_end : (p : Point) → any (λ r. same r.dom p) rs ≡ false → end_count rs p ≡ 0
  no_end p none = count-off (of_segment (ends_at p)) rs (λ r m. is_false _ (λ t. at_left r m (and-true _ _ t)))
    where
      at-corner : (r : Record) → r ∈ rs → r.dom ≡ p → ⊥
      at-corner r m d = true≢false (sym (ap (λ q. same q p) d ∙ same_refl p) ∙ (any_none _ rs).0 none r m)

      at_left : (r : Record) → r ∈ rs → (left r ≡ true) × (ends_at p (segment r) ≡ true) → ⊥
      at_left r m h =
          ⊎_elim (at-corner r m) (at-corner (other_half r) (halves r m))
          (subst (λ s. EndOf s p) (segment-left r h.0) ((ends_at-is p (segment r)).0 h.1))

  pub odd_end-off : ((r : Record) → r ∈ rs → odd_end rs r ≡ false) ↔ ((p : Point) → Even (end_count rs p))
  odd_end-off = (there, (λ even r m. (odd-off _).1 (even r.dom)))
    where
      there : ((r : Record) → r ∈ rs → odd_end rs r ≡ false) → (p : Point) → Even (end_count rs p)
      there off p = by-corner (any (λ r. same r.dom p) rs) refl
        where
          by-corner : (b : Bool) → any (λ r. same r.dom p) rs ≡ b → Even (end_count rs p)
          by-corner true e =
              let h = (any-member _ rs).0 e in
              subst (λ q. Even (end_count rs q)) (same_true _ _ h.2) ((odd-off _).0 (off h.0 h.1))
          by-corner false e = omega (arith, no_end p e)
