-- Laws of the segment of a record, and of records as a chart's segments.
--     segment-left, segment-right      the segment of a left half, and of a right one
--     segment-forward                  its smaller end comes first, where the record's ends differ
--     segment-other_half               both halves have one segment
--     is_record-true, is_record-refl   `is_record` is equality
-- Assumes nothing.
use mathlib.Core.Path.{◌≡◌, refl, sym, ap, ◌∙◌}
use mathlib.Core.Bool.{Bool, true, false, not}
use borrow.Author.Tests.{eqb-true, eq-eqb}
use Rattle.counts.proofs.TestLaws.{and-true, and_intro}
use Rattle.plane.specs.Points.{Forward}
use Rattle.plane.proofs.PointLaws.{same_true, same_refl}
use Rattle.record.specs.declared.Record.{Record}
use Rattle.record.specs.Order.{left, other_half, Proper}
use Rattle.record.proofs.HalfLaws.{backward, left-other_half}
use Rattle.segment.specs.Segments.{segment, is_record}

module _ (r : Record) where
  pub segment-left : left r ≡ true → segment r ≡ record { a = r.dom; b = r.other }
  unfolding segment
  segment-left e = rw e

  pub segment-right : left r ≡ false → segment r ≡ record { a = r.other; b = r.dom }
  unfolding segment
  segment-right e = rw e

  pub segment-forward : Proper r → Forward (segment r)
  segment-forward p = by-half (left r) refl
    where
      by-half : (b : Bool) → left r ≡ b → Forward (segment r)
      by-half true e = rw (segment-left e) e
      by-half false e = rw (segment-right e) (backward r p e)

pub segment-other_half : (r : Record) → Proper r → segment (other_half r) ≡ segment r
segment-other_half r p = by-half (left r) refl
  where
    by-half : (b : Bool) → left r ≡ b → segment (other_half r) ≡ segment r
    by-half true e = segment-right (other_half r) (left-other_half r p ∙ ap not e) ∙ sym (segment-left r e)
    by-half false e = segment-left (other_half r) (left-other_half r p ∙ ap not e) ∙ sym (segment-right r e)

pub is_record-true : (e r : Record) → is_record e r ≡ true → r ≡ e
unfolding is_record
is_record-true e r t =
    let h = and-true _ _ t in
    let g = and-true _ _ h.0 in
    let d = same_true _ _ g.0 in
    let o = same_true _ _ g.1 in
    let m = eqb-true _ _ h.1 in
    λ i. record { dom = d i; other = o i; mark = m i }

pub is_record-refl : (r : Record) → is_record r r ≡ true
unfolding is_record
is_record-refl r =
    and_intro (and_intro (same_refl r.dom) (same_refl r.other)) (eq-eqb r.mark r.mark refl)
