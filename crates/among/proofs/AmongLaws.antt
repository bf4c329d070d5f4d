-- What is among the records, from what a loop over them answers.
--     has-found, has_segment-found, touched-found     by the first place
--     ends-counted                 by the number counted
--     counted_mark-odd, counted_mark-even  the counted mark, by the number counted
-- Assumes nothing.
use mathlib.Core.Path.{◌≡◌, sym, ap, ◌∙◌}
use mathlib.Core.Bool.{cond}
use mathlib.Core.List.{List}
use Prim.Native.Nat.{ℕ, ◌%◌}
use lib.Dec.{ltb, eqb}
use lib.IntN.{ℤ}
use borrow.Author.Tests.{eq-eqb, ne_eqb}
use Rattle.counts.specs.Scan.{Found, Counted}
use Rattle.counts.proofs.ReadLaws.{found-any}
use Rattle.plane.specs.declared.Point.{Point}
use Rattle.plane.specs.declared.Segment.{Segment}
use Rattle.plane.specs.Points.{is_segment}
use Rattle.plane.specs.Touching.{touches}
use Rattle.plane.specs.Columns.{ends_at, counted_for}
use Rattle.record.specs.declared.Record.{Record}
use Rattle.record.specs.Records.{record_at, record_count, records, unmarked, marked}
use Rattle.segment.specs.Segments.{of_segment, is_record}
use Rattle.among.specs.Among.{has, has_segment, touched, end_count, counted_mark}

module _ (s : List ℤ) where
  pub has-found : (e : Record) {i : ℕ} → Found (is_record e) (record_at s) 0 (record_count s) i
      → ltb i (record_count s) ≡ has (records s) e
  has-found e h = found-any (is_record e) (record_at s) h

  pub has_segment-found : (t : Segment) {i : ℕ} → Found (of_segment (is_segment t)) (record_at s) 0 (record_count s) i
      → ltb i (record_count s) ≡ has_segment (records s) t
  has_segment-found t h = found-any (of_segment (is_segment t)) (record_at s) h

  pub touched-found : (t : Segment) {i : ℕ} → Found (of_segment (touches t)) (record_at s) 0 (record_count s) i
      → ltb i (record_count s) ≡ touched (records s) t
  touched-found t h = found-any (of_segment (touches t)) (record_at s) h

  pub ends-counted : (p : Point) {m : ℕ} → Counted (of_segment (ends_at p)) (record_at s) (record_count s) m
      → m ≡ end_count (records s) p
  ends-counted p h = h.is

  module _ (t : Segment) {m : ℕ} (h : Counted (of_segment (counted_for t)) (record_at s) (record_count s) m) where
    pub counted_mark-odd : m % 2 ≡ 1 → marked ≡ counted_mark (records s) t
    counted_mark-odd e =
        ap (λ b. cond b marked unmarked) (sym (eq-eqb (m % 2) 1 e) ∙ ap (λ m. eqb (m % 2) 1) h.is)

    pub counted_mark-even : (m % 2 ≡ 1 → ⊥) → unmarked ≡ counted_mark (records s) t
    counted_mark-even e =
        ap (λ b. cond b marked unmarked) (sym (ne_eqb (m % 2) 1 e) ∙ ap (λ m. eqb (m % 2) 1) h.is)
