-- What it means that a row of document 01's refusal table finds nothing: the tests of specs/Rows.antt, both ways.
--     equal_ends-off, bad_mark-off    rows 3 and 4, of a record
--     not_after-off                   row 5, of all places of an array
--     no_other_half-off               row 6, of a record
--     wrong_mark-off                  row 9, of a record
-- Rows 7 and 8 are in HalvesLaws.antt. Assumes nothing.
use mathlib.Core.Path.{◌≡◌, refl, sym, ap, ◌∙◌, subst}
use mathlib.Core.Logic.{◌↔◌, ◌⊎◌, inl, inr}
use mathlib.Core.Bool.{Bool, true, false, not, ◌&&◌, true≢false}
use mathlib.Core.List.{List}
use Prim.Native.Nat.{ℕ, zero, suc, ◌-◌, ◌<◌}
use native.Mathlib.Omega.{arith}
use lib.Dec.{eqb}
use lib.IntN.{ℤ}
use borrow.Author.Tests.{eqb-true, eq-eqb, lt-ltb, not-false}
use Rattle.counts.specs.Count.{◌∈◌}
use Rattle.counts.proofs.TestLaws.{is_false}
use Rattle.counts.proofs.HighestLaws.{any-member}
use Rattle.plane.specs.Points.{same}
use Rattle.plane.proofs.PointLaws.{same_true, same_refl}
use Rattle.record.specs.declared.Record.{Record}
use Rattle.record.specs.Records.{record_at, record_count, unmarked, marked}
use Rattle.record.specs.Order.{other_half, precedes}
use Rattle.segment.specs.Segments.{segment, is_record}
use Rattle.segment.proofs.SegmentLaws.{is_record-true, is_record-refl}
use Rattle.among.specs.Among.{counted_mark}
use Rattle.chart.specs.Rows.{equal_ends, bad_mark, not_after, no_other_half, wrong_mark}

pub equal_ends-off : (r : Record) → (equal_ends r ≡ false) ↔ (r.dom ≡ r.other → ⊥)
equal_ends-off r = (
  (λ e h. true≢false (sym (same_refl r.dom) ∙ ap (λ q. same r.dom q) h ∙ e)),
  (λ h. is_false _ (λ t. h (same_true _ _ t))),
)

pub bad_mark-off : (r : Record) → (bad_mark r ≡ false) ↔ ((r.mark ≡ unmarked) ⊎ (r.mark ≡ marked))
bad_mark-off r = (there (eqb r.mark unmarked) (eqb r.mark marked) refl refl, back)
  where
    there : (a b : Bool) → eqb r.mark unmarked ≡ a → eqb r.mark marked ≡ b → not a && not b ≡ false
        → (r.mark ≡ unmarked) ⊎ (r.mark ≡ marked)
    there true b p q e = inl (eqb-true _ _ p)
    there false true p q e = inr (eqb-true _ _ q)
    there false false p q e = absurd (true≢false e)

    back : (r.mark ≡ unmarked) ⊎ (r.mark ≡ marked) → bad_mark r ≡ false
    back (inl h) = rw (eq-eqb r.mark unmarked h)
    back (inr h) = rw (eq-eqb r.mark marked h) (table (eqb r.mark unmarked))
      where
        table : (a : Bool) → not a && false ≡ false
        table true = refl
        table false = refl

-- row 5 at a record that is not the first
not_after-suc : (s : List ℤ) (i : ℕ) → not_after s (suc i) ≡ not (precedes (record_at s i) (record_at s (suc i)))
not_after-suc s i =
    let e : suc i - 1 ≡ i = omega arith in
    rw (lt-ltb 0 (suc i) (omega arith)) (ap (λ j. not (precedes (record_at s j) (record_at s (suc i)))) e)

pub not_after-off : (s : List ℤ)
    → ((i : ℕ) → i < record_count s → not_after s i ≡ false)
    ↔ ((i : ℕ) → suc i < record_count s → precedes (record_at s i) (record_at s (suc i)) ≡ true)
not_after-off s = ((λ off i l. not-false _ (sym (not_after-suc s i) ∙ off (suc i) l)), back)
  where
    back : ((i : ℕ) → suc i < record_count s → precedes (record_at s i) (record_at s (suc i)) ≡ true)
        → (i : ℕ) → i < record_count s → not_after s i ≡ false
    back after zero l = refl
    back after (suc i) l = not_after-suc s i ∙ ap not (after i l)

pub no_other_half-off : (rs : List Record) (r : Record) → (no_other_half rs r ≡ false) ↔ (other_half r ∈ rs)
no_other_half-off rs r = (
  (λ e.
      let h = (any-member (is_record (other_half r)) rs).0 (not-false _ e) in
      subst (λ x. x ∈ rs) (is_record-true (other_half r) h.0 h.2) h.1),
  (λ m. ap not ((any-member (is_record (other_half r)) rs).1 (other_half r, m, is_record-refl (other_half r)))),
)

pub wrong_mark-off : (rs : List Record) (r : Record)
    → (wrong_mark rs r ≡ false) ↔ (r.mark ≡ counted_mark rs (segment r))
wrong_mark-off rs r = ((λ e. eqb-true _ _ (not-false _ e)), (λ e. ap not (eq-eqb r.mark _ e)))
