-- In an array in record order the run at a corner is all the records there, and no others.
--     InOrder s      each record comes strictly after the one before
--     doms-rise      so no later record has a smaller dominating end
--     run_only       what lies in the contract's run, of any array, is at the corner
--     run-all        what is at the corner lies in that run, of an array in order
-- Assumes nothing.
use mathlib.Core.Path.{◌≡◌, refl, sym, ap, ◌∙◌}
use mathlib.Core.Logic.{◌⊎◌, inl, inr}
use mathlib.Core.Bool.{true, false, true≢false}
use mathlib.Core.List.{List}
use Prim.Native.Nat.{ℕ, zero, suc, ◌+◌, ◌-◌, ◌*◌, ◌<◌, ◌≤◌, zero-le}
use native.Mathlib.Nat.{add-zero, add-suc, add-sub_of_le}
use native.Mathlib.Omega.{arith}
use lib.IntN.{ℤ}
use borrow.Author.Tests.{not-true, not-false}
use Rattle.counts.proofs.TestLaws.{is_false, lt-or-le}
use Rattle.counts.proofs.ScanLaws.{first_from-low, first_from-high, first_from-passes, first_from-fails}
use Rattle.counts.proofs.ScanLaws.{first_from-least}
use Rattle.plane.specs.declared.Point.{Point}
use Rattle.plane.specs.Points.{before, same}
use Rattle.plane.proofs.PointLaws.{before-irrefl, before-once, trichotomy, not-before-trans}
use Rattle.plane.proofs.PointLaws.{same_true, same_refl}
use Rattle.record.specs.declared.Record.{Record}
use Rattle.record.specs.Records.{width, record_at, record_count}
use Rattle.record.specs.Order.{precedes}
use Rattle.record.proofs.OrderLaws.{Precedes, precedes-true}
use Rattle.parts.specs.Parts.{at_corner, off_corner, first_there, first_past, run_of}
use Rattle.parts.proofs.PartLaws.{run_of-none, run_of-some}

abbrev pub InOrder : List ℤ → Type 0
InOrder s = (i : ℕ) → suc i < record_count s → precedes (record_at s i) (record_at s (suc i)) ≡ true

-- a record that comes first has no greater dominating end
first-dom : (r e : Record) → precedes r e ≡ true → before e.dom r.dom ≡ false
first-dom r e h = is_false _ (λ back. by-case (precedes-true r e h) back)
  where
    by-case : Precedes r e → before e.dom r.dom ≡ true → ⊥
    by-case (inl g) back = before-once r.dom e.dom g back
    by-case (inr g) back = before-irrefl e.dom (ap (λ p. before e.dom p) (sym g.0) ∙ back)

module _ (s : List ℤ) where
  pub doms-rise : InOrder s → (i j : ℕ) → i ≤ j → j < record_count s
      → before (record_at s j).dom (record_at s i).dom ≡ false
  doms-rise o i j l h = rw (sym (add-sub_of_le l)) (climb (j - i) (omega arith))
    where
      climb : (k : ℕ) → i + k < record_count s → before (record_at s (i + k)).dom (record_at s i).dom ≡ false
      climb zero g = rw add-zero (is_false _ (before-irrefl (record_at s i).dom))
      climb (suc k) g =
          rw add-suc
          (not-before-trans (record_at s i).dom (record_at s (i + k)).dom (record_at s (suc (i + k))).dom
          (climb k (omega arith))
          (first-dom (record_at s (i + k)) (record_at s (suc (i + k))) (o (i + k) (omega arith))))

  module _ (p : Point) where
    in-range : first_there s p ≤ record_count s
    in-range = first_from-high (at_corner p) (record_at s) 0 (record_count s) zero-le

    in-run-there : (i : ℕ) → first_there s p ≤ i → i < first_past s p → at_corner p (record_at s i) ≡ true
    in-run-there i h l =
        not-false _ (first_from-fails (off_corner p) (record_at s) (first_there s p) (record_count s) in-range i h l)

    there-in-run : InOrder s → (i : ℕ) → i < record_count s → at_corner p (record_at s i) ≡ true
        → (first_there s p ≤ i) × (i < first_past s p)
    there-in-run o i short there = (starts, ends (lt-or-le i (first_past s p)))
      where
        starts : first_there s p ≤ i
        starts = first_from-least (at_corner p) (record_at s) 0 (record_count s) zero-le i zero-le there

        -- between two records at p, in order, all are at p
        between : (j : ℕ) → first_there s p ≤ j → j ≤ i → at_corner p (record_at s j) ≡ true
        between j lo hi = by_order (trichotomy (record_at s j).dom p)
          where
            at-start : (record_at s (first_there s p)).dom ≡ p
            at-start =
                same_true _ _
                (first_from-passes (at_corner p) (record_at s) 0 (record_count s) zero-le (omega (arith, starts)))

            at-end : (record_at s i).dom ≡ p
            at-end = same_true _ _ there

            by_order : (before (record_at s j).dom p ≡ true)
                ⊎ (((record_at s j).dom ≡ p) ⊎ (before p (record_at s j).dom ≡ true))
                → at_corner p (record_at s j) ≡ true
            by_order (inl l) =
                let low = doms-rise o (first_there s p) j lo (omega arith) in
                absurd (true≢false (sym l ∙ sym (ap (λ t. before (record_at s j).dom t) at-start) ∙ low))
            by_order (inr (inl e)) = ap (λ t. same t p) e ∙ same_refl p
            by_order (inr (inr l)) =
                let high = doms-rise o j i hi short in
                absurd (true≢false (sym l ∙ sym (ap (λ t. before t (record_at s j).dom) at-end) ∙ high))

        ends : (i < first_past s p) ⊎ (first_past s p ≤ i) → i < first_past s p
        ends (inl l) = l
        ends (inr l) = absurd (true≢false (sym (between (first_past s p) low l) ∙ not-true _ off))
          where
            low : first_there s p ≤ first_past s p
            low = first_from-low (off_corner p) (record_at s) (first_there s p) (record_count s) in-range

            off : off_corner p (record_at s (first_past s p)) ≡ true
            off =
                first_from-passes (off_corner p) (record_at s) (first_there s p) (record_count s) in-range
                (omega (arith, l))

    -- ---- the same of the run that the contract names, whose places count numbers and not records

    some-there : (i : ℕ) → i < record_count s → first_there s p ≤ i → first_there s p < record_count s
    some-there i short l = omega arith

    pub run_only : (i : ℕ) → (run_of s p).from ≤ width * i → width * i < (run_of s p).upto
        → at_corner p (record_at s i) ≡ true
    run_only i lo hi = go (lt-or-le (first_there s p) (record_count s))
      where
        go : (first_there s p < record_count s) ⊎ (record_count s ≤ first_there s p)
            → at_corner p (record_at s i) ≡ true
        go (inl l) =
            let e = run_of-some s p refl refl l in
            in-run-there i (omega (arith, rw e at lo)) (omega (arith, rw e at hi))
        go (inr l) = absurd (omega (arith, rw (run_of-none s p refl l) at hi))

    pub run-all : InOrder s → (i : ℕ) → i < record_count s → at_corner p (record_at s i) ≡ true
        → ((run_of s p).from ≤ width * i) × (width * i < (run_of s p).upto)
    run-all o i short there =
        let within = there-in-run o i short there in
        rw (run_of-some s p refl refl (some-there i short within.0))
        (omega (arith, within.0), omega (arith, within.1))
