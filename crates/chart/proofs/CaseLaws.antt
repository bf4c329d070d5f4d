-- Rows of the check as a program finds them (specs/Rows.antt): from what its functions answer.
--     first-there, first-past            whether the first place that a loop found is one of n
--     not_after-first, not_after-later   row 5 at the first record, which comes after none, and at a later one
--     no_other_half-is, touching-is, odd_end-is    rows 6 to 8, by what is among the records; row 9, `wrong_mark-is`,
--                                        is a law of promises (Tests)
-- Assumes nothing.
use mathlib.Core.Path.{◌≡◌, ap, ap₂, ◌∙◌}
use mathlib.Core.Logic.{⊎_elim}
use mathlib.Core.Bool.{Bool, true, false, not}
use mathlib.Core.List.{List}
use Prim.Native.Nat.{ℕ, ◌-◌, ◌%◌, ◌<◌, ◌≤◌}
use native.Mathlib.Omega.{arith}
use lib.Dec.{ltb, eqb}
use lib.IntN.{ℤ}
use borrow.Author.Tests.{lt-ltb, le-ltb}
use Rattle.counts.proofs.TestLaws.{lt-or-le}
use Rattle.plane.specs.declared.Segment.{Segment}
use Rattle.record.specs.declared.Record.{Record}
use Rattle.record.specs.Records.{record_at, records}
use Rattle.record.specs.Order.{other_half, precedes}
use Rattle.segment.specs.Segments.{segment}
use Rattle.among.specs.Among.{has, touched, end_count}
use Rattle.chart.specs.Rows.{not_after, no_other_half, touching, odd_end}

pub first-there : {r i n : ℕ} → r ≡ i → r < n → ltb i n ≡ true
first-there {r} {i} {n} e l = lt-ltb i n (omega arith)

pub first-past : {r i n : ℕ} → r ≡ i → n ≤ r → ltb i n ≡ false
first-past {r} {i} {n} e l = le-ltb i n (omega arith)

module _ (s : List ℤ) (i : ℕ) where
  pub not_after-first : i ≡ 0 → false ≡ not_after s i
  not_after-first e = rw (le-ltb 0 i (omega arith))

  pub not_after-later : {r e : Record} {b : Bool} → (i ≡ 0 → ⊥) → r ≡ record_at s (i - 1) → e ≡ record_at s i
      → b ≡ precedes r e → not b ≡ not_after s i
  not_after-later h p q d =
      let l : 0 < i = ⊎_elim (λ l. l) (λ k. absurd (h (omega arith))) (lt-or-le 0 i) in
      rw (lt-ltb 0 i l) (ap not (d ∙ ap₂ precedes p q))

module _ (s : List ℤ) (r : Record) where
  pub no_other_half-is : {e : Record} {b : Bool} → e ≡ other_half r → b ≡ has (records s) e
      → not b ≡ no_other_half (records s) r
  no_other_half-is d h = ap not (h ∙ ap (has (records s)) d)

  pub touching-is : {t : Segment} {b : Bool} → t ≡ segment r → b ≡ touched (records s) t → b ≡ touching (records s) r
  touching-is d h = h ∙ ap (touched (records s)) d

  pub odd_end-is : {m : ℕ} → m ≡ end_count (records s) r.dom → eqb (m % 2) 1 ≡ odd_end (records s) r
  odd_end-is h = ap (λ m. eqb (m % 2) 1) h
