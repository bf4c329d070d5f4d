-- Which numbers and indexes a verdict can have.
--     Told r            r is no refusal, or one of 1 to 9 at a record that a chart can have
--     verdict-told      so is every verdict's, in the paper's number and index
-- Assumes nothing.
use mathlib.Core.Path.{◌≡◌, refl}
use mathlib.Core.Bool.{Bool, true, false, not, cond}
use mathlib.Core.List.{List}
use Prim.Native.Nat.{ℕ, ◌%◌, ◌<◌, ◌≤◌}
use native.Mathlib.Omega.{arith}
use lib.Dec.{ltb, eqb}
use lib.IntN.{ℤ}
use lib.ListN.{length}
use borrow.Author.Tests.{ltb-false}
use Rattle.std.specs.Prelude.{Option, Some, None, Err}
use Rattle.counts.specs.Scan.{first_place}
use Rattle.counts.proofs.PlaceLaws.{first_place_some}
use Rattle.record.specs.Records.{width, record_at, record_count, records}
use Rattle.chart.specs.declared.ChartRefusal.{ChartRefusal}
use Rattle.chart.specs.declared.ChartRefusal.TheVariants.{Ragged, TooMany, EqualEnds, BadMark, NotAfter}
use Rattle.chart.specs.declared.ChartRefusal.TheVariants.{NoOtherHalf, Touching, OddEnd, WrongMark}
use Rattle.chart.specs.declared.Refusal.{Refusal}
use Rattle.chart.specs.Rows.{equal_ends, bad_mark, not_after, no_other_half, touching, odd_end, wrong_mark}
use Rattle.chart.specs.Verdicts.{limit, Verdict, told, refusal_of, unless, judged, verdict}

pub record Told (r : Refusal) : Type 0 where
  pub number : r.number ≤ 9
  pub index : r.index < limit

-- one row of the table, and the rows after it
row-told : {A : Type 0} (p : A → Bool) (f : ℕ → A) (n : ℕ) (why : ℕ → ChartRefusal) (v : Verdict)
    → ((i : ℕ) → i < limit → Told (told (why i))) → n ≤ limit → Told (refusal_of v)
    → Told (refusal_of (unless why (first_place p f n) v))
row-told p f n why v each few rest = go (first_place p f n) refl
  where
    go : (o : Option ℕ) → first_place p f n ≡ o → Told (refusal_of (unless why o v))
    go None e = rest
    go (Some i) e = each i (omega (arith, few, (first_place_some p f e).1))

judged-told : (s : List ℤ) → record_count s ≤ limit → Told (refusal_of (judged s))
unfolding judged
judged-told s few =
    let n = record_count s in
    let rs = records s in
    row-told equal_ends (record_at s) n EqualEnds _ (λ i l. record { number = omega arith; index = l }) few
    (row-told bad_mark (record_at s) n BadMark _ (λ i l. record { number = omega arith; index = l }) few
    (row-told (not_after s) (λ i. i) n NotAfter _ (λ i l. record { number = omega arith; index = l }) few
    (row-told (no_other_half rs) (record_at s) n NoOtherHalf _ (λ i l. record { number = omega arith; index = l }) few
    (row-told (touching rs) (record_at s) n Touching _ (λ i l. record { number = omega arith; index = l }) few
    (row-told (odd_end rs) (record_at s) n OddEnd _ (λ i l. record { number = omega arith; index = l }) few
    (row-told (wrong_mark rs) (record_at s) n WrongMark _ (λ i l. record { number = omega arith; index = l }) few
    (record { number = omega arith; index = omega arith })))))))

pub verdict-told : (s : List ℤ) → Told (refusal_of (verdict s))
unfolding verdict
verdict-told s = go (not (eqb (length s % width) 0)) (ltb limit (record_count s)) refl
  where
    go : (b c : Bool) → ltb limit (record_count s) ≡ c
        → Told (refusal_of {A = Unit {0}} (cond b (Err Ragged) (cond c (Err TooMany) (judged s))))
    go true c e = record { number = omega arith; index = omega arith }
    go false true e = record { number = omega arith; index = omega arith }
    go false false e = judged-told s (ltb-false limit (record_count s) e)
