-- Document 01's verdict on an array of numbers ("Checked in this order; the first that applies is given, with the
-- smallest record index at fault").
--     limit              how many records a chart may have
--     Verdict            accepted, or why not
--     told r             the paper's number and index of a refusal: 1 to 9 in the table's order, index 0 for 1 and 2
--     no_refusal         0, with index 0
--     refusal_of v       the number and index of any answer about a chart: 0 and 0 where it is none
--     unless why i v     refused, by why at i, where there is such a place i; v where there is none
--     judged s           of its records: 3 to 9, the first record at fault of each kind (specs/Rows.antt), kind after
--                        kind
--     verdict s          1  length is no multiple of five
--                        2  more than 512 records
--                        else as its records are judged
--     is_accepted v, accepted s   the verdict refuses nothing
--     answered v a       every question's answer: a where the chart is accepted, else the refusal
-- Assumes nothing.
use Rattle.std.specs.Prelude.{Bool, not, cond, List, ℕ, ◌%◌, ltb, eqb, ℤ, length}
use Rattle.std.specs.Prelude.{Option, Some, None, Result, Ok, Err, is_ok}
use Rattle.counts.specs.Scan.{first_place}
use Rattle.record.specs.declared.Record.{Record}
use Rattle.record.specs.Records.{width, record_at, record_count, records}
use Rattle.chart.specs.declared.Refusal.{Refusal}
use Rattle.chart.specs.declared.ChartRefusal.{ChartRefusal}
use Rattle.chart.specs.declared.ChartRefusal.TheVariants.{Ragged, TooMany, EqualEnds, BadMark, NotAfter}
use Rattle.chart.specs.declared.ChartRefusal.TheVariants.{NoOtherHalf, Touching, OddEnd, WrongMark}
use Rattle.chart.specs.Rows.{equal_ends, bad_mark, not_after, no_other_half, touching, odd_end, wrong_mark}

abbrev pub limit : ℕ
limit = 512

abbrev pub Verdict : Type 0
Verdict = Result (Unit {0}) ChartRefusal

abbrev pub told : ChartRefusal → Refusal
told Ragged = record { number = 1; index = 0 }
told TooMany = record { number = 2; index = 0 }
told (EqualEnds i) = record { number = 3; index = i }
told (BadMark i) = record { number = 4; index = i }
told (NotAfter i) = record { number = 5; index = i }
told (NoOtherHalf i) = record { number = 6; index = i }
told (Touching i) = record { number = 7; index = i }
told (OddEnd i) = record { number = 8; index = i }
told (WrongMark i) = record { number = 9; index = i }

abbrev pub no_refusal : Refusal
no_refusal = record { number = 0; index = 0 }

abbrev pub refusal_of : {A : Type 0} → Result A ChartRefusal → Refusal
refusal_of (Ok a) = no_refusal
refusal_of (Err r) = told r

abbrev pub unless : (ℕ → ChartRefusal) → Option ℕ → Verdict → Verdict
unless why None v = v
unless why (Some i) v = Err (why i)

unfoldable pub judged : List ℤ → Verdict
judged s =
    let n = record_count s in
    let rs = records s in
    let first : (Record → Bool) → Option ℕ = λ p. first_place p (record_at s) n in
    unless EqualEnds (first equal_ends)
    (unless BadMark (first bad_mark)
    (unless NotAfter (first_place (not_after s) (λ i. i) n)
    (unless NoOtherHalf (first (no_other_half rs))
    (unless Touching (first (touching rs))
    (unless OddEnd (first (odd_end rs))
    (unless WrongMark (first (wrong_mark rs)) (Ok tt)))))))

unfoldable pub verdict : List ℤ → Verdict
verdict s =
    cond (not (eqb (length s % width) 0)) (Err Ragged)
    (cond (ltb limit (record_count s)) (Err TooMany) (judged s))

abbrev pub is_accepted : Verdict → Bool
is_accepted v = is_ok v

abbrev pub accepted : List ℤ → Bool
accepted s = is_accepted (verdict s)

abbrev pub answered : {A : Type 0} → Verdict → A → Result A ChartRefusal
answered (Ok u) a = Ok a
answered (Err r) a = Err r
