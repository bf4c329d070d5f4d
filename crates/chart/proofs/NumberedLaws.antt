-- The verdict by the refusals' numbers alone: row after row, by the first place at fault, where the number of records
-- stands for none.
--     refused k i           refusal k at record i
--     firstly k i n r       refusal k at record i where i is one of n records; r where there is none
--     numbered s            the records' first fault, 3 to 9; 0 where there is none
--     verdict_number s      1 and 2 before it
--     judged-numbered, verdict-numbered    the refusal of the verdict is that
-- Assumes nothing.
use mathlib.Core.Path.{◌≡◌, refl, ap, ◌∙◌}
use mathlib.Core.Bool.{Bool, true, false, not, cond}
use mathlib.Core.List.{List}
use Prim.Native.Nat.{ℕ, ◌%◌}
use lib.Dec.{ltb, eqb}
use lib.IntN.{ℤ}
use lib.ListN.{length}
use Rattle.std.specs.Prelude.{Some, None, Err}
use Rattle.counts.specs.Scan.{first_from, first_place}
use Rattle.counts.proofs.PlaceLaws.{first_place_is}
use Rattle.record.specs.declared.Record.{Record}
use Rattle.record.specs.Records.{width, record_at, record_count, records}
use Rattle.chart.specs.declared.ChartRefusal.{ChartRefusal}
use Rattle.chart.specs.declared.ChartRefusal.TheVariants.{Ragged, TooMany, EqualEnds, BadMark, NotAfter}
use Rattle.chart.specs.declared.ChartRefusal.TheVariants.{NoOtherHalf, Touching, OddEnd, WrongMark}
use Rattle.chart.specs.declared.Refusal.{Refusal}
use Rattle.chart.specs.Rows.{equal_ends, bad_mark, not_after, no_other_half, touching, odd_end, wrong_mark}
use Rattle.chart.specs.Verdicts.{limit, Verdict, told, no_refusal, refusal_of, unless, judged, verdict}

abbrev pub refused : ℕ → ℕ → Refusal
refused k i = record { number = k; index = i }

abbrev pub firstly : ℕ → ℕ → ℕ → Refusal → Refusal
firstly k i n r = cond (ltb i n) (refused k i) r

abbrev pub numbered : List ℤ → Refusal
numbered s =
    let n = record_count s in
    let rs = records s in
    let first : (Record → Bool) → ℕ = λ p. first_from p (record_at s) 0 n in
    firstly 3 (first equal_ends) n
    (firstly 4 (first bad_mark) n
    (firstly 5 (first_from (not_after s) (λ i. i) 0 n) n
    (firstly 6 (first (no_other_half rs)) n
    (firstly 7 (first (touching rs)) n
    (firstly 8 (first (odd_end rs)) n
    (firstly 9 (first (wrong_mark rs)) n no_refusal))))))

abbrev pub verdict_number : List ℤ → Refusal
verdict_number s =
    cond (not (eqb (length s % width) 0)) (refused 1 0)
    (cond (ltb limit (record_count s)) (refused 2 0) (numbered s))

-- one row of the table, and the rows after it
row : {A : Type 0} (p : A → Bool) (f : ℕ → A) (n : ℕ) (why : ℕ → ChartRefusal) (k : ℕ) (v : Verdict) {r : Refusal}
    → ((i : ℕ) → told (why i) ≡ refused k i) → refusal_of v ≡ r
    → refusal_of (unless why (first_place p f n) v) ≡ firstly k (first_from p f 0 n) n r
row p f n why k v {r} named rest =
    ap (λ o. refusal_of (unless why o v)) (first_place_is p f n) ∙ go (ltb (first_from p f 0 n) n)
  where
    go : (b : Bool) → refusal_of (unless why (cond b (Some (first_from p f 0 n)) None) v)
        ≡ cond b (refused k (first_from p f 0 n)) r
    go true = named (first_from p f 0 n)
    go false = rest

pub judged-numbered : (s : List ℤ) → refusal_of (judged s) ≡ numbered s
unfolding judged
judged-numbered s =
    let n = record_count s in
    let rs = records s in
    row equal_ends (record_at s) n EqualEnds 3 _ (λ i. refl)
    (row bad_mark (record_at s) n BadMark 4 _ (λ i. refl)
    (row (not_after s) (λ i. i) n NotAfter 5 _ (λ i. refl)
    (row (no_other_half rs) (record_at s) n NoOtherHalf 6 _ (λ i. refl)
    (row (touching rs) (record_at s) n Touching 7 _ (λ i. refl)
    (row (odd_end rs) (record_at s) n OddEnd 8 _ (λ i. refl)
    (row (wrong_mark rs) (record_at s) n WrongMark 9 _ (λ i. refl) refl))))))

pub verdict-numbered : (s : List ℤ) → refusal_of (verdict s) ≡ verdict_number s
unfolding verdict
verdict-numbered s = go (not (eqb (length s % width) 0)) (ltb limit (record_count s))
  where
    go : (b c : Bool) → refusal_of {A = Unit {0}} (cond b (Err Ragged) (cond c (Err TooMany) (judged s)))
        ≡ cond b (refused 1 0) (cond c (refused 2 0) (numbered s))
    go true c = refl
    go false true = refl
    go false false = judged-numbered s
