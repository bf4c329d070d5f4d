-- Joining two charts a and b (document 01, "Joining two charts"): what is refused, what is answered, and what the lent
-- array holds then. What the result is: combined's specs.
--     result_of op a b       the result's records
--     touches_in b r         the segment of r touches a segment of b
--     first_touching a b     the first record of a of which this holds; the number of records where there is none
--     Outcome                the records of the result, or why there is none
--     unless_refused why v o    o, unless v refuses: that refusal, by why of the first chart or of the second
--     unless_touching i o    o, unless there is such a place i: that a segment of one touches one of the other there
--     joined_in op a b room  of two accepted charts, for a lent array of `room` numbers:
--                            11 a segment of one touches a segment of the other, at the first such record of the first
--                            12 the result has more than 512 records
--                            13 the lent array is shorter than the result
--     outcome op a b room    of any two arrays: first the refusals of the first chart, then of the second
--     Joined                 the number of records written, or why there are none
--     answer_of o            the answer
--     contents o lent        what the lent array holds then: the result's numbers at its start, the rest as it was
--     told_joining r, named r    the paper's number and index of a refusal, and the chart that it names: 1 or 2, and 0
--                            where it names none
--     join_refusal j, chart_named j  the same of an answer: all 0 where the question was answered
--     is_join_refusal k     k is one of document 01's refusals of joining that name no chart
--     Gives o lent out j    the answer is j, and the array that was `lent` is then `out`
--     Joins op a b lent out j    so it is of any two arrays
-- Assumes nothing.
use Rattle.std.specs.Prelude.{◌≡◌, Bool, cond, List, [], ◌∷◌, ◌++◌, ℕ, ◌*◌, ltb, eqb, ℤ, length, drop}
use Rattle.std.specs.Prelude.{Option, Some, None, Result, Ok, Err}
use Rattle.counts.specs.Count.{any}
use Rattle.counts.specs.Scan.{first_from, first_place}
use Rattle.record.specs.declared.Record.{Record}
use Rattle.record.specs.Records.{width, record_at, record_count, records}
use Rattle.segment.specs.Segments.{segment}
use Rattle.among.specs.Among.{touched}
use Rattle.chart.specs.declared.Refusal.{Refusal}
use Rattle.chart.specs.declared.ChartRefusal.{ChartRefusal}
use Rattle.chart.specs.Verdicts.{limit, Verdict, told, no_refusal, verdict}
use Rattle.combined.specs.Results.{result, numbers}
use Rattle.sides.specs.declared.Op.{Op}
use Rattle.sides.specs.Operations.{joining, both}
use Rattle.join.specs.declared.JoinRefusal.{JoinRefusal}
use Rattle.join.specs.declared.JoinRefusal.TheVariants.{First, Second, Touching, TooMany, NoRoom}

-- ---- the result

abbrev pub result_of : Op → List ℤ → List ℤ → List Record
result_of op a b = result (joining op) (both a b)

-- ---- refusals

abbrev pub touches_in : List ℤ → Record → Bool
touches_in b r = touched (records b) (segment r)

abbrev pub first_touching : List ℤ → List ℤ → ℕ
first_touching a b = first_from (touches_in b) (record_at a) 0 (record_count a)

abbrev pub Outcome : Type 0
Outcome = Result (List Record) JoinRefusal

abbrev pub unless_refused : (ChartRefusal → JoinRefusal) → Verdict → Outcome → Outcome
unless_refused why (Ok u) o = o
unless_refused why (Err r) o = Err (why r)

abbrev pub unless_touching : Option ℕ → Outcome → Outcome
unless_touching None o = o
unless_touching (Some i) o = Err (Touching i)

unfoldable pub joined_in : Op → List ℤ → List ℤ → ℕ → Outcome
joined_in op a b room =
    let rs = result_of op a b in
    unless_touching (first_place (touches_in b) (record_at a) (record_count a))
    (cond (ltb limit (length rs)) (Err TooMany)
    (cond (ltb room (width * length rs)) (Err NoRoom) (Ok rs)))

unfoldable pub outcome : Op → List ℤ → List ℤ → ℕ → Outcome
outcome op a b room = unless_refused First (verdict a) (unless_refused Second (verdict b) (joined_in op a b room))

-- ---- the answer

abbrev pub Joined : Type 0
Joined = Result ℕ JoinRefusal

abbrev pub answer_of : Outcome → Joined
answer_of (Ok rs) = Ok (length rs)
answer_of (Err r) = Err r

abbrev pub contents : Outcome → List ℤ → List ℤ
contents (Ok rs) lent = numbers rs ++ drop (width * length rs) lent
contents (Err r) lent = lent

abbrev pub told_joining : JoinRefusal → Refusal
told_joining (First r) = told r
told_joining (Second r) = told r
told_joining (Touching i) = record { number = 11; index = i }
told_joining TooMany = record { number = 12; index = 0 }
told_joining NoRoom = record { number = 13; index = 0 }

abbrev pub named : JoinRefusal → ℕ
named (First r) = 1
named (Second r) = 2
named (Touching i) = 0
named TooMany = 0
named NoRoom = 0

abbrev pub join_refusal : Joined → Refusal
join_refusal (Ok n) = no_refusal
join_refusal (Err r) = told_joining r

abbrev pub chart_named : Joined → ℕ
chart_named (Ok n) = 0
chart_named (Err r) = named r

abbrev pub is_join_refusal : ℕ → Bool
is_join_refusal k = any (eqb k) (11 ∷ 12 ∷ 13 ∷ [])

pub record Gives (o : Outcome) (lent out : List ℤ) (j : Joined) : Type 0 where
  pub says : j ≡ answer_of o
  pub leaves : out ≡ contents o lent

abbrev pub Joins : Op → List ℤ → List ℤ → List ℤ → List ℤ → Joined → Type 0
Joins op a b lent out j = Gives (outcome op a b (length lent)) lent out j
