-- What the walks of a chart come to, as an answer to an array of numbers. What the start of a walk and the first record
-- of a cycle are: walks' specs/Cycles.antt.
--     filled f n        f 0, f 1, .. : n of them, and 0 for every other record that a chart may have
--     arrays_of s       the start of the walk and the first record of the cycle of each of its records
--     Circled s c       c is the answer for the array s: these where it is accepted, else its refusal
-- Assumes nothing.
use Rattle.std.specs.Prelude.{◌≡◌, List, ◌++◌, ℕ, ◌-◌, ℤ, Result}
use Rattle.counts.specs.Count.{listed}
use Rattle.record.specs.Records.{record_count}
use Rattle.chart.specs.declared.ChartRefusal.{ChartRefusal}
use Rattle.chart.specs.Verdicts.{limit, verdict, answered}
use Rattle.walks.specs.Cycles.{start_of, first_of}
use Rattle.cycles.specs.declared.Cycles.{Cycles}

unfoldable pub filled : (ℕ → ℕ) → ℕ → List ℕ
filled f n = listed f 0 n ++ listed (λ i. 0) n (limit - n)

unfoldable pub arrays_of : List ℤ → Cycles
arrays_of s = record { starts = filled (start_of s) (record_count s); firsts = filled (first_of s) (record_count s) }

abbrev pub Circled : List ℤ → Result Cycles ChartRefusal → Type 0
Circled s c = c ≡ answered (verdict s) (arrays_of s)
