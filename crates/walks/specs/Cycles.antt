-- The cycle of each record, and the numbers of cycles (document 01: "The start of the walk makes no difference",
-- "Cycles are numbered by smallest record index"). A cycle has both halves of each of its segments.
--     least i js          the least of i and of all of js
--     start_of s i        where the walk of record i is taken to start: its least record
--     has_record j c      record j is one of c
--     first_that p cs     the first of cs that passes p, the empty list where there is none
--     cycle_of s i        the cycle of record i, by the records that are walked: the one, of those that its walk is cut
--                         into, which has its segment
--     halves s c          the records of the cycle c: those walked, and their other halves
--     first_of s i        the first record, by index, of the cycle of record i
--     is_first s i        record i is the first of its cycle
--     cycle_count s       the number of cycles: each has one first record
--     cycle_number s i    the number of the cycle of record i: how many have an earlier first record
-- Assumes nothing.
use Rattle.std.specs.Prelude.{Bool, cond, List, [], ◌∷◌, ◌++◌, map, ℕ, ltb, eqb, ℤ}
use Rattle.counts.specs.Count.{count, any, places}
use Rattle.record.specs.Records.{record_count}
use Rattle.walks.specs.Ways.{way_back, walked}
use Rattle.walks.specs.Walks.{walk, cycles_of}

unfoldable pub least : ℕ → List ℕ → ℕ
least i [] = i
least i (j ∷ js) = least (cond (ltb j i) j i) js

unfoldable pub start_of : List ℤ → ℕ → ℕ
start_of s i = let j = walked s i in least j (walk s j)

abbrev pub has_record : ℕ → List ℕ → Bool
has_record j c = any (eqb j) c

unfoldable pub first_that : (List ℕ → Bool) → List (List ℕ) → List ℕ
first_that p [] = []
first_that p (c ∷ cs) = cond (p c) c (first_that p cs)

unfoldable pub cycle_of : List ℤ → ℕ → List ℕ
cycle_of s i = first_that (has_record (walked s i)) (cycles_of s (start_of s i))

abbrev pub halves : List ℤ → List ℕ → List ℕ
halves s c = c ++ map (way_back s) c

unfoldable pub first_of : List ℤ → ℕ → ℕ
first_of s i = least i (halves s (cycle_of s i))

abbrev pub is_first : List ℤ → ℕ → Bool
is_first s i = eqb (first_of s i) i

abbrev pub cycle_count : List ℤ → ℕ
cycle_count s = count (is_first s) (places (record_count s))

unfoldable pub cycle_number : List ℤ → ℕ → ℕ
cycle_number s i = count (is_first s) (places (first_of s i))
