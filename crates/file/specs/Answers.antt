-- What reading a chart file answers and leaves (document 01: "The array is written only on success, five numbers per
-- record; places beyond stay"). t is what was taken from the file (specs/Files.antt).
--     Answer               how many records were read, or the refusal
--     answer_of t          so of what was taken
--     told r               the number and the place of each refusal
--     read_refusal a       so of an answer: 0 and 0 where the file is read
--     is_file_refusal k    k is one of document 01's refusals of a file
--     contents t lent      what the lent array holds then
--     Gives t lent out a   the answer is a, and the array that was `lent` is then `out`
--     Reads s lent out a   so it is of a file s
-- Assumes nothing.
use Rattle.std.specs.Prelude.{◌≡◌, Bool, List, [], ◌∷◌, ◌++◌, ℕ, eqb, ℤ, length, drop, Result, Ok, Err}
use Rattle.counts.specs.Count.{any}
use Rattle.record.specs.Records.{record_count}
use Rattle.chart.specs.declared.Refusal.{Refusal}
use Rattle.chart.specs.Verdicts.{no_refusal}
use Rattle.number.specs.Numbers as number
use Rattle.file.specs.declared.FileRefusal.{FileRefusal}
use Rattle.file.specs.declared.FileRefusal.TheVariants.{NoNumber, Unfit, LeftOver, TooMany, NoRoom}
use Rattle.file.specs.Files.{Taken, taken, refused, file_of}

abbrev pub Answer : Type 0
Answer = Result ℕ FileRefusal

abbrev pub answer_of : Taken → Answer
answer_of (taken zs at) = Ok (record_count zs)
answer_of (refused r) = Err r

abbrev pub told : FileRefusal → Refusal
told (NoNumber r) = number.told r
told (Unfit at) = record { number = 33; index = at }
told (LeftOver at) = record { number = 34; index = at }
told TooMany = record { number = 35; index = 0 }
told NoRoom = record { number = 36; index = 0 }

abbrev pub read_refusal : Answer → Refusal
read_refusal (Ok n) = no_refusal
read_refusal (Err r) = told r

abbrev pub is_file_refusal : ℕ → Bool
is_file_refusal k = any (eqb k) (31 ∷ 32 ∷ 33 ∷ 34 ∷ 35 ∷ 36 ∷ [])

abbrev pub contents : Taken → List ℤ → List ℤ
contents (taken zs at) lent = zs ++ drop (length zs) lent
contents (refused r) lent = lent

pub record Gives (t : Taken) (lent out : List ℤ) (a : Answer) : Type 0 where
  pub says : a ≡ answer_of t
  pub leaves : out ≡ contents t lent

abbrev pub Reads : List ℕ → List ℤ → List ℤ → Answer → Type 0
Reads s lent out a = Gives (file_of s (length lent)) lent out a
