-- A chart file (document 01, "The chart file": "A file is the record count, then each record: four signed numbers and
-- the mark"). s are the file's bytes. "Refusals, by first place met".
--     Taken                what is taken from a file: numbers of the array, and the place after them; or the refusal. A
--                          type of its own: it is no function's answer, and theorems of promises, Files, name its cases
--     onto z t             the number z before those of t
--     after f rest         the number of the field f, then the rest, which begins at the place after it
--     fields s k m at      m numbers of the array, from its place k on, taken from the place `at` on: 31, 32, 33
--     whole s t            34, LeftOver: "bytes left over"; the place is "the first byte left over"
--     records_of s n from  n records from the place `from` on, and nothing after them
--     counted s room c     the file whose count is c, for a lent array of `room` numbers:
--                          35, TooMany: "count above 512"; 36, NoRoom: "lent array too short for the count", at the
--                          place 0 ("directly after the count, in that order")
--     file_of s room       the file s
-- Assumes nothing.
use Rattle.std.specs.Prelude.{cond, List, [], ◌∷◌, ℕ, zero, suc, ◌*◌, ltb, ℤ, length, Ok, Err}
use Rattle.record.specs.Records.{width}
use Rattle.chart.specs.Verdicts.{limit}
use Rattle.file.specs.declared.FileRefusal.{FileRefusal}
use Rattle.file.specs.declared.FileRefusal.TheVariants.{NoNumber, LeftOver, TooMany, NoRoom}
use Rattle.number.specs.Numbers.{Number, number_at}
use Rattle.file.specs.Fields.{Field, field_at}

pub data Taken : Type 0 where
  taken : List ℤ → ℕ → Taken
  refused : FileRefusal → Taken

abbrev pub onto : ℤ → Taken → Taken
onto z (taken zs at) = taken (z ∷ zs) at
onto z (refused r) = refused r

abbrev pub after : Field → (ℕ → Taken) → Taken
after (Ok (z, next)) rest = onto z (rest next)
after (Err r) rest = refused r

unfoldable pub fields : List ℕ → ℕ → ℕ → ℕ → Taken
fields s k zero at = taken [] at
fields s k (suc m) at = after (field_at s k at) (λ next. fields s (suc k) m next)

abbrev pub whole : List ℕ → Taken → Taken
whole s (taken zs at) = cond (ltb at (length s)) (refused (LeftOver at)) (taken zs at)
whole s (refused r) = refused r

abbrev pub records_of : List ℕ → ℕ → ℕ → Taken
records_of s n from = whole s (fields s 0 (width * n) from)

abbrev pub counted : List ℕ → ℕ → Number → Taken
counted s room (Ok (n, next)) =
    cond (ltb limit n) (refused TooMany)
    (cond (ltb room (width * n)) (refused NoRoom) (records_of s n next))
counted s room (Err r) = refused (NoNumber r)

unfoldable pub file_of : List ℕ → ℕ → Taken
file_of s room = counted s room (number_at s 0)
