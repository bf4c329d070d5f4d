-- That a chart file of 6,658 bytes is taken: the bound of proofs/LengthLaws.antt is the least there is.
--     long_file n           n records of the longest kind (proofs/ManyLaws.antt) after their count in two bytes
--     long_file-length      it has 2 + 13 * n bytes
--     long_file-bytes       all of them below 256
--     long_file-taken       it is taken, for any count from 128 to 512
--     longest-reached       so one of 6,658 bytes is, by any array that has room for 512 records
-- Assumes nothing.
use mathlib.Core.Path.{◌≡◌, refl, ap, ◌∙◌}
use mathlib.Core.Bool.{true}
use mathlib.Core.List.{List, ◌∷◌}
use Prim.Native.Nat.{ℕ, ◌+◌, ◌*◌, ◌/◌, ◌%◌, ◌<◌, ◌≤◌}
use native.Mathlib.Omega.{arith}
use lib.Dec.{ltb}
use lib.ListN.{length}
use borrow.Author.Tests.{le-leb, lt-leb, le-ltb, lt-ltb, ne_eqb}
use Rattle.counts.specs.Count.{all}
use Rattle.counts.proofs.TestLaws.{and_intro}
use Rattle.record.specs.Records.{width}
use Rattle.chart.specs.Verdicts.{limit}
use Rattle.number.specs.Numbers.{got, number_at}
use Rattle.number.specs.Groups.{first_group}
use Rattle.file.specs.Files.{taken, fields, whole, counted, file_of}
use Rattle.number.proofs.NumberLaws.{number_in-groups}
use Rattle.file.proofs.ManyLaws.{many_bytes, many_numbers, many-length, many-bytes, records-taken}

-- the count's lower seven bits, marked as going on, and the others
unfoldable pub long_file : ℕ → List ℕ
long_file n = (n % 128 + 128) ∷ (n / 128) ∷ many_bytes n

-- two bytes of count, and 13 a record
pub long_file-length : (n : ℕ) → length (long_file n) ≡ 2 + 13 * n
unfolding long_file
long_file-length n = omega (arith, many-length n)

-- each fits a byte
pub long_file-bytes : (n : ℕ) → n ≤ limit → all (λ b. ltb b 256) (long_file n) ≡ true
unfolding long_file all
long_file-bytes n l =
    and_intro (lt-ltb (n % 128 + 128) 256 (omega arith))
    (and_intro (lt-ltb (n / 128) 256 (omega arith)) (many-bytes n))

-- ---- it is taken

-- the count is read from its two bytes
count-taken : (n : ℕ) → 128 ≤ n → n < 16384 → number_at (long_file n) 0 ≡ got n 2
unfolding long_file first_group
count-taken n a b =
    let on = le-leb 128 (n % 128 + 128) (omega arith) in
    let last = lt-leb 128 (n / 128) (omega arith) in
    let more = ne_eqb (n / 128) 0 (λ e. omega arith) in
    rw (number_in-groups (long_file n) 0, on, last, more) (ap (λ m. got m 2) (omega arith))

-- the records after it are taken
all-taken : (n : ℕ) → fields (long_file n) 0 (width * n) 2 ≡ taken (many_numbers n) (2 + 13 * n)
unfolding long_file
all-taken n = records-taken (long_file n) 0 n 2 (2 + 13 * n) refl refl

-- nothing is left after them
pub long_file-taken : (n room : ℕ) → 128 ≤ n → n ≤ limit → width * n ≤ room
    → file_of (long_file n) room ≡ taken (many_numbers n) (2 + 13 * n)
unfolding file_of
long_file-taken n room a b c =
    ap (counted (long_file n) room) (count-taken n a (omega arith))
    ∙ rw (le-ltb limit n b, le-ltb room (width * n) c) (ap (whole (long_file n)) (all-taken n) ∙ all_read)
  where
    all_read : whole (long_file n) (taken (many_numbers n) (2 + 13 * n)) ≡ taken (many_numbers n) (2 + 13 * n)
    all_read = rw (le-ltb (2 + 13 * n) (length (long_file n)) (omega (arith, long_file-length n)))

-- 512 records: a file of bytes as long as can be
pub longest-reached : (s : List ℕ) × (length s ≡ 2 + 13 * limit) × (all (λ b. ltb b 256) s ≡ true)
    × ((room : ℕ) → width * limit ≤ room → file_of s room ≡ taken (many_numbers limit) (2 + 13 * limit))
longest-reached = (
  long_file limit,
  long_file-length limit,
  long_file-bytes limit (omega arith),
  λ room l. long_file-taken limit room (omega arith) (omega arith) l,
)
