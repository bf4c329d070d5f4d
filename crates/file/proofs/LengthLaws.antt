-- How long a chart file can be.
--     size k             how many bytes the number for the place k of the array takes at the most: a mark 1, another 3
--     most k m           how many the m numbers from the place k on take at the most
--     most-records       13 a record
--     field_at-size, fields-next, records-next   so it is of one number, of m numbers, of n records
--     count_next         a count of 512 or less takes at most 2
--     longest, longest-bytes    so the longest file that can be taken has no more than 2 + 13 * 512 = 6,658 bytes
-- That there is one so long is a law of proofs/LongestLaws.antt.
-- Assumes nothing.
use mathlib.Core.Path.{◌≡◌, refl, ap, ◌∙◌}
use mathlib.Core.Bool.{Bool, true, false, cond}
use mathlib.Core.List.{List}
use Prim.Native.Nat.{ℕ, zero, suc, ◌+◌, ◌*◌, ◌%◌, ◌<◌, ◌≤◌}
use native.Mathlib.Omega.{arith}
use lib.IntN.{ℤ}
use lib.ListN.{length}
use borrow.Author.Tests.{eq-eqb, ne_eqb}
use Rattle.record.specs.Records.{width}
use Rattle.chart.specs.Verdicts.{limit}
use Rattle.number.specs.Numbers.{got, number_at}
use Rattle.file.specs.Fields.{put, is_mark, field_at}
use Rattle.file.specs.Files.{taken, fields, file_of}
use Rattle.number.proofs.SizeLaws.{number_in-size}
use Rattle.file.proofs.StepLaws.{Takes, field_at-next, fields-step}
use Rattle.file.proofs.TakenLaws.{file_of-parts}

-- ---- bytes at the most

abbrev pub size : ℕ → ℕ
size k = cond (is_mark k) 1 3

unfoldable pub most : ℕ → ℕ → ℕ
most k zero = 0
most k (suc m) = size k + most (suc k) m

-- the first four numbers of a record are coordinates
size-coordinate : (k : ℕ) → k % width < 4 → size k ≡ 3
size-coordinate k l = rw (ne_eqb (k % width) 4 (λ e. omega arith))

-- the fifth is the mark
size-mark : (k : ℕ) → k % width ≡ 4 → size k ≡ 1
size-mark k e = rw (eq-eqb (k % width) 4 e)

-- a record more is 13 more
most-more : (i m n : ℕ) → most (width * suc i) m ≡ 13 * n
    → most (width * i) (suc (suc (suc (suc (suc m))))) ≡ 13 * suc n
unfolding most
most-more i m n e =
    let k = width * i in
    let a = size-coordinate k (omega arith) in
    let b = size-coordinate (suc k) (omega arith) in
    let c = size-coordinate (suc (suc k)) (omega arith) in
    let d = size-coordinate (suc (suc (suc k))) (omega arith) in
    let x = size-mark (suc (suc (suc (suc k)))) (omega arith) in
    let r : most (suc (suc (suc (suc (suc k))))) m ≡ 13 * n = ap (λ j. most j m) (omega arith) ∙ e in
    omega arith

-- n records, the first of them record i
pub most-records : (i n : ℕ) → most (width * i) (width * n) ≡ 13 * n
unfolding most
most-records i zero = refl
most-records i (suc n) =
    let e : width * suc n ≡ suc (suc (suc (suc (suc (width * n))))) = omega arith in
    ap (most (width * i)) e ∙ most-more i (width * n) n (most-records (suc i) n)

-- ---- numbers that are taken

-- one number takes no more than its size
pub field_at-size : (s : List ℕ) (k at : ℕ) (z : ℤ) (next : ℕ) → field_at s k at ≡ put z next → next ≤ at + size k
field_at-size s k at z next e = go (is_mark k) refl (field_at-next s k at z next e)
  where
    go : (t : Bool) → is_mark k ≡ t → Takes s k at next → next ≤ at + cond t 1 3
    go true h w = omega (arith, w.mark h)
    go false h w = w.most

-- m numbers take no more than the most
pub fields-next : (s : List ℕ) (k m at end : ℕ) (zs : List ℤ) → fields s k m at ≡ taken zs end → end ≤ at + most k m
unfolding fields most
fields-next s k zero at end zs e = let w : at ≡ end = cc in omega arith
fields-next s k (suc m) at end zs e =
    let w = fields-step s k m at end zs e in
    let a = field_at-size s k at w.value w.next w.first in
    let b = fields-next s (suc k) m w.next end w.rest w.others in
    omega arith

-- n records take no more than 13 * n bytes
pub records-next : (s : List ℕ) (n at end : ℕ) (zs : List ℤ) → fields s 0 (width * n) at ≡ taken zs end
    → end ≤ at + 13 * n
records-next s n at end zs e = omega (arith, fields-next s 0 (width * n) at end zs e, most-records 0 n)

-- ---- a file that is taken

-- a count of 512 or less takes no more than two
pub count_next : (s : List ℕ) (n next : ℕ) → number_at s 0 ≡ got n next → n ≤ limit → next ≤ 2
count_next s n next e l = (number_in-size s 0 n next e).two (omega arith)

-- no longer file is taken
pub longest : (s : List ℕ) (room end : ℕ) (zs : List ℤ) → file_of s room ≡ taken zs end → length s ≤ 2 + 13 * limit
longest s room end zs e =
    let w = file_of-parts s room end zs e in
    let a = count_next s w.count w.first w.counts w.few in
    let b = records-next s w.count w.first end zs w.records in
    omega arith

-- the same, as document 01 has the number
pub longest-bytes : (s : List ℕ) (room end : ℕ) (zs : List ℤ) → file_of s room ≡ taken zs end → length s ≤ 6658
longest-bytes s room end zs e = longest s room end zs e
