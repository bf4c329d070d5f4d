-- What the library promises of chart files, over document 01's rules, for whatever bytes and whatever array.
--     read-refused      a file that is refused: by one of the numbers 31 to 36, at a place of the file or its end, and
--                       the lent array is as it was
--     read-ends         so every file ends with the number 0, for none, or such a refusal, and the array is as it was
--     read-records      a file of which n records are read: they are what the file says, to its last byte, and stand at
--                       the array's beginning; places beyond stay; and n is no more than the limit
--     longest-file      no file of more than 6,658 bytes is taken
--     longest-there     one of 6,658 bytes is
--     past-the-buffer   so the bytes after the first 8,192 change nothing
--     NumberEnds at r   nothing is refused, or it is 31 or 32 at the place `at`
--     number-ends       so it is of one number, at whatever place of whatever bytes
--     largest-number    no number is above 2,097,151, which is 2 ^ 21 - 1
--     square-file       document 01's file of the square holds the square
--     NumberRefused a r k i, FileRefused t r k i    it is refused by r, which is k at the place i
--     forms             the forms of one number, and the empty chart's file
-- That two outcomes coincide: Outcomes.antt. Assumes nothing.
use mathlib.Core.Path.{◌≡◌, refl, ap, ◌∙◌}
use mathlib.Core.Logic.{◌⊎◌, inl, inr}
use mathlib.Core.Bool.{Bool, true, false, cond, ◌&&◌}
use mathlib.Core.List.{List, [], ◌∷◌}
use Prim.Native.Nat.{ℕ, ◌+◌, ◌*◌, ◌≤◌}
use native.Mathlib.Omega.{arith}
use lib.Dec.{ltb, leb, eqb}
use lib.IntN.{ℤ}
use lib.ListN.{length, get_or, take, drop}
use Rattle.counts.specs.Count.{all, any, first_index}
use Rattle.record.specs.Records.{width}
use Rattle.std.specs.Prelude.{Ok, Err}
use Rattle.chart.specs.declared.Refusal.{Refusal}
use Rattle.chart.specs.Verdicts.{limit, no_refusal}
use Rattle.number.specs.declared.NumberRefusal.{NumberRefusal}
use Rattle.number.specs.declared.NumberRefusal.TheVariants.{Ends, Overlong}
use Rattle.number.specs.Numbers as number
use Rattle.number.specs.Numbers.{Number, got, last_of, value_of, number_in, number_at, number_refusal, signed}
use Rattle.file.specs.declared.FileRefusal.{FileRefusal}
use Rattle.file.specs.declared.FileRefusal.TheVariants.{NoNumber, NoRoom}
use Rattle.file.specs.Fields.{coordinate_for, number_for, field}
use Rattle.file.specs.Files.{Taken, taken, refused, fields, file_of}
use Rattle.file.specs.Answers.{Answer, told, read_refusal, is_file_refusal, Reads}
use Rattle.file.proofs.AnswerLaws.{reads-took, reads-refused, reads-untouched}
use Rattle.file.proofs.RefusalLaws.{file_of-told, file_of-end}
use Rattle.number.proofs.SizeLaws.{number_in-size}
use Rattle.file.proofs.LengthLaws.{longest-bytes}
use Rattle.file.proofs.ManyLaws.{many_numbers}
use Rattle.file.proofs.LongestLaws.{longest-reached}
use Rattle.file.proofs.BufferLaws.{buffered}
use Rattle.promises.specs.Bench.{square, square_file, as_told}

module _ (s : List ℕ) (lent out : List ℤ) (a : Answer) (reads : Reads s lent out a) where
  pub read-refused : (r : FileRefusal) → a ≡ Err r
      → (is_file_refusal (told r).number ≡ true) × ((told r).index ≤ length s) × (out ≡ lent)
  read-refused r e =
      let q = file_of-told s (length lent) (reads-refused s lent out reads e) in
      (q.number, q.place.within, reads-untouched s lent out reads e)

  pub read-ends : (read_refusal a ≡ no_refusal) ⊎ ((is_file_refusal (read_refusal a).number ≡ true) × (out ≡ lent))
  read-ends = go a refl
    where
      go : (b : Answer) → a ≡ b
          → (read_refusal b ≡ no_refusal) ⊎ ((is_file_refusal (read_refusal b).number ≡ true) × (out ≡ lent))
      go (Ok n) e = inl refl
      go (Err r) e = let q = read-refused r e in inr (q.0, q.2)

  pub read-records : (n : ℕ) → a ≡ Ok n
      → (file_of s (length lent) ≡ taken (take (width * n) out) (length s))
      × (drop (width * n) out ≡ drop (width * n) lent) × (n ≤ limit)
  read-records n e =
      let took = reads-took s lent out reads e in
      let end = file_of-end s (length lent) took.end (take (width * n) out) took.is in
      (took.is ∙ ap (taken (take (width * n) out)) end, took.beyond, took.few)

pub longest-file : (s : List ℕ) (room end : ℕ) (zs : List ℤ) → file_of s room ≡ taken zs end → length s ≤ 6658
longest-file = longest-bytes

pub longest-there : (s : List ℕ) × (zs : List ℤ) × (length s ≡ 6658) × (all (λ b. ltb b 256) s ≡ true)
    × (file_of s 2560 ≡ taken zs 6658)
longest-there =
    let l = longest-reached in (l.0, many_numbers limit, l.1, l.2, l.3 2560 (omega arith))

pub past-the-buffer : (s : List ℕ) (room : ℕ) → file_of (take 8192 s) room ≡ file_of s room
past-the-buffer = buffered

abbrev pub NumberEnds : ℕ → Refusal → Type 0
NumberEnds at r = (r ≡ no_refusal) ⊎ ((any (eqb r.number) (31 ∷ 32 ∷ []) ≡ true) × (r.index ≡ at))

pub number-ends : (s : List ℕ) (at : ℕ) → NumberEnds at (number_refusal (number_at s at))
unfolding number_in any
number-ends s at =
    let bs = drop at s in
    let k = last_of bs in
    go (ltb 2 k) (leb (length bs) k) (ltb 0 k && eqb (get_or bs k 0) 0) (value_of (take (k + 1) bs)) (at + (k + 1))
  where
    go : (a b c : Bool) (n next : ℕ) → NumberEnds at
        (number_refusal
        (cond a (Err (Overlong at)) (cond b (Err (Ends at)) (cond c (Err (Overlong at)) (got n next)))))
    go true b c n next = inr (refl, refl)
    go false true c n next = inr (refl, refl)
    go false false true n next = inr (refl, refl)
    go false false false n next = inl refl

pub largest-number : (s : List ℕ) (at n next : ℕ) → number_at s at ≡ Ok (n, next) → n ≤ 2097151
largest-number s at n next e = omega (arith, (number_in-size (drop at s) at n next e).small)

pub square-file : file_of square_file 40 ≡ taken square 41
unfolding file_of fields field number_for coordinate_for signed number_in value_of first_index
square-file = refl

-- a number that is refused by r, which is k at the place i; and a file
abbrev pub NumberRefused : Number → NumberRefusal → ℕ → ℕ → Type 0
NumberRefused a r k i = (a ≡ Err r) × (number.told r ≡ as_told k i)

abbrev pub FileRefused : Taken → FileRefusal → ℕ → ℕ → Type 0
FileRefused t r k i = (t ≡ refused r) × (told r ≡ as_told k i)

pub record Forms : Type 0 where
  pub third-high : NumberRefused (number_at (128 ∷ 128 ∷ 128 ∷ []) 0) (Overlong 0) 32 0
  pub two-high : NumberRefused (number_at (128 ∷ 128 ∷ []) 0) (Ends 0) 31 0
  pub zero-after-one : NumberRefused (number_at (128 ∷ 0 ∷ []) 0) (Overlong 0) 32 0
  pub zero-after-two : NumberRefused (number_at (128 ∷ 128 ∷ 0 ∷ []) 0) (Overlong 0) 32 0
  pub largest : number_at (255 ∷ 255 ∷ 127 ∷ []) 0 ≡ Ok (2097151, 3)
  pub no-file : FileRefused (file_of [] 0) (NoNumber (Ends 0)) 31 0
  pub count-alone : FileRefused (file_of (1 ∷ []) 5) (NoNumber (Ends 1)) 31 1
  pub count-first : FileRefused (file_of (1 ∷ []) 4) NoRoom 36 0
  pub empty-chart : file_of (0 ∷ []) 0 ≡ taken [] 1

pub forms : Forms
unfolding file_of fields field number_for coordinate_for signed number_in value_of first_index
forms = record {
  third-high = (refl, refl);
  two-high = (refl, refl);
  zero-after-one = (refl, refl);
  zero-after-two = (refl, refl);
  largest = refl;
  no-file = (refl, refl);
  count-alone = (refl, refl);
  count-first = (refl, refl);
  empty-chart = refl;
}
