-- How many bytes of a chart file settle what it gives (document 01: "bytes past the buffer change no answer").
--     number_at-append   bytes past the third of a number change nothing of it
--     fields-append      bytes past the most that m numbers can take, and two more, change nothing of them
--     past               bytes past the longest file and two more change no answer
--     buffered-by        so a buffer of so many is enough
--     buffered           document 01's has 8,192
-- The two more tell refusals apart: where the last mark of all, at the place 6,657, begins with a byte that goes on,
-- it is 31 if the bytes end there and 32 or 33 if two follow.
-- Assumes nothing.
use mathlib.Core.Path.{◌≡◌, refl, sym, ap, ◌∙◌}
use mathlib.Core.Logic.{⊎_elim}
use mathlib.Core.Bool.{Bool, true, false, cond}
use mathlib.Core.List.{List, ◌++◌}
use Prim.Native.Nat.{ℕ, zero, suc, ◌+◌, ◌*◌, ◌<◌, ◌≤◌}
use native.Mathlib.Omega.{arith}
use lib.Dec.{ltb}
use lib.IntN.{ℤ}
use lib.ListN.{length, drop, take, length-append, length-drop, take-append-drop}
use lib.Seq.{drop-append-le, length-take-le, take_all}
use borrow.Author.Tests.{lt-ltb, ltb-false}
use Rattle.counts.proofs.TestLaws.{lt-or-le}
use Rattle.record.specs.Records.{width}
use Rattle.chart.specs.Verdicts.{limit}
use Rattle.std.specs.Prelude.{Ok, Err}
use Rattle.file.specs.declared.FileRefusal.TheVariants.{LeftOver, TooMany, NoRoom}
use Rattle.number.specs.Numbers.{Number, got, number_in, number_at}
use Rattle.file.specs.Fields.{Field, is_mark, field_in, field_at}
use Rattle.file.specs.Files.{Taken, taken, refused, onto, after, fields, whole, counted, file_of}
use Rattle.number.proofs.SizeLaws.{number_in-append}
use Rattle.file.proofs.LengthLaws.{size, most, most-records, field_at-size, records-next, count_next}

-- three bytes settle the number at a place
pub number_at-append : (s more : List ℕ) (at : ℕ) → at + 3 ≤ length s → number_at (s ++ more) at ≡ number_at s at
number_at-append s more at l =
    ap (λ bs. number_in bs at) (drop-append-le at s more (omega arith))
    ∙ number_in-append (drop at s) more at (omega (arith, length-drop at s))

-- ---- numbers one after another

-- every number takes a byte
size-least : (k : ℕ) → 1 ≤ size k
size-least k = go (is_mark k)
  where
    go : (t : Bool) → 1 ≤ cond t 1 3
    go true = omega arith
    go false = omega arith

-- each of the numbers has two bytes or more after its first
pub fields-append : (s more : List ℕ) (k m at : ℕ) → at + most k m + 2 ≤ length s
    → fields (s ++ more) k m at ≡ fields s k m at
unfolding fields most
fields-append s more k zero at l = refl
fields-append s more k (suc m) at l =
    ap (λ x. after (field_in k at x) (fields (s ++ more) (suc k) m))
    (number_at-append s more at (omega (arith, size-least k)))
    ∙ go (field_at s k at) refl (λ next. fields-append s more (suc k) m next)
  where
    go : (x : Field) → field_at s k at ≡ x
        → ((next : ℕ) → next + most (suc k) m + 2 ≤ length s
        → fields (s ++ more) (suc k) m next ≡ fields s (suc k) m next)
        → after x (fields (s ++ more) (suc k) m) ≡ after x (fields s (suc k) m)
    go (Ok (z, next)) h rest = ap (onto z) (rest next (omega (arith, field_at-size s k at z next h)))
    go (Err r) h rest = refl

-- ---- a file

module _ (s more : List ℕ) (room : ℕ) (l : 2 + 13 * limit + 2 ≤ length s) where
  -- bytes are left over in s, and so they are with more after it, the first of them at the same place
  left_over : (t : Taken) → ((end : ℕ) (zs : List ℤ) → t ≡ taken zs end → end < length s)
      → whole (s ++ more) t ≡ whole s t
  left_over (taken zs end) h =
      let a : end < length s = h end zs refl in
      let b : end < length (s ++ more) = omega (arith, length-append s more) in
      let e = lt-ltb end (length (s ++ more)) b ∙ sym (lt-ltb end (length s) a) in
      ap (λ t. cond t (refused (LeftOver end)) (taken zs end)) e
  left_over (refused r) h = refl

  -- n records after a count that takes two bytes or less
  records-past : (n next : ℕ) → n ≤ limit → next ≤ 2
      → whole (s ++ more) (fields (s ++ more) 0 (width * n) next) ≡ whole s (fields s 0 (width * n) next)
  records-past n next a b =
      let d = most-records 0 n in
      ap (whole (s ++ more)) (fields-append s more 0 (width * n) next (omega arith))
      ∙ left_over (fields s 0 (width * n) next) (λ end zs e. omega (arith, records-next s n next end zs e))

  -- the same refusal at the same place: s is too long to be taken
  pub past : file_of (s ++ more) room ≡ file_of s room
  unfolding file_of
  past = ap (counted (s ++ more) room) (number_at-append s more 0 (omega arith)) ∙ by-count (number_at s 0) refl
    where
      by-limit : (n next : ℕ) → number_at s 0 ≡ got n next → (t : Bool) → ltb limit n ≡ t
          → cond t (refused TooMany)
          (cond (ltb room (width * n)) (refused NoRoom) (whole (s ++ more) (fields (s ++ more) 0 (width * n) next)))
          ≡ cond t (refused TooMany)
          (cond (ltb room (width * n)) (refused NoRoom) (whole s (fields s 0 (width * n) next)))
      by-limit n next h true g = refl
      by-limit n next h false g =
          let few : n ≤ limit = ltb-false limit n g in
          ap (cond (ltb room (width * n)) (refused NoRoom)) (records-past n next few (count_next s n next h few))

      by-count : (x : Number) → number_at s 0 ≡ x → counted (s ++ more) room x ≡ counted s room x
      by-count (Ok (n, next)) h = by-limit n next h (ltb limit n) refl
      by-count (Err r) h = refl

-- ---- a buffer

-- a file that is longer is refused as what the buffer has of it
pub buffered-by : (size : ℕ) → 2 + 13 * limit + 2 ≤ size → (s : List ℕ) (room : ℕ)
    → file_of (take size s) room ≡ file_of s room
buffered-by size l s room = ⊎_elim within beyond (lt-or-le (length s) size)
  where
    within : length s < size → file_of (take size s) room ≡ file_of s room
    within h = ap (λ t. file_of t room) (take_all size s (omega arith))

    beyond : size ≤ length s → file_of (take size s) room ≡ file_of s room
    beyond h =
        sym (past (take size s) (drop size s) room (omega (arith, length-take-le size s h)))
        ∙ ap (λ t. file_of t room) (take-append-drop size s)

-- the program's buffer
pub buffered : (s : List ℕ) (room : ℕ) → file_of (take 8192 s) room ≡ file_of s room
buffered s room = buffered-by 8192 (omega arith) s room
