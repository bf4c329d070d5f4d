-- Why a file is refused (document 01: "Refusals, by first place met").
--     InFile s at         at is a place of the file s or its end, and no further than the longest file that can be
--                         taken is long
--     Told s r            r is one of the refusals 31 to 36, and its place is such a one
--     numbers             its number is no more than 36
--     file_of-told        so is every refusal of a file
--     file_of-end         a file that is taken is read to its end
-- Assumes nothing.
use mathlib.Core.Path.{◌≡◌, refl, sym, subst, ◌∙◌}
use mathlib.Core.Logic.{◌⊎◌, inl, inr}
use mathlib.Core.Bool.{Bool, true, false, cond, ◌&&◌, true≢false}
use mathlib.Core.List.{List}
use Prim.Native.Nat.{ℕ, zero, suc, ◌+◌, ◌*◌, ◌<◌, ◌≤◌, zero-le}
use native.Mathlib.Omega.{arith}
use lib.Dec.{leb, ltb, eqb}
use lib.IntN.{ℤ}
use lib.ListN.{length, get_or, take, drop, length-drop}
use borrow.Author.Tests.{ltb-false, ne_eqb}
use Rattle.counts.specs.Count.{any}
use Rattle.counts.proofs.TestLaws.{lt-or-le}
use Rattle.record.specs.Records.{width}
use Rattle.chart.specs.declared.Refusal.{Refusal}
use Rattle.chart.specs.Verdicts.{limit}
use Rattle.std.specs.Prelude.{Option, Some, None, Ok, Err}
use Rattle.number.specs.declared.NumberRefusal.TheVariants.{Ends, Overlong}
use Rattle.file.specs.declared.FileRefusal.{FileRefusal}
use Rattle.file.specs.declared.FileRefusal.TheVariants.{LeftOver, TooMany, NoRoom}
use Rattle.number.specs.Numbers as number
use Rattle.number.specs.Numbers.{Number, got, last_of, value_of, number_in, number_at, signed}
use Rattle.file.specs.Fields.{Field, number_for, fit, field, field_in, field_at}
use Rattle.file.specs.Files.{Taken, taken, refused, onto, after, fields, whole, records_of, counted}
use Rattle.file.specs.Files.{file_of}
use Rattle.file.specs.Answers.{told, is_file_refusal}
use Rattle.number.proofs.SizeLaws.{number_in-size}
use Rattle.file.proofs.TakenLaws.{file_of-parts}
use Rattle.file.proofs.LengthLaws.{most, most-records, field_at-size, count_next}

pub record InFile (s : List ℕ) (at : ℕ) : Type 0 where
  pub within : at ≤ length s
  pub near : at ≤ 2 + 13 * limit

pub record Told (s : List ℕ) (r : Refusal) : Type 0 where
  pub number : is_file_refusal r.number ≡ true
  pub place : InFile s r.index

-- so its number is no more than 36
pub numbers : (k : ℕ) → is_file_refusal k ≡ true → k ≤ 36
unfolding any
numbers k e = go (lt-or-le 36 k)
  where
    none : 36 < k → is_file_refusal k ≡ false
    none l =
        rw (
          ne_eqb k 31 (λ h. omega arith),
          ne_eqb k 32 (λ h. omega arith),
          ne_eqb k 33 (λ h. omega arith),
          ne_eqb k 34 (λ h. omega arith),
          ne_eqb k 35 (λ h. omega arith),
          ne_eqb k 36 (λ h. omega arith),
        )

    go : (36 < k) ⊎ (k ≤ 36) → k ≤ 36
    go (inl l) = absurd (true≢false (sym e ∙ none l))
    go (inr l) = l

-- a refusal of one of these numbers at a place of the file
placed : (s : List ℕ) (k at : ℕ) → is_file_refusal k ≡ true → InFile s at → Told s (record { number = k; index = at })
placed s k at h l = record { number = h; place = l }

first-place : (s : List ℕ) → InFile s 0
first-place s = record { within = zero-le; near = zero-le }

module _ (s : List ℕ) where
  -- ---- one number

  abbrev NumberTold : Number → Type 0
  NumberTold (Ok (n, next)) = next ≤ length s
  NumberTold (Err r) = Told s (number.told r)

  -- of a number that is not refused nothing is said yet
  abbrev NumberLeft : ℕ → Number → Type 0
  NumberLeft at (Ok x) = InFile s at
  NumberLeft at (Err r) = Told s (number.told r)

  number-left : (at : ℕ) → InFile s at → NumberLeft at (number_at s at)
  unfolding number_in any
  number-left at l =
      let bs = drop at s in
      let k = last_of bs in
      go (ltb 2 k) (leb (length bs) k) (ltb 0 k && eqb (get_or bs k 0) 0) (value_of (take (k + 1) bs)) (at + (k + 1))
    where
      go : (a b c : Bool) (n next : ℕ) → NumberLeft at
          (cond a (Err (Overlong at)) (cond b (Err (Ends at)) (cond c (Err (Overlong at)) (got n next))))
      go true b c n next = placed s 32 at refl l
      go false true c n next = placed s 31 at refl l
      go false false true n next = placed s 32 at refl l
      go false false false n next = l

  number-told : (at : ℕ) → InFile s at → NumberTold (number_at s at)
  number-told at l = go (number_at s at) refl (number-left at l)
    where
      go : (x : Number) → number_at s at ≡ x → NumberLeft at x → NumberTold x
      go (Ok (n, next)) e h =
          omega (arith, h.within, (number_in-size (drop at s) at n next e).within, length-drop at s)
      go (Err r) e h = h

  -- ---- one number for the array

  abbrev FieldTold : Field → Type 0
  FieldTold (Ok (z, next)) = next ≤ length s
  FieldTold (Err r) = Told s (told r)

  field_told : (k n at next : ℕ) → InFile s at → next ≤ length s → FieldTold (field k n at next)
  unfolding field any
  field_told k n at next l h = go (number_for k n)
    where
      go : (o : Option ℤ) → FieldTold (fit o at next)
      go (Some z) = h
      go None = placed s 33 at refl l

  field_at-told : (k at : ℕ) → InFile s at → FieldTold (field_at s k at)
  field_at-told k at l = go (number_at s at) (number-told at l)
    where
      go : (x : Number) → NumberTold x → FieldTold (field_in k at x)
      go (Ok (n, next)) h = field_told k n at next l h
      go (Err r) h = h

  -- ---- a file

  abbrev TakenTold : Taken → Type 0
  TakenTold (taken zs end) = InFile s end
  TakenTold (refused r) = Told s (told r)

  fields_told : (k m at : ℕ) → at ≤ length s → at + most k m ≤ 2 + 13 * limit → TakenTold (fields s k m at)
  unfolding fields most
  fields_told k zero at l h = record { within = l; near = omega arith }
  fields_told k (suc m) at l h =
      let x = field_at s k at in
      let here : InFile s at = record { within = l; near = omega arith } in
      go x refl (field_at-told k at here) (λ next. fields_told (suc k) m next)
    where
      one_more : (z : ℤ) (t : Taken) → TakenTold t → TakenTold (onto z t)
      one_more z (taken zs end) g = g
      one_more z (refused r) g = g

      go : (x : Field) → field_at s k at ≡ x → FieldTold x
          → ((next : ℕ) → next ≤ length s → next + most (suc k) m ≤ 2 + 13 * limit
          → TakenTold (fields s (suc k) m next))
          → TakenTold (after x (λ next. fields s (suc k) m next))
      go (Ok (z, next)) e g rest =
          let near = field_at-size s k at z next e in
          one_more z (fields s (suc k) m next) (rest next g (omega arith))
      go (Err r) e g rest = g

  whole-told : (t : Taken) → TakenTold t → TakenTold (whole s t)
  unfolding any
  whole-told (taken zs end) h = go (ltb end (length s))
    where
      go : (b : Bool) → TakenTold (cond b (refused (LeftOver end)) (taken zs end))
      go true = placed s 34 end refl h
      go false = h
  whole-told (refused r) h = h

  file-told : (room : ℕ) → TakenTold (file_of s room)
  unfolding file_of any
  file-told room = by-count (number_at s 0) refl (number-told 0 (first-place s))
    where
      by_tests : (a b : Bool) (n next : ℕ) → ltb limit n ≡ a → number_at s 0 ≡ got n next → next ≤ length s
          → TakenTold (cond a (refused TooMany) (cond b (refused NoRoom) (records_of s n next)))
      by_tests true b n next few e h = placed s 35 0 refl (first-place s)
      by_tests false true n next few e h = placed s 36 0 refl (first-place s)
      by_tests false false n next few e h =
          let l = ltb-false limit n few in
          let near = count_next s n next e l in
          let long = most-records 0 n in
          whole-told (fields s 0 (width * n) next) (fields_told 0 (width * n) next h (omega arith))

      by-count : (x : Number) → number_at s 0 ≡ x → NumberTold x → TakenTold (counted s room x)
      by-count (Ok (n, next)) e h = by_tests (ltb limit n) (ltb room (width * n)) n next refl e h
      by-count (Err r) e h = h

  pub file_of-told : (room : ℕ) {r : FileRefusal} → file_of s room ≡ refused r → Told s (told r)
  file_of-told room e = subst TakenTold e (file-told room)

  -- a file that is taken is read to its end
  pub file_of-end : (room end : ℕ) (zs : List ℤ) → file_of s room ≡ taken zs end → end ≡ length s
  file_of-end room end zs e =
      let last : InFile s end = subst TakenTold e (file-told room) in
      omega (arith, last.within, (file_of-parts s room end zs e).ends)
