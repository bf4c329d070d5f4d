-- The records of a file, by what the code has seen of them. A law for each return of `read_records`; `reading` has
-- those. And a whole file, by its count: a law for each return of `read`. A bound k is any that refuses no more, so that
-- a wrong one is refused for what it lets through.
--     end_of-taken     numbers that end somewhere can all be taken
--     fields-length    and are as many as were asked for
--     records-left-over    bytes are left over after them
--     records-refused      one of them is refused
--     records-read         they are read into the lent array
--     file-refused         there is no count
--     file-above, file-short     it is above the limit, or above what there is room for
--     file-records         else the records that follow it decide
-- Assumes nothing.
use mathlib.Core.Path.{◌≡◌, refl, sym, ap, ◌∙◌}
use mathlib.Core.Bool.{true, true≢false}
use mathlib.Core.List.{List}
use Prim.Native.Nat.{ℕ, zero, suc, ◌*◌, ◌≤◌, ◌<◌}
use native.Mathlib.Omega.{arith}
use borrow.Author.Tests.{lt-ltb, le-ltb}
use lib.IntN.{ℤ}
use lib.ListN.{length}
use Rattle.record.specs.Records.{width}
use Rattle.std.specs.Prelude.{Result, Ok, Err}
use Rattle.file.specs.declared.FileRefusal.{FileRefusal}
use Rattle.file.specs.declared.FileRefusal.TheVariants.{NoNumber, LeftOver, TooMany, NoRoom}
use Rattle.chart.specs.Verdicts.{limit}
use Rattle.number.specs.declared.NumberRefusal.{NumberRefusal}
use Rattle.number.specs.Numbers.{Number, got, number_at}
use Rattle.file.specs.Fields.{Field, field_at}
use Rattle.file.specs.Files.{Taken, taken, refused, onto, after, fields, records_of, file_of}
use Rattle.file.specs.Answers.{Answer, answer_of, contents, Gives, Reads}
use Rattle.file.specs.Steps.{is_taken, end_of}

-- ---- how many

abbrev length_of : Taken → ℕ
length_of (taken zs at) = length zs
length_of (refused r) = 0

longer : (z : ℤ) (t : Taken) (m : ℕ) → (is_taken t ≡ true → length_of t ≡ m) → is_taken (onto z t) ≡ true
    → length_of (onto z t) ≡ suc m
longer z (taken zs at) m h e = ap suc (h refl)
longer z (refused r) m h e = absurd (true≢false (sym e))

pub fields-length : (s : List ℕ) (k m at : ℕ) → is_taken (fields s k m at) ≡ true → length_of (fields s k m at) ≡ m
unfolding fields
fields-length s k zero at h = refl
fields-length s k (suc m) at h = go (field_at s k at) (λ next. fields-length s (suc k) m next) h
  where
    go : (f : Field) → ((next : ℕ) → is_taken (fields s (suc k) m next) ≡ true
        → length_of (fields s (suc k) m next) ≡ m)
        → is_taken (after f (λ next. fields s (suc k) m next)) ≡ true
        → length_of (after f (λ next. fields s (suc k) m next)) ≡ suc m
    go (Ok (z, next)) ih e = longer z (fields s (suc k) m next) m (ih next) e
    go (Err r) ih e = absurd (true≢false (sym e))

-- ---- where they end

not_at : {r : FileRefusal} {at : ℕ} → ◌≡◌ {A = Result ℕ FileRefusal} (Err r) (Ok at) → ⊥
not_at e = let o : ◌≡◌ {A = ℕ} 0 1 = cc in omega arith

end_of-at : (t : Taken) (at : ℕ) → end_of t ≡ Ok at → (zs : List ℤ) × (t ≡ taken zs at)
end_of-at (taken zs from) at e = (zs, cc)
end_of-at (refused r) at e = absurd (not_at e)

end_of-refused : (t : Taken) (r : FileRefusal) → end_of t ≡ Err r → t ≡ refused r
end_of-refused (taken zs from) r e = absurd (not_at (sym e))
end_of-refused (refused q) r e = cc

pub end_of-taken : (t : Taken) {at : ℕ} {e : Result ℕ FileRefusal} → e ≡ end_of t → e ≡ Ok at → is_taken t ≡ true
end_of-taken t {at} h e = rw (end_of-at t at (sym h ∙ e)).1 refl

-- ---- the records

module _ (s : List ℕ) (n from : ℕ) (lent : List ℤ) {e : Result ℕ FileRefusal}
    (is : e ≡ end_of (fields s 0 (width * n) from)) where
  pub records-left-over : {at : ℕ} {a : Answer} → e ≡ Ok at → at < length s → a ≡ answer_of (refused (LeftOver at))
      → Gives (records_of s n from) lent lent a
  records-left-over {at} h over a =
      let t = fields s 0 (width * n) from in
      rw ((end_of-at t at (sym is ∙ h)).1, lt-ltb at (length s) over) (record { says = a; leaves = refl })

  pub records-refused : {r : FileRefusal} → e ≡ Err r → Gives (records_of s n from) lent lent (Err r)
  records-refused {r} h =
      rw (end_of-refused (fields s 0 (width * n) from) r (sym is ∙ h)) (record { says = refl; leaves = refl })

  pub records-read : {at : ℕ} {out : List ℤ} → e ≡ Ok at → length s ≤ at
      → out ≡ contents (fields s 0 (width * n) from) lent → Gives (records_of s n from) lent out (Ok n)
  records-read {at} h over w =
      let t = fields s 0 (width * n) from in
      let whole = (end_of-at t at (sym is ∙ h)).1 in
      let long = rw whole at (fields-length s 0 (width * n) from (end_of-taken t is h)) in
      rw (whole, le-ltb at (length s) over)
      (record { says = ap Ok (omega (arith, long)); leaves = rw whole at w })

-- ---- the file

module _ (s : List ℕ) (lent : List ℤ) {c : Number} (is : c ≡ number_at s 0) where
  pub file-refused : {r : NumberRefusal} → c ≡ Err r → Reads s lent lent (Err (NoNumber r))
  unfolding file_of
  file-refused h = rw (← is, h) (record { says = refl; leaves = refl })

  module _ {n next : ℕ} (h : c ≡ got n next) {a : Answer} where
    pub file-above : (k : ℕ) → limit ≤ k → k < n → a ≡ answer_of (refused TooMany) → Reads s lent lent a
    unfolding file_of
    file-above k l g e = rw (← is, h, lt-ltb limit n (omega arith)) (record { says = e; leaves = refl })

    pub file-short : n ≤ limit → length lent < width * n → a ≡ answer_of (refused NoRoom) → Reads s lent lent a
    unfolding file_of
    file-short l m e =
        rw (← is, h, le-ltb limit n l, lt-ltb (length lent) (width * n) m) (record { says = e; leaves = refl })

    pub file-records : {out : List ℤ} → n ≤ limit → width * n ≤ length lent → Gives (records_of s n next) lent out a
        → Reads s lent out a
    unfolding file_of
    file-records l m e = rw (← is, h, le-ltb limit n l, le-ltb (length lent) (width * n) m) e

pub ruleset reading = (end_of-taken, records-left-over, records-refused, records-read)
