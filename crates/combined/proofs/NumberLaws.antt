-- Laws of `numbers` (specs/Results.antt): the array that is written has the records that it was made of.
--     numbers-length, numbers-append    five numbers for each record, and record after record
--     numbers-whole, numbers-count      no number is left over, and it has as many records
--     record_at-numbers                 at each place the one that stands there
--     records-numbers                   so its records are these
-- Assumes nothing.
use mathlib.Core.Path.{◌≡◌, refl, ap, ◌∙◌}
use mathlib.Core.List.{List, [], ◌∷◌, ◌++◌}
use Prim.Native.Nat.{ℕ, zero, suc, ◌+◌, ◌*◌, ◌%◌, ◌<◌}
use native.Mathlib.Nat.{zero-add}
use native.Mathlib.Omega.{arith}
use lib.IntN.{ℤ}
use lib.ListN.{length, get_or}
use lib.Seq.{ext_get_or}
use Rattle.counts.proofs.ListedLaws.{listed-length, listed_at}
use Rattle.grid.specs.Coordinates.{down}
use Rattle.grid.proofs.CoordinateLaws.{up-down}
use Rattle.record.specs.declared.Record.{Record}
use Rattle.record.specs.Records.{width, count_at, record_at, record_count, records}
use Rattle.combined.specs.Results.{numbers}

pub numbers-length : (rs : List Record) → length (numbers rs) ≡ width * length rs
unfolding numbers
numbers-length [] = refl
numbers-length (r ∷ rs) = omega (arith, numbers-length rs)

pub numbers-append : (xs ys : List Record) → numbers (xs ++ ys) ≡ numbers xs ++ numbers ys
unfolding numbers
numbers-append [] ys = refl
numbers-append (r ∷ rs) ys =
    ap (λ l. down r.dom.x ∷ down r.dom.y ∷ down r.other.x ∷ down r.other.y ∷ down r.mark ∷ l)
    (numbers-append rs ys)

-- one record further, of one record more
record_at-later : (a b c d e : ℤ) (s : List ℤ) (i : ℕ) → record_at (a ∷ b ∷ c ∷ d ∷ e ∷ s) (suc i) ≡ record_at s i
unfolding record_at
record_at-later a b c d e s i = λ t. record {
  dom = record {
    x = at (width * suc i) (width * i) (omega arith) t;
    y = at (width * suc i + 1) (width * i + 1) (omega arith) t;
  };
  other = record {
    x = at (width * suc i + 2) (width * i + 2) (omega arith) t;
    y = at (width * suc i + 2 + 1) (width * i + 2 + 1) (omega arith) t;
  };
  mark = at (width * suc i + 4) (width * i + 4) (omega arith) t;
}
  where
    at : (m n : ℕ) → m ≡ suc (suc (suc (suc (suc n)))) → count_at (a ∷ b ∷ c ∷ d ∷ e ∷ s) m ≡ count_at s n
    at m n g = ap (count_at (a ∷ b ∷ c ∷ d ∷ e ∷ s)) g

pub record_at-numbers : (d : Record) (rs : List Record) (i : ℕ) → i < length rs
    → record_at (numbers rs) i ≡ get_or rs i d
unfolding numbers record_at
record_at-numbers d [] i l = absurd (omega arith)
record_at-numbers d (r ∷ rs) zero l = λ i. record {
  dom = record { x = up-down r.dom.x i; y = up-down r.dom.y i };
  other = record { x = up-down r.other.x i; y = up-down r.other.y i };
  mark = up-down r.mark i;
}
record_at-numbers d (r ∷ rs) (suc i) l = record_at-later _ _ _ _ _ (numbers rs) i
    ∙ record_at-numbers d rs i (omega arith)

pub numbers-whole : (rs : List Record) → length (numbers rs) % width ≡ 0
numbers-whole rs = omega (arith, numbers-length rs)

pub numbers-count : (rs : List Record) → record_count (numbers rs) ≡ length rs
numbers-count rs = omega (arith, numbers-length rs)

pub records-numbers : (rs : List Record) → records (numbers rs) ≡ rs
records-numbers rs =
    let n = record_count (numbers rs) in
    let d = record_at [] 0 in
    ext_get_or d (records (numbers rs)) rs (listed-length (record_at (numbers rs)) 0 n ∙ numbers-count rs)
    (λ i l. let h : i < n = omega (arith, listed-length (record_at (numbers rs)) 0 n) in
    listed_at (record_at (numbers rs)) d 0 n i h ∙ ap (record_at (numbers rs)) (zero-add i)
    ∙ record_at-numbers d rs i (omega (arith, numbers-count rs)))
