-- The two numbers of each cycle, in a list (specs/Lists.antt), over the first records of a chart.
--     entries s i                of the cycles whose first record is before record i
--     entries-size               two numbers a cycle
--     cycle_list-length          so over all
--     entries_next               one record more
--     more-cycles                a first record's cycle comes after those before it
-- Assumes nothing.
use mathlib.Core.Path.{◌≡◌, refl, ap, ◌∙◌}
use mathlib.Core.Bool.{true, cond}
use mathlib.Core.List.{List, [], ◌∷◌, ◌++◌}
use Prim.Native.Nat.{ℕ, zero, suc, ◌+◌, ◌*◌, ◌-◌, ◌<◌, ◌≤◌}
use native.Mathlib.Nat.{add-suc, add-zero, zero-add}
use native.Mathlib.Numerals.{add-one}
use native.Mathlib.Omega.{arith}
use lib.IntN.{ℤ}
use lib.ListN.{length}
use Rattle.counts.specs.Count.{ind, count, keep, places}
use Rattle.counts.specs.Scan.{Counted}
use Rattle.counts.proofs.LoopLaws.{count-more}
use Rattle.counts.proofs.KeepLaws.{keep_append, keep-length}
use Rattle.counts.proofs.ListedLaws.{listed-snoc}
use Rattle.record.specs.Records.{record_count}
use Rattle.walks.specs.Cycles.{is_first, cycle_count}
use Rattle.walks.specs.Faces.{face_of}
use Rattle.faces.specs.Lists.{kind_of, entries_of, cycle_list}

module _ (s : List ℤ) where
  entries-length : (is : List ℕ) → length (entries_of s is) ≡ 2 * length is
  unfolding entries_of
  entries-length [] = refl
  entries-length (i ∷ is) = omega (arith, entries-length is)

  entries-append : (is js : List ℕ) → entries_of s (is ++ js) ≡ entries_of s is ++ entries_of s js
  unfolding entries_of
  entries-append [] js = refl
  entries-append (i ∷ is) js = ap (λ t. kind_of s i ∷ face_of s i ∷ t) (entries-append is js)

  -- of the cycles whose first record is before record i
  abbrev pub entries : ℕ → List ℕ
  entries i = entries_of s (keep (is_first s) (places i))

  pub entries-size : (i : ℕ) → length (entries i) ≡ 2 * count (is_first s) (places i)
  entries-size i =
      omega (arith, entries-length (keep (is_first s) (places i)), keep-length (is_first s) (places i))

  pub cycle_list-length : length (cycle_list s) ≡ 2 * cycle_count s
  cycle_list-length = entries-size (record_count s)

  pub entries_next : (i : ℕ) → entries (i + 1) ≡ entries i ++ entries_of s (cond (is_first s i) (i ∷ []) [])
  unfolding keep
  entries_next i =
      ap entries (add-one i)
      ∙ ap (λ is. entries_of s (keep (is_first s) is)) (listed-snoc (λ i. i) 0 i)
      ∙ ap (entries_of s) (keep_append (is_first s) (places i) ((0 + i) ∷ []))
      ∙ ap (λ j. entries_of s (keep (is_first s) (places i) ++ cond (is_first s j) (j ∷ []) [])) (zero-add i)
      ∙ entries-append (keep (is_first s) (places i)) (cond (is_first s i) (i ∷ []) [])

  -- no fewer among more records
  grows : (i k : ℕ) → count (is_first s) (places i) ≤ count (is_first s) (places (i + k))
  grows i zero = rw add-zero (omega arith)
  grows i (suc k) = rw (add-suc, ← add-one) (omega (arith, grows i k, count-more (is_first s) (λ i. i) (i + k)))

  pub more-cycles : {i m : ℕ} → Counted (is_first s) (λ i. i) i m → i < record_count s → is_first s i ≡ true
      → m < cycle_count s
  more-cycles {i} h l t =
      let k = record_count s - (i + 1) in
      let e : i + 1 + k ≡ record_count s = omega arith in
      omega (
        arith,
        h.is,
        count-more (is_first s) (λ i. i) i,
        ap ind t,
        grows (i + 1) k,
        ap (λ n. count (is_first s) (places n)) e,
      )
