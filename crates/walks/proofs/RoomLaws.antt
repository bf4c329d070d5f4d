-- How many cycles there can be.
--     cycles-halved     at most half as many as records: a cycle has both halves of its segments, and of two halves one
--                       at most is its first record
-- Assumes nothing.
use mathlib.Core.Path.{◌≡◌, refl, sym, ap, ◌∙◌}
use mathlib.Core.Bool.{Bool, true, false, not, true≢false}
use mathlib.Core.List.{List}
use Prim.Native.Nat.{ℕ, ◌+◌, ◌*◌, ◌<◌, ◌≤◌, zero-le}
use native.Mathlib.Omega.{arith}
use lib.Dec.{eqb}
use lib.IntN.{ℤ}
use borrow.Author.Tests.{eqb-true, eq-eqb}
use Rattle.counts.specs.Count.{◌∈◌, ind, count, places}
use Rattle.counts.proofs.TestLaws.{same_test}
use Rattle.counts.proofs.SumLaws.{sum-ext, sum-le, sum-add}
use Rattle.counts.proofs.CountLaws.{count-ext, count_most}
use Rattle.counts.proofs.ListedLaws.{listed-length, listed-mem, mem-listed}
use Rattle.counts.proofs.AscendingLaws.{listed-ascending, once}
use Rattle.counts.proofs.FibreLaws.{matched}
use Rattle.record.specs.Records.{record_at, record_count}
use Rattle.record.specs.Order.{left}
use Rattle.record.proofs.HalfLaws.{left-other_half}
use Rattle.chart.specs.Regions.{Region}
use Rattle.chart.proofs.OnceLaws.{sound-proper}
use Rattle.walks.specs.Ways.{way_back}
use Rattle.walks.specs.Cycles.{is_first, first_of, cycle_count}
use Rattle.walks.proofs.PlaceLaws.{member-at, back-less, back_is, back-back}
use Rattle.walks.proofs.CycleLaws.{cycle-back}
use Rattle.walks.proofs.FirstRecordLaws.{first-same}

not-self : (b : Bool) → b ≡ not b → ⊥
not-self true e = true≢false e
not-self false e = true≢false (sym e)

module _ {s : List ℤ} (region : Region s) where
  abbrev all : List ℕ
  all = places (record_count s)

  below : (i : ℕ) → i ∈ all → i < record_count s
  below i m = let w = listed-mem (λ j. j) 0 (record_count s) i m in omega (arith, w.2, w.3)

  back-mem : (i : ℕ) → i ∈ all → way_back s i ∈ all
  back-mem i m =
      let l = back-less region i (below i m) in
      mem-listed (λ j. j) 0 (record_count s) (way_back s i) zero-le (omega (arith, l))

  -- ---- the two halves of a segment are two records, and not both first

  back-other : (i : ℕ) → i < record_count s → way_back s i ≡ i → ⊥
  back-other i l e =
      not-self (left (record_at s i))
      (ap (λ j. left (record_at s j)) (sym e)
      ∙ ap left (back_is region i l)
      ∙ left-other_half (record_at s i) (sound-proper region.sound (record_at s i) (member-at region i l)))

  one-first : (i : ℕ) → i ∈ all → ind (is_first s i) + ind (is_first s (way_back s i)) ≤ 1
  one-first i m = go (is_first s i) (is_first s (way_back s i)) refl refl
    where
      go : (a b : Bool) → is_first s i ≡ a → is_first s (way_back s i) ≡ b → ind a + ind b ≤ 1
      go true true e g =
          let l = below i m in
          absurd (back-other i l (sym (eqb-true (first_of s (way_back s i)) (way_back s i) g)
          ∙ first-same region i (way_back s i) l (back-less region i l) (cycle-back region i l)
          ∙ eqb-true (first_of s i) i e))
      go true false e g = omega arith
      go false true e g = omega arith
      go false false e g = omega arith

  -- ---- as many records are the other half of a first record

  back-once : (i : ℕ) → i ∈ all → count (λ j. eqb (way_back s i) j) all ≡ 1
  back-once =
      once ◌<◌ (λ i l. omega (arith, l)) (λ j i. eqb i j) (λ j i t. sym (eqb-true i j t)) (λ i. eq-eqb i i refl)
      (way_back s) all (listed-ascending ◌<◌ (λ i. i) 0 (record_count s) (λ i j a l h. l)) back-mem

  of-once : (j : ℕ) → j ∈ all → count (λ i. eqb (way_back s i) j) all ≡ 1
  of-once j m =
      count-ext (λ i. eqb (way_back s i) j) (λ i. eqb (way_back s j) i) all
      (λ i k. same_test (eqb (way_back s i) j) (eqb (way_back s j) i) (turned i j (below i k)) (turned j i (below j m)))
      ∙ back-once j m
    where
      turned : (i j : ℕ) → i < record_count s → eqb (way_back s i) j ≡ true → eqb (way_back s j) i ≡ true
      turned i j l t =
          eq-eqb (way_back s j) i (ap (way_back s) (sym (eqb-true (way_back s i) j t)) ∙ back-back region i l)

  firsts-back : count (λ i. is_first s (way_back s i)) all ≡ cycle_count s
  firsts-back =
      sum-ext _ _ all (λ i m. sym (once_more (ind (is_first s (way_back s i))) (back-once i m)))
      ∙ matched (λ i j. eqb (way_back s i) j) (λ i. ind (is_first s (way_back s i))) (λ j. ind (is_first s j))
      (λ i j t. ap (λ k. ind (is_first s k)) (eqb-true (way_back s i) j t)) all all
      ∙ sum-ext _ _ all (λ j m. once_more (ind (is_first s j)) (of-once j m))
    where
      once_more : {n : ℕ} (k : ℕ) → n ≡ 1 → k * n ≡ k
      once_more k e = rw e (omega arith)

  pub cycles-halved : 2 * cycle_count s ≤ record_count s
  cycles-halved =
      omega (
        arith,
        firsts-back,
        sum-add (λ i. ind (is_first s i)) (λ i. ind (is_first s (way_back s i))) all,
        sum-le (λ i. ind (is_first s i) + ind (is_first s (way_back s i))) (λ i. ind true) all one-first,
        count_most (λ i. true) all,
        listed-length (λ i. i) 0 (record_count s),
      )
