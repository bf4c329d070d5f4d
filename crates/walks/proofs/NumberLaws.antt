-- The numbers of cycles, and of faces.
--     number-less     a cycle's number is less than the number of cycles
--     number-back     the two halves of a segment have one cycle number
--     number_same     records of one number have one cycle
--     few_faces       among any first records no more are the first of an outer cycle than of a cycle
-- Assumes nothing.
use mathlib.Core.Path.{◌≡◌, ap}
use mathlib.Core.List.{List}
use Prim.Native.Nat.{ℕ, ◌<◌, ◌≤◌}
use native.Mathlib.Omega.{arith}
use lib.IntN.{ℤ}
use borrow.Author.Tests.{eq-eqb}
use Rattle.counts.specs.Count.{count, places}
use Rattle.counts.proofs.CountLaws.{count-le}
use Rattle.counts.proofs.TestLaws.{and-true, Side, less, equal, more, side}
use Rattle.counts.proofs.ShareLaws.{count-rises}
use Rattle.record.specs.Records.{record_count}
use Rattle.chart.specs.Regions.{Region}
use Rattle.walks.specs.Ways.{way_back}
use Rattle.walks.specs.Cycles.{cycle_of, first_of, is_first, cycle_count, cycle_number}
use Rattle.walks.specs.Faces.{is_outer, first_outer}
use Rattle.walks.proofs.PlaceLaws.{back-less}
use Rattle.walks.proofs.CycleLaws.{cycle-back}
use Rattle.walks.proofs.FirstRecordLaws.{first-less, first-first, first-same, same-cycle}

module _ {s : List ℤ} (region : Region s) where
  -- before a later place there is one first record more
  number-rises : (i : ℕ) → i < record_count s → (n : ℕ) → first_of s i < n
      → count (is_first s) (places (first_of s i)) < count (is_first s) (places n)
  number-rises i l n g =
      count-rises (is_first s) (first_of s i) n g
      (eq-eqb (first_of s (first_of s i)) (first_of s i) (first-first region i l))

  pub number-less : (i : ℕ) → i < record_count s → cycle_number s i < cycle_count s
  unfolding cycle_number
  number-less i l = number-rises i l (record_count s) (first-less region i l)

  pub number-back : (i : ℕ) → i < record_count s → cycle_number s (way_back s i) ≡ cycle_number s i
  unfolding cycle_number
  number-back i l =
      ap (λ n. count (is_first s) (places n))
      (first-same region i (way_back s i) l (back-less region i l) (cycle-back region i l))

  pub number_same : (i j : ℕ) → i < record_count s → j < record_count s → cycle_number s i ≡ cycle_number s j
      → cycle_of s i ≡ cycle_of s j
  unfolding cycle_number
  number_same i j l g e = go (side (first_of s i) (first_of s j))
    where
      go : Side (first_of s i) (first_of s j) → cycle_of s i ≡ cycle_of s j
      go (less h) = absurd (omega (arith, e, number-rises i l (first_of s j) h))
      go (equal h) = same-cycle region j i g l h
      go (more h) = absurd (omega (arith, e, number-rises j g (first_of s i) h))

-- ---- faces

pub few_faces : (s : List ℤ) (n : ℕ) → count (first_outer s) (places n) ≤ count (is_first s) (places n)
few_faces s n =
    count-le (first_outer s) (is_first s) (places n) (λ i m t. (and-true (is_first s i) (is_outer s i) t).0)
