-- The cycle of a record, as its walk is cut from any of its records, in a region.
--     any-cut     it has those records that are in one cycle with the record's segment there
-- Assumes nothing.
use mathlib.Core.Path.{subst}
use mathlib.Core.Logic.{◌↔◌}
use mathlib.Core.List.{List}
use Prim.Native.Nat.{ℕ, ◌<◌}
use lib.IntN.{ℤ}
use Rattle.counts.specs.Count.{◌∈◌}
use Rattle.record.specs.Records.{record_count}
use Rattle.chart.specs.Regions.{Region}
use Rattle.walks.specs.Ways.{walked}
use Rattle.walks.specs.Walks.{walk, cycles_of}
use Rattle.walks.specs.Cycles.{start_of, cycle_of}
use Rattle.walks.specs.Circuits.{Together}
use Rattle.walks.proofs.NextLaws.{walked-less, walked-departs}
use Rattle.walks.proofs.StartLaws.{start-walk, start-less}
use Rattle.walks.proofs.StartFreeLaws.{start-free}
use Rattle.walks.proofs.CutLaws.{cycle-one}
use Rattle.walks.proofs.CycleLaws.{cycle-of, cycle_has}

module _ {s : List ℤ} (region : Region s) (i : ℕ) (l : i < record_count s) where
  -- cut from where the walk is taken to start
  start-cut : (j : ℕ) → (j ∈ cycle_of s i) ↔ Together (cycles_of s (start_of s i)) (walked s i) j
  start-cut j = (
    λ m. record { it = cycle_of s i; listed = cycle-of region i l; one = cycle_has region i l; other = m },
    λ t. subst (λ c. j ∈ c)
        (cycle-one region (start_of s i) (start-less region i l) t.it (cycle_of s i) t.listed (cycle-of region i l)
        (walked s i) t.one (cycle_has region i l)) t.other,
  )

  free : (w : ℕ) → w ∈ walk s (walked s i) → (j : ℕ)
      → Together (cycles_of s (walked s i)) (walked s i) j ↔ Together (cycles_of s w) (walked s i) j
  free w m =
      start-free region (walked s i) (walked-less region i l) (walked-departs region i l) w m (walked s i)

  pub any-cut : (w : ℕ) → w ∈ walk s (walked s i) → (j : ℕ)
      → (j ∈ cycle_of s i) ↔ Together (cycles_of s w) (walked s i) j
  any-cut w m j =
      let start = free (start_of s i) (start-walk region i l) j in
      let there = free w m j in
      let cut = start-cut j in
      (λ h. there.0 (start.1 (cut.0 h)), λ h. cut.1 (start.0 (there.1 h)))
