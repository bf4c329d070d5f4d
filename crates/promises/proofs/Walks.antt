-- What holds of the walks and cycles of an accepted chart, by document 01's rules (walks' specs), on which the list of
-- faces and holes rests.
--     next-permutes     after each record is walked one comes that departs where it ended, and is walked from its
--                       dominating end if it was; each record comes after just one
--     turns-clockwise   no other record at the far end of a record is met before that one, turning clockwise from the
--                       way back
--     cycle-closed      a cycle comes round, and passes no point twice
--     cycle-even        an even number of its segments meet at every point
--     any-start         the start of a walk makes no difference to which records are together in a cycle
--     every-cut         so the cycle of a record is the one that its walk is cut into from any of its records
-- What the list tells: Faces.antt. Assumes nothing.
use mathlib.Core.Path.{◌≡◌}
use mathlib.Core.Logic.{◌⊎◌, ◌↔◌}
use mathlib.Core.Bool.{true}
use mathlib.Core.List.{List, map}
use Prim.Native.Nat.{ℕ, ◌<◌}
use lib.IntN.{ℤ}
use Rattle.counts.specs.Count.{◌∈◌, Even}
use Rattle.plane.specs.declared.Point.{Point}
use Rattle.record.specs.Records.{record_at, record_count}
use Rattle.record.specs.Order.{other_half}
use Rattle.among.specs.Among.{end_count}
use Rattle.std.specs.Prelude.{Ok}
use Rattle.chart.specs.Verdicts.{verdict}
use Rattle.chart.specs.Regions.{Region}
use Rattle.chart.proofs.RegionLaws.{accepted-is}
use Rattle.around.specs.Departing.{departs}
use Rattle.walks.specs.Ways.{way_back, next, walked}
use Rattle.walks.specs.Turning.{sooner}
use Rattle.walks.specs.Walks.{walk, cycles_of}
use Rattle.walks.specs.Cycles.{start_of, cycle_of, halves}
use Rattle.walks.specs.Circuits.{Together, Closed}
use Rattle.walks.proofs.PlaceLaws.{back-less, back_is}
use Rattle.walks.proofs.NextLaws.{next-less, next-from, next-leaves, next_one, next-onto}
use Rattle.walks.proofs.ClockwiseLaws.{clockwise-first}
use Rattle.walks.proofs.StartLaws.{start-less}
use Rattle.walks.proofs.StartFreeLaws.{start-free}
use Rattle.walks.proofs.CutLaws as cut
use Rattle.walks.proofs.CycleLaws.{cycle-of}
use Rattle.walks.proofs.CyclePartLaws.{cycle-part}
use Rattle.faces.proofs.AnyCutLaws.{any-cut}

module _ (s : List ℤ) (v : verdict s ≡ Ok tt) where
  region : Region s
  region = (accepted-is s).0 v

  -- ---- walks

  pub next-permutes : ((i : ℕ) → i < record_count s
      → (next s i < record_count s) × ((record_at s (next s i)).dom ≡ (record_at s i).other)
      × (departs (record_at s (next s i)) ≡ departs (record_at s i)))
      × ((i j : ℕ) → i < record_count s → j < record_count s → next s i ≡ next s j → i ≡ j)
      × ((j : ℕ) → j < record_count s → (i : ℕ) × (i < record_count s) × (next s i ≡ j))
  next-permutes = (
    λ i l. (next-less region i l, next-from region i l, next-leaves region i l),
    next_one region,
    next-onto region,
  )

  pub turns-clockwise : (i j : ℕ) → i < record_count s → j < record_count s
      → (record_at s j).dom ≡ (record_at s i).other
      → (j ≡ next s i) ⊎ (sooner (other_half (record_at s i)) (record_at s (next s i)) (record_at s j) ≡ true)
  turns-clockwise i j l h d =
      let back = back_is region i l in
      rw back at (clockwise-first region (way_back s i) j (back-less region i l) h (rw back d))

  -- ---- cycles

  module _ (i : ℕ) (l : i < record_count s) where
    pub cycle-closed : Closed s (cycle_of s i)
    cycle-closed = cut.cycle-closed region (start_of s i) (start-less region i l) (cycle_of s i) (cycle-of region i l)

    pub cycle-even : (p : Point) → Even (end_count (map (record_at s) (halves s (cycle_of s i))) p)
    cycle-even = (cycle-part region i l).even

    pub any-start : departs (record_at s i) ≡ true → (j : ℕ) → j ∈ walk s i → (a b : ℕ)
        → Together (cycles_of s i) a b ↔ Together (cycles_of s j) a b
    any-start d = start-free region i l d

    pub every-cut : (w : ℕ) → w ∈ walk s (walked s i) → (j : ℕ)
        → (j ∈ cycle_of s i) ↔ Together (cycles_of s w) (walked s i) j
    every-cut = any-cut region i l
