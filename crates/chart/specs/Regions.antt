-- What an accepted chart is, said without a verdict: a region as document 01 lays it out. That the verdict accepts
-- exactly the regions is `accepted-is` of proofs/RegionLaws.antt.
--     Sound rs       of the records: ends that differ, a mark 0 or 1, both halves of each segment, no two distinct
--                    segments sharing a point that is not an end of both, an even number of segments at every point,
--                    every mark the counted one
--     Region s       of the array: whole records, no more than the limit, each strictly after the one before, sound
-- Assumes nothing.
use Rattle.std.specs.Prelude.{◌≡◌, ◌⊎◌, true, List, ℕ, suc, ◌%◌, ◌<◌, ◌≤◌, ℤ, length}
use Rattle.counts.specs.Count.{◌∈◌, Even}
use Rattle.plane.specs.declared.Point.{Point}
use Rattle.plane.specs.Touching.{Touch}
use Rattle.record.specs.declared.Record.{Record}
use Rattle.record.specs.Records.{width, record_at, record_count, records, unmarked, marked}
use Rattle.record.specs.Order.{other_half, precedes}
use Rattle.segment.specs.Segments.{segment}
use Rattle.among.specs.Among.{end_count, counted_mark}
use Rattle.chart.specs.Verdicts.{limit}

pub record Sound (rs : List Record) : Type 0 where
  pub ends : (r : Record) → r ∈ rs → r.dom ≡ r.other → ⊥
  pub marks : (r : Record) → r ∈ rs → (r.mark ≡ unmarked) ⊎ (r.mark ≡ marked)
  pub halves : (r : Record) → r ∈ rs → other_half r ∈ rs
  pub apart : (r e : Record) → r ∈ rs → e ∈ rs → (segment r ≡ segment e → ⊥) → Touch (segment r) (segment e) → ⊥
  pub even : (p : Point) → Even (end_count rs p)
  pub counted : (r : Record) → r ∈ rs → r.mark ≡ counted_mark rs (segment r)

pub record Region (s : List ℤ) : Type 0 where
  pub whole : length s % width ≡ 0
  pub few : record_count s ≤ limit
  pub ordered : (i : ℕ) → suc i < record_count s → precedes (record_at s i) (record_at s (suc i)) ≡ true
  pub sound : Sound (records s)
