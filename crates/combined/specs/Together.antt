-- Charts that can be combined: no refusal 11 between any two (document 01: "a segment of one touches a segment of the
-- other").
--     Together ss      each of the arrays ss is a region, and no segment of one touches a segment of another
-- Assumes nothing.
use Rattle.std.specs.Prelude.{◌≡◌, false, List, ℤ}
use Rattle.counts.specs.Count.{◌∈◌}
use Rattle.record.specs.declared.Record.{Record}
use Rattle.record.specs.Records.{records}
use Rattle.segment.specs.Segments.{segment}
use Rattle.among.specs.Among.{touched}
use Rattle.chart.specs.Regions.{Region}

pub record Together (ss : List (List ℤ)) : Type 0 where
  pub regions : (s : List ℤ) → s ∈ ss → Region s
  pub apart : (s t : List ℤ) → s ∈ ss → t ∈ ss → (r : Record) → r ∈ records s
      → touched (records t) (segment r) ≡ false
