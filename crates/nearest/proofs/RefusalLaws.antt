-- The nearest below first gives the chart's refusal, and no refusal where it is answered.
--     nearest_below-refusal   so, in number and index
-- Assumes nothing.
use Rattle.std.specs.Prelude.{◌≡◌, List, ℤ}
use Rattle.plane.specs.declared.Point.{Point}
use Rattle.record.specs.Records.{record_count}
use Rattle.chart.specs.Verdicts.{refusal_of, verdict}
use Rattle.chart.proofs.RegionLaws.{answered-refusal}
use Rattle.nearest.specs.Nearests.{nearest_of, nearest_below}

pub nearest_below-refusal : (s : List ℤ) (p : Point) → refusal_of (nearest_below s p) ≡ refusal_of (verdict s)
unfolding nearest_below
nearest_below-refusal s p = answered-refusal (verdict s) (nearest_of s (record_count s) p)
