-- A question about a chart first gives the chart's refusal, and no refusal where it is answered.
--     placed-refusal    so, in number and index
-- Assumes nothing.
use Rattle.std.specs.Prelude.{◌≡◌, List, ℤ}
use Rattle.plane.specs.declared.Point.{Point}
use Rattle.record.specs.Records.{records}
use Rattle.chart.specs.Verdicts.{refusal_of, verdict}
use Rattle.chart.proofs.RegionLaws.{answered-refusal}
use Rattle.question.specs.Places.{place_of, placed}

pub placed-refusal : (s : List ℤ) (p : Point) → refusal_of (placed s p) ≡ refusal_of (verdict s)
unfolding placed
placed-refusal s p = answered-refusal (verdict s) (place_of (records s) p)
