-- The run at a corner of a chart (document 01: "an empty part if there is none or the chart is refused").
--     corner_of s p     where the run of the chart s at p lies: nowhere if the chart is refused
--     Corner s p r      r is that run, that very part of s
-- Assumes nothing.
use Rattle.std.specs.Prelude.{cond, List, ℤ}
use Rattle.std.specs.Borrow.{Bor}
use Rattle.plane.specs.declared.Point.{Point}
use Rattle.parts.specs.declared.Span.{Span}
use Rattle.parts.specs.Parts.{Part, nowhere, run_of}
use Rattle.chart.specs.Verdicts.{accepted}

unfoldable pub corner_of : List ℤ → Point → Span
corner_of s p = cond (accepted s) (run_of s p) nowhere

abbrev pub Corner : Bor (List ℤ) → Point → Bor (List ℤ) → Type 0
Corner s p r = Part s (corner_of s.now p) r
