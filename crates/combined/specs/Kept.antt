-- The segments that are kept where charts are combined (document 01, "Joining two charts": "The result keeps the
-- segments of either chart whose two sides differ under or, and, or and-not"). cs are the charts, each by its records,
-- and f says of their answers, in their order, what the result's is: any function that is false where all are false.
--     upper_sides cs s, lower_sides cs s  of each chart, whether that side of s lies in it
--     keeps f cs s      the two sides of s differ under f
--     either cs         the records of the charts, each segment by the first chart that has it
--     kept f cs         those of them whose segments are kept
-- Assumes nothing.
use Rattle.std.specs.Prelude.{Bool, not, List, [], ◌∷◌, ◌++◌, map}
use Rattle.counts.specs.Count.{keep, ◌⊕◌}
use Rattle.plane.specs.declared.Segment.{Segment}
use Rattle.record.specs.declared.Record.{Record}
use Rattle.segment.specs.Segments.{segment}
use Rattle.among.specs.Among.{has_segment}
use Rattle.region.specs.TwoSides.{upper_side, lower_side}

abbrev pub upper_sides : List (List Record) → Segment → List Bool
upper_sides cs s = map (λ c. upper_side c s) cs

abbrev pub lower_sides : List (List Record) → Segment → List Bool
lower_sides cs s = map (λ c. lower_side c s) cs

abbrev pub keeps : (List Bool → Bool) → List (List Record) → Segment → Bool
keeps f cs s = f (upper_sides cs s) ⊕ f (lower_sides cs s)

unfoldable pub either : List (List Record) → List Record
either [] = []
either (c ∷ cs) = c ++ keep (λ r. not (has_segment c (segment r))) (either cs)

abbrev pub kept : (List Bool → Bool) → List (List Record) → List Record
kept f cs = keep (λ r. keeps f cs (segment r)) (either cs)
