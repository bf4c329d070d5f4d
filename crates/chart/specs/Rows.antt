-- What each row of document 01's refusal table looks for ("When a chart is turned away"). rs are the records of the
-- chart, r one of them; row 5 looks at two in a row, so at a place i of the array s.
--     equal_ends r         3: its two ends are equal
--     bad_mark r           4: its mark is neither 0 nor 1
--     not_after s i        5: record i does not come strictly after the one before
--     no_other_half rs r   6: the other half, ends swapped and same mark, is missing
--     touching rs r        7: its segment touches one of the chart's
--     odd_end rs r         8: an odd number of segments ends at its dominating end
--     wrong_mark rs r      9: its mark is not the counted one
-- Assumes nothing.
use Rattle.std.specs.Prelude.{Bool, not, ◌&&◌, List, ℕ, ◌-◌, ltb, eqb, ℤ}
use Rattle.counts.specs.Count.{odd}
use Rattle.plane.specs.Points.{same}
use Rattle.record.specs.declared.Record.{Record}
use Rattle.record.specs.Records.{record_at, unmarked, marked}
use Rattle.record.specs.Order.{other_half, precedes}
use Rattle.segment.specs.Segments.{segment}
use Rattle.among.specs.Among.{has, touched, end_count, counted_mark}

abbrev pub equal_ends : Record → Bool
equal_ends r = same r.dom r.other

abbrev pub bad_mark : Record → Bool
bad_mark r = not (eqb r.mark unmarked) && not (eqb r.mark marked)

abbrev pub not_after : List ℤ → ℕ → Bool
not_after s i = ltb 0 i && not (precedes (record_at s (i - 1)) (record_at s i))

abbrev pub no_other_half : List Record → Record → Bool
no_other_half rs r = not (has rs (other_half r))

abbrev pub touching : List Record → Record → Bool
touching rs r = touched rs (segment r)

abbrev pub odd_end : List Record → Record → Bool
odd_end rs r = odd (end_count rs r.dom)

abbrev pub wrong_mark : List Record → Record → Bool
wrong_mark rs r = not (eqb r.mark (counted_mark rs (segment r)))
