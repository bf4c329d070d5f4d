-- Which way a segment is walked (document 01, "Faces, holes and area": "Walk each segment with the inside on the
-- left").
--     departs r     the segment of r is walked from its dominating end. Mark 1, the inside above or left of it: from
--                   the smaller end, so by the left half. Mark 0: by the right half
-- Assumes nothing.
use Rattle.std.specs.Prelude.{Bool, not, cond, eqb}
use Rattle.record.specs.declared.Record.{Record}
use Rattle.record.specs.Records.{marked}
use Rattle.record.specs.Order.{left}

abbrev pub departs : Record → Bool
departs r = cond (eqb r.mark marked) (left r) (not (left r))
