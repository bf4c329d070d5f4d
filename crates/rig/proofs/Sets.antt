-- What the functions' tactic lines name: for each question that what it packs fits its bits, and how its answer reads.
-- Assumes nothing.
use Rattle.grid.proofs.CastLaws.{point_of-cast}
use Rattle.rig.proofs.AnswerLaws.{area-refused, area-told, corner-small, point-small}

pub ruleset placed = (point_of-cast, point-small)

pub ruleset cornered = (point_of-cast, corner-small)

pub ruleset measured = (area-told, area-refused)
