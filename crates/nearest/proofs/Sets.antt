-- What the functions' tactic lines name.
--     climbing           highest_below: the steps of its loop
--     highest            nearest_of: where the loop ends is the nearest boundary below
--     marked             is_marked_below: the mark there is the parity of the count
-- Assumes nothing.
use Rattle.nearest.proofs.ByMarkLaws.{below-named, below-nothing}
use Rattle.nearest.proofs.NearestLaws.{nearest_of-at, nearest_of-nothing}
use Rattle.nearest.proofs.PassLaws.{climb-end, climb-keep, climb-take, highest-found}

pub ruleset climbing = (climb-take, climb-keep, climb-end)

pub ruleset highest = (nearest_of-at, nearest_of-nothing, highest-found)

pub ruleset marked = (highest-found, below-named, below-nothing)
