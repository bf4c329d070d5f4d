-- What the functions' tactic lines name.
--     halves              way_back: the other half is there
--     turning             clockwise_from: past the corner
--     halving, naming     first_half, name_all: the steps of their loops over a cycle
--     cuts                cut_at: the places of the cycle
--     walking             cut_walks: the steps of its loop
--     answering           arrays_of: from no start on to all
-- Assumes nothing.
use Rattle.counts.proofs.ReadLaws.{found_from}
use Rattle.walks.proofs.PlaceLaws.{back-less}
use Rattle.cycles.proofs.AnswerLaws.{arrays-cut, unset-filled}
use Rattle.cycles.proofs.CutLaws.{places-after, visit-within}
use Rattle.cycles.proofs.HalfLaws.{half_end, half_next, place_known}
use Rattle.cycles.proofs.WalkingLaws.{walking-all, walking-next, walking-none}
use Rattle.cycles.proofs.WayLaws.{past_some}
use Rattle.cycles.proofs.WriteLaws.{name_end, name_next}

pub ruleset halves = (back-less)

pub ruleset turning = (found_from, past_some)

pub ruleset halving = (place_known, half_next, half_end)

pub ruleset naming = (place_known, name_next, name_end)

pub ruleset cuts = (visit-within, places-after)

pub ruleset walking = (walking-none, walking-next, walking-all)

pub ruleset answering = (unset-filled, arrays-cut)
