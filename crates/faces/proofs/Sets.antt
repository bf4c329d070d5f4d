-- What the functions' tactic lines name.
--     below               face_in_walk: the walk of the segment nearest below
--     filling, labelling, entering      fill_faces, write_labels, write_cycles: the steps of their loops
--     listing             list: by the arrays' lengths
-- Assumes nothing.
use Rattle.faces.proofs.EntryLaws.{entered_all, entered_more, entered_none, entered_room, entered_still}
use Rattle.faces.proofs.FillLaws.{fill_all, fill_none, fill_other, fill_start}
use Rattle.faces.proofs.LabelLaws.{labelled_all, labelled_more, labelled_none}
use Rattle.faces.proofs.ListLaws.{few_counted, listed-both, short-cycles, short-labels}
use Rattle.faces.proofs.NumberLaws.{outer_low}
use Rattle.faces.proofs.WalkLaws.{below_face, below_here, walk_outer}

pub ruleset below = (outer_low, walk_outer, below_here, below_face)

pub ruleset filling = (fill_none, fill_start, fill_other, fill_all)

pub ruleset labelling = (labelled_none, labelled_more, labelled_all)

pub ruleset entering = (entered_none, entered_room, entered_more, entered_still, entered_all)

pub ruleset listing = (few_counted, short-labels, short-cycles, listed-both)
