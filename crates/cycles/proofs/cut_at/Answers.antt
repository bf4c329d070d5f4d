use Rattle.std.proofs.Common.{rules}
use Rattle.cycles.proofs.CutLaws.{cut-here, cut-nowhere}
use Rattle.cycles.proofs.cut_at.Goals as goal

pub returns-in-Some : goal.returns-in-Some
returns-in-Some c = search (rules, cut-here)

pub returns-in_default : goal.returns-in_default
returns-in_default c = search (rules, cut-nowhere)
