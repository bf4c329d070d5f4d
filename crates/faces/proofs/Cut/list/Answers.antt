use Rattle.std.proofs.Common.{rules}
use Rattle.faces.proofs.ListLaws.{listed-both}
use Rattle.faces.proofs.Cut.list.Goals as goal

pub returns : goal.returns
returns c = search (rules, listed-both)
