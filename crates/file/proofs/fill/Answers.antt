use Rattle.std.proofs.Common.{rules}
use Rattle.file.proofs.PassLaws.{filling}
use Rattle.file.proofs.fill.Goals as goal

pub returns-in_default : goal.returns-in_default
returns-in_default c = search (rules, filling)

pub loop-k-preserved : goal.loop-k-preserved
loop-k-preserved c = search (rules, filling)
