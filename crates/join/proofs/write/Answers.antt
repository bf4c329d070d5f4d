use Rattle.std.proofs.Common.{rules}
use Rattle.join.proofs.WriteLaws.{writing}
use Rattle.join.proofs.write.Goals as goal

pub loop-which-init : goal.loop-which-init
loop-which-init c = search (rules, writing)

pub loop-which-smaller-in-First : goal.loop-which-smaller-in-First
loop-which-smaller-in-First c = search (rules, writing)

pub loop-which-preserved-in-First : goal.loop-which-preserved-in-First
loop-which-preserved-in-First c = search (rules, writing)

pub loop-which-preserved : goal.loop-which-preserved
loop-which-preserved c = search (rules, writing)
