use Rattle.std.proofs.Common.{arith}
use Rattle.cycles.proofs.WalkingLaws.{walking-next, walking-all}
use Rattle.cycles.proofs.cut_walks.Goals as goal

pub loop-i-preserved : goal.loop-i-preserved
loop-i-preserved c =
    walking-next c.count_of-i-end.ensures.region c.loop-i.invariant (omega arith) c.cut_from.ensures

pub returns : goal.returns
returns c = walking-all c.count_of-i-end.ensures.region c.loop-i.invariant (omega arith)
