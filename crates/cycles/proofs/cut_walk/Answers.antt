use Rattle.std.proofs.Common.{arith}
use Rattle.cycles.proofs.CuttingLaws.{cutting-round, cutting-all}
use Rattle.cycles.proofs.cut_walk.Goals as goal
use Rattle.cycles.proofs.cut_walk.Goals.{else-loop-k-test, then-loop-k-test+then-j-w}

pub returns : goal.returns
returns c =
    elim c.loop-k-test.branch [
      | else-loop-k-test w ↦
          let to = rw (w.cycles-is, w.rest-is) at c.cut_at-2.ensures in
          cutting-all c.loop-k.invariant (omega arith) c.record_of-r-2.ensures.value to
      | then-loop-k-test+then-j-w w ↦
          let to = rw (w.cycles-is, w.rest-is, w.push.ensures.items) at c.cut_at-2.ensures in
          let held =
          cutting-round c.loop-k.invariant w.record_of-r.ensures.value w.cut_at.ensures (omega arith)
          w.next_of-j.ensures w.if-j-w.true
          in
          cutting-all held (omega arith) c.record_of-r-2.ensures.value to
    ]
