use Rattle.join.proofs.WriteLaws.{Writing, left}
use Rattle.join.proofs.write.Given as goal

abbrev pub invariant-loop-which : goal.invariant-loop-which
invariant-loop-which l = Writing l.pair.op l.pair.a.now l.pair.b.now l.initial.out l.out l.i l.j l.n

abbrev pub decreases-loop-which : goal.decreases-loop-which
decreases-loop-which l = left l.pair.a.now l.pair.b.now l.i l.j
