use Rattle.cycles.proofs.Cutting.{Cutting}
use Rattle.cycles.proofs.cut_walk.Given as goal

abbrev pub invariant-loop-k : goal.invariant-loop-k
invariant-loop-k l =
    Cutting l.s.now l.w l.initial.cycles.starts l.initial.cycles.firsts l.cycles.starts l.cycles.firsts l.rest.items l.j l.k
