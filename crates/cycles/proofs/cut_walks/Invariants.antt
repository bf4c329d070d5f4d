use Rattle.cycles.proofs.WalkingLaws.{Walking}
use Rattle.cycles.proofs.cut_walks.Given as goal

abbrev pub invariant-loop-i : goal.invariant-loop-i
invariant-loop-i l =
    Walking l.s.now l.initial.cycles.starts l.initial.cycles.firsts l.cycles.starts l.cycles.firsts l.i
