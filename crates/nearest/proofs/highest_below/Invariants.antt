use Rattle.nearest.proofs.PassLaws.{Climbing}
use Rattle.nearest.proofs.highest_below.Given as goal

abbrev pub invariant-loop-i : goal.invariant-loop-i
invariant-loop-i l = Climbing l.s l.p l.top l.i
