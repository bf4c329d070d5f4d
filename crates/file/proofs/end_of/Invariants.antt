use Rattle.file.proofs.PassLaws.{Passing}
use Rattle.file.proofs.end_of.Given as goal

abbrev pub invariant-loop-k : goal.invariant-loop-k
invariant-loop-k l = Passing l.bytes l.m l.from l.at l.k
