use Rattle.file.proofs.PassLaws.{Filling}
use Rattle.file.proofs.fill.Given as goal

abbrev pub invariant-loop-k : goal.invariant-loop-k
invariant-loop-k l = Filling l.bytes l.m l.from l.initial.out l.out l.at l.k
