use Rattle.faces.proofs.EntryLaws.{Entered}
use Rattle.faces.proofs.Cut.write_cycles.Given as goal

abbrev pub invariant-loop-i : goal.invariant-loop-i
invariant-loop-i l = Entered l.self l.initial.cycles l.cycles l.i l.m
