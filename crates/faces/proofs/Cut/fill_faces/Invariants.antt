use Rattle.faces.proofs.FillLaws.{Filling}
use Rattle.faces.proofs.Cut.fill_faces.Given as goal

abbrev pub invariant-loop-w : goal.invariant-loop-w
invariant-loop-w l = Filling l.self l.initial.faces l.faces l.w
