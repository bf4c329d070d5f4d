use Rattle.faces.proofs.LabelLaws.{Labelled}
use Rattle.faces.proofs.Cut.write_labels.Given as goal

abbrev pub invariant-loop-i : goal.invariant-loop-i
invariant-loop-i l = Labelled l.self l.initial.labels l.labels l.i
