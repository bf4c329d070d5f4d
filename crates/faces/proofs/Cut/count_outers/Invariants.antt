use Rattle.counts.specs.Scan.{Counted}
use Rattle.walks.specs.Faces.{first_outer}
use Rattle.faces.proofs.Cut.count_outers.Given as goal

abbrev pub invariant-loop-i : goal.invariant-loop-i
invariant-loop-i l = Counted (first_outer l.self) (λ i. i) l.i l.m
