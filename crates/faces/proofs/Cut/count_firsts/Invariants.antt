use Rattle.counts.specs.Scan.{Counted}
use Rattle.walks.specs.Cycles.{is_first}
use Rattle.faces.proofs.Cut.count_firsts.Given as goal

abbrev pub invariant-loop-i : goal.invariant-loop-i
invariant-loop-i l = Counted (is_first l.self) (λ i. i) l.i l.m
