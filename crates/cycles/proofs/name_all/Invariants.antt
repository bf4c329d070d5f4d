use mathlib.Core.Path.{◌≡◌}
use lib.ListN.{drop}
use Rattle.cycles.specs.Steps.{name_all}
use Rattle.cycles.proofs.name_all.Given as goal

abbrev pub invariant-loop-j : goal.invariant-loop-j
invariant-loop-j l = name_all l.s.now l.v (drop l.j-index l.cycle) l.to ≡ name_all l.s.now l.v l.cycle l.initial.to
