use mathlib.Core.Path.{◌≡◌}
use lib.ListN.{drop}
use Rattle.cycles.specs.Steps.{first_half}
use Rattle.cycles.proofs.first_half.Given as goal

abbrev pub invariant-loop-j : goal.invariant-loop-j
invariant-loop-j l = first_half l.s.now l.least (drop l.j-index l.cycle) ≡ first_half l.s.now l.f l.cycle
