use Rattle.counts.specs.Scan.{Summed}
use Rattle.record.specs.Records.{record_at}
use Rattle.area.specs.Sums.{gain, loss, most_term}
use Rattle.area.proofs.sums_of_first.Given as goal

abbrev pub invariant-loop-i : goal.invariant-loop-i
invariant-loop-i l =
    Summed gain (record_at l.s) most_term l.i l.all.gains × Summed loss (record_at l.s) most_term l.i l.all.losses
