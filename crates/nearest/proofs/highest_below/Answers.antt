use Rattle.nearest.proofs.PassLaws.{climb_first}
use Rattle.nearest.proofs.highest_below.Goals as goal

pub loop-i-init : goal.loop-i-init
loop-i-init c = climb_first _ _ c.record_count-n.ensures c.first_below.ensures c.unwrap_or-first.ensures
