use Rattle.std.proofs.Common.{rules, arith}
use Rattle.faces.proofs.EntryLaws.{entered_none, entered_more, entered_still}
use Rattle.faces.proofs.Cut.write_cycles.Goals as goal
use Rattle.faces.proofs.Cut.write_cycles.Goals.{then-is_first, else-is_first}

pub loop-i-init : goal.loop-i-init
loop-i-init c = search (rules, entered_none)

pub loop-i-preserved : goal.loop-i-preserved
loop-i-preserved c =
    elim c.if-is_first.branch [
      | then-is_first w ↦
          entered_more _ _ c.loop-i.invariant (omega arith) c.is_first.ensures w.if-is_first.true w.put_cycle.ensures
          w.cycles-is w.m-is
      | else-is_first w ↦
          entered_still _ _ c.loop-i.invariant (omega arith) c.is_first.ensures w.if-is_first.false w.cycles-is w.m-is
    ]
