use Rattle.std.proofs.lemmas.Result.{err_from_is_err_and}
use Rattle.faces.proofs.CircledLaws.{known-circled}
use Rattle.faces.proofs.ListLaws.{lists-accepted, lists-refused}
use Rattle.faces.proofs.faces.Goals as goal

pub returns-in_err-c : goal.returns-in_err-c
returns-in_err-c c =
    let p = err_from_is_err_and c.from_residual.result c.from_residual.ensures.1 in
    rw p.1 (lists-refused _ _ _ c.cycles_of.ensures c.in_err-c.was p.2)

pub invariant_of-cut : goal.invariant_of-cut
invariant_of-cut c = known-circled _ c.cycles_of.ensures c.in_ok-c.was

pub returns : goal.returns
returns c = lists-accepted _ _ _ c.cycles_of.ensures c.in_ok-c.was c.list.ensures
