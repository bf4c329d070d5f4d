use Rattle.std.proofs.Common.{rules}
use Rattle.join.proofs.SizeLaws.{sized, result_sized}
use Rattle.join.proofs.result_size.Goals as goal

pub overflow_add-result : goal.overflow_add-result
overflow_add-result c = search (rules, sized)

pub returns : goal.returns
returns c = search (rules, result_sized)
