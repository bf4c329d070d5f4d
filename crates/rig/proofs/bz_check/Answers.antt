use Rattle.std.proofs.Common.{rules}
use Rattle.rig.proofs.AnswerLaws.{check-small}
use Rattle.rig.proofs.bz_check.Goals as goal

pub pack_refusal-requires : goal.pack_refusal-requires
pack_refusal-requires c = search (rules, check-small)
