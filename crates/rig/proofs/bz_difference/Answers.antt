use Rattle.std.proofs.Common.{rules}
use Rattle.rig.proofs.AnswerLaws.{join-small}
use Rattle.rig.proofs.bz_difference.Goals as goal

pub pack_joined-requires : goal.pack_joined-requires
pack_joined-requires c = search (rules, join-small)
