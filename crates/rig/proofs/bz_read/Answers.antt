use Rattle.std.proofs.Common.{rules}
use Rattle.rig.proofs.AnswerLaws.{records-small, place-small}
use Rattle.rig.proofs.bz_read.Goals as goal

pub pack-requires : goal.pack-requires
pack-requires c = search (rules, records-small)

pub pack_refusal-requires : goal.pack_refusal-requires
pack_refusal-requires c = search (rules, place-small)
