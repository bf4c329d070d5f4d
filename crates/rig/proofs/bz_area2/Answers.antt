use Rattle.std.proofs.Common.{rules}
use Rattle.rig.proofs.AnswerLaws.{area_small}
use Rattle.rig.proofs.bz_area2.Goals as goal

pub pack_refusal-requires : goal.pack_refusal-requires
pack_refusal-requires c = search (rules, area_small)
