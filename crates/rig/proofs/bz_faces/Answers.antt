use Rattle.std.proofs.Common.{rules}
use Rattle.rig.proofs.AnswerLaws.{faces-small}
use Rattle.rig.proofs.bz_faces.Goals as goal

pub pack_faces-requires : goal.pack_faces-requires
pack_faces-requires c = search (rules, faces-small)
