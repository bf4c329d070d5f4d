use Rattle.std.proofs.Common.{rules}
use Rattle.rig.proofs.GaugingLaws.{sample-read}
use Rattle.rig.proofs.bz_gauge.Goals as goal

pub returns : goal.returns
returns c = search (rules, sample-read)
