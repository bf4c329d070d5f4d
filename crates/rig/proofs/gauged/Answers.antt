use Rattle.std.proofs.Common.{rules}
use Rattle.rig.proofs.GaugingLaws.{of-spring, of-bridge, of-neither}
use Rattle.rig.proofs.gauged.Goals as goal

pub returns-in-0 : goal.returns-in-0
returns-in-0 c = search (rules, of-spring)

pub returns-in-1 : goal.returns-in-1
returns-in-1 c = search (rules, of-bridge)

pub returns-in_default : goal.returns-in_default
returns-in_default c = search (rules, of-neither)
