-- The three returns, by their laws over plain variables. Assumes nothing.
use Rattle.std.proofs.Common.{rules}
use Rattle.gauge.proofs.Plain.{pin_is, off_is, read_is}
use Rattle.gauge.proofs.read_sound.Goals as goal

pub returns-then-is_at_pin : goal.returns-then-is_at_pin
returns-then-is_at_pin c = search (rules, pin_is)

pub returns-in-Some : goal.returns-in-Some
returns-in-Some c = search (rules, read_is)

pub returns-in-None : goal.returns-in-None
returns-in-None c = search (rules, off_is)
