-- The laws that the tactic lines of src/lib.rt name, a set for each function. Assumes nothing.
use mir.ValLaws.{to_z-of_z}
use Rattle.gauge.proofs.ExactLaws.{exactly-units, le-exactly, castable, cut-exactly}
use Rattle.gauge.proofs.RangeLaws.{within, beyond}
use Rattle.gauge.proofs.CutLaws.{counted, left_over, uncounted}
use Rattle.gauge.proofs.CardLaws.{from_is, pin_some, pin_none, factor_some, factor_below, factor_none}
use Rattle.gauge.proofs.PressureLaws.{pin-exactly}
use Rattle.gauge.proofs.ReadingLaws.{own-units, pressure-whole}
use Rattle.gauge.proofs.Plain.{mul_held, product_value, sub_held, difference_value, literal_256, literal_65536}
use Rattle.gauge.proofs.Plain.{literal-minus_65536, near_low, near_high, sound_spring, sound_bridge}

pub ruleset cuts = (
  within,
  beyond,
  near_low,
  near_high,
  counted,
  left_over,
  uncounted,
  literal_256,
  literal_65536,
  literal-minus_65536,
  to_z-of_z,
)

pub ruleset factor_counts = (factor_some, factor_below, factor_none, to_z-of_z)

pub ruleset pin_counts = (pin_some, pin_none, to_z-of_z)

pub ruleset products = (mul_held, product_value, to_z-of_z)

pub ruleset differences = (sub_held, difference_value, to_z-of_z)

pub ruleset pasts = (from_is, pin-exactly, le-exactly, to_z-of_z)

pub ruleset pressures = (sound_spring, sound_bridge, to_z-of_z)

pub ruleset pins = (sound_spring, sound_bridge, own-units, exactly-units, to_z-of_z)

pub ruleset rows = (castable, cut-exactly, to_z-of_z)

pub ruleset reads = (pressure-whole, exactly-units, to_z-of_z)
