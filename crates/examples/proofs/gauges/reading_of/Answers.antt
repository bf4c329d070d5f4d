use Rattle.std.proofs.Common.{not, T, subst}
use lib.Ieee.{is_nan}
use Rattle.gauge.specs.Readings.{handed}
use Rattle.gauge.proofs.ReadingLaws.{gauges-number}
use Rattle.examples.proofs.gauges.reading_of.Goals as goal

pub float_to_bits-result : goal.float_to_bits-result
float_to_bits-result c =
    subst (λ g. T (not (is_nan (handed g).pressure))) c.in-Ok.is (gauges-number _ _ _ c.read_sample.ensures)
