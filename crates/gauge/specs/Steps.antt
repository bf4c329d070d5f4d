-- What the code tells itself on the way to a reading.
--     count_of x       how many 256ths x is, where it is a multiple of 1/256 from -65,536 to 65,536
--     Whole p          p is a whole number of 256ths, of fewer than 2 ^ 53: as every pressure of a sound card is
-- Assumes nothing.
use Rattle.std.specs.Prelude.{◌^◌, ◌<◌, cond, ℤ, unsigned_abs, Float, Option, Some, None}
use Rattle.gauge.specs.Values.{units, Exactly}
use Rattle.gauge.specs.Cards.{is_from, is_zero}

unfoldable pub count_of : Float → Option ℤ
unfolding is_from units
count_of x = cond (is_zero x) (Some (units x)) None

pub record Whole (p : Float) : Type 0 where
  pub exact : Exactly p (units p)
  pub small : unsigned_abs (units p) < 2 ^ 53
