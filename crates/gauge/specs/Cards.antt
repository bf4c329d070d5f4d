-- The gauge card's rules (document 01: "Rate and gain are powers of two from 1/256 to 256. Pin is a multiple of 1/256
-- from 1/256 to 65,536; zero is one from -65,536 to 65,536. A NaN or an infinity breaks these rules"), in 256ths.
--     powers               how many powers of two there are from 1/256 to 256
--     is_power n k         n is 2 ^ k
--     is_factor x          x may be a rate or a gain
--     most                 65,536 in 256ths
--     is_from a b x        x is a multiple of 1/256 from a 256ths to b 256ths
--     is_pin x, is_zero x  x may be a pin; x may be a zero. Negative zero is no pin, and as a zero it is 0
--     sound c              the card keeps the rules
-- A NaN and an infinity are no multiples, so they are none of these. Assumes nothing.
use Rattle.std.specs.Prelude.{ℕ, ◌*◌, ◌^◌, Bool, ◌&&◌, ℤ, pos, neg_ℤ, ◌==◌, int_le, unsigned_abs, Float}
use Rattle.std.specs.Int.Signed.{non_neg}
use Rattle.counts.specs.Count.{any, listed}
use Rattle.gauge.specs.declared.Card.{Card}
use Rattle.gauge.specs.declared.Card.TheVariants.{Spring, Bridge}
use Rattle.gauge.specs.Values.{is_multiple, units}

abbrev pub powers : ℕ
powers = 17

abbrev pub is_power : ℕ → ℕ → Bool
is_power n k = n == 2 ^ k

unfoldable pub is_factor : Float → Bool
unfolding is_multiple units any listed
is_factor x =
    is_multiple x && non_neg (units x) && any (is_power (unsigned_abs (units x))) (listed (λ k. k) 0 powers)

abbrev pub most : ℤ
most = pos (65536 * 256)

unfoldable pub is_from : ℤ → ℤ → Float → Bool
unfolding is_multiple units
is_from a b x = is_multiple x && int_le a (units x) && int_le (units x) b

abbrev pub is_pin : Float → Bool
is_pin x = is_from (pos 1) most x

abbrev pub is_zero : Float → Bool
is_zero x = is_from (neg_ℤ most) most x

unfoldable pub sound : Card → Bool
unfolding is_factor is_from
sound (Spring rate pin) = is_factor rate && is_pin pin
sound (Bridge gain zero) = is_factor gain && is_zero zero
