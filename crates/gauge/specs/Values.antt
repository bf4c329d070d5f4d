-- The value of a float, in 256ths. A 64-bit float is a NaN, an infinity or a number, `fin s m e`: m * 2 ^ e, negative
-- where s is true, and 2 ^ e is the fraction up e / down e. (lib.Ieee: every bit pattern is one of these, all NaNs are
-- one, and `fits binary64 x` says that x is such a float.)
-- One unit serves every rule and every pressure. Rate and gain are powers of two and no less than 1/256, so they are
-- whole numbers of 256ths, as pin and zero are; a whole sample times such a number is one again, and a difference too.
--     in_units m e     m * 2 ^ e in 256ths, over down e
--     size x           how many 256ths x is without its sign, what is left over cut off
--     is_multiple x    x is a multiple of 1/256: a number, and nothing is left over
--     has_minus x      x has a minus sign
--     signed s n       n, or -n where s is true
--     units x          such an x in 256ths. Negative zero is 0
--     Exactly x z      x is z 256ths, no more and no less: a 64-bit float that is a number, its sign that of z and its
--                      size the fraction |z| / 256 (`HasValue`, lib.Ieee.Exact). So 0 is the positive zero
-- Assumes nothing.
use Rattle.std.specs.Prelude.{◌≡◌, ℕ, ◌*◌, ◌/◌, ◌%◌, Bool, true, false, cond, not, ℤ, pos, neg_ℤ, ◌==◌, unsigned_abs}
use Rattle.std.specs.Int.Signed.{non_neg}
use lib.Ieee.{Float, nan, inf, fin, up, down, fits, binary64}
use Rattle.std.specs.Float.Ieee.Exact.{HasValue}

abbrev pub in_units : ℕ → ℤ → ℕ
in_units m e = m * up e * 256

unfoldable pub size : Float → ℕ
size nan = 0
size (inf s) = 0
size (fin s m e) = in_units m e / down e

unfoldable pub is_multiple : Float → Bool
is_multiple nan = false
is_multiple (inf s) = false
is_multiple (fin s m e) = in_units m e % down e == 0

unfoldable pub has_minus : Float → Bool
has_minus nan = false
has_minus (inf s) = s
has_minus (fin s m e) = s

abbrev pub signed : Bool → ℕ → ℤ
signed s n = cond s (neg_ℤ (pos n)) (pos n)

unfoldable pub units : Float → ℤ
unfolding size has_minus
units x = signed (has_minus x) (size x)

pub record Exactly (x : Float) (z : ℤ) : Type 0 where
  pub held : fits binary64 x ≡ true
  pub value : HasValue x (not (non_neg z)) (unsigned_abs z) 256
