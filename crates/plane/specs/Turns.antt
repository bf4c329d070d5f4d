-- How three points turn, and document 01's determinant ("the one that turns counter-clockwise onto the other
-- (positive determinant of their directions)").
--     Direction          a way across and a way up, signed
--     direction p q      the way from p to q
--     determinant u v    of two directions: positive where u turns counter-clockwise onto v, zero in line
--     plus p q r, minus p q r    the determinant of the ways from p to q and from p to r is plus less minus;
--                        both are sums of products of counts, so a program compares them and never subtracts
--     largest_product    how far a product inside a determinant reaches: 65,535 squared, 4,294,836,225
--     turns_left, turns_right, straight  from p, the way to q turns counter-clockwise, clockwise or not
--                                        onto the way to r
-- That the three tests are the determinant's sign is `turns_left-is`, `turns_right-is` and `straight-is` of
-- proofs/DeterminantLaws.antt; how far the products reach is `product-range` of proofs/RangeLaws.antt.
-- Assumes nothing.
use Rattle.std.specs.Prelude.{Bool, ℕ, ◌+◌, ◌*◌, ltb, eqb, ℤ, pos, ◌-ℤ◌, ◌*ℤ◌}
use Rattle.plane.specs.declared.Point.{Point}

pub record Direction : Type 0 where
  pub across : ℤ
  pub up : ℤ

abbrev pub direction : Point → Point → Direction
direction p q = record { across = pos q.x -ℤ pos p.x; up = pos q.y -ℤ pos p.y }

abbrev pub determinant : Direction → Direction → ℤ
determinant u v = u.across *ℤ v.up -ℤ u.up *ℤ v.across

abbrev pub plus : Point → Point → Point → ℕ
plus p q r = p.x * q.y + q.x * r.y + r.x * p.y

abbrev pub minus : Point → Point → Point → ℕ
minus p q r = p.y * q.x + q.y * r.x + r.y * p.x

abbrev pub largest_product : ℕ
largest_product = 65535 * 65535

unfoldable pub turns_left : Point → Point → Point → Bool
turns_left p q r = ltb (minus p q r) (plus p q r)

unfoldable pub turns_right : Point → Point → Point → Bool
turns_right p q r = ltb (plus p q r) (minus p q r)

unfoldable pub straight : Point → Point → Point → Bool
straight p q r = eqb (minus p q r) (plus p q r)
