-- Coordinates (document 01: "Coordinates are signed sixteen-bit; the grid's own ends, -32,768 and 32,767, belong to the
-- coordinate type"), and how far each lies above the grid's lower end.
--     least, greatest    the grid's own ends
--     coord_of z    the coordinate that is the number z
--     on_grid z     z is a coordinate: from the one end to the other
--     located z     the coordinate z; None off the grid
--     up z          how far z lies above the lower end: -32,768 is 0 and 32,767 is 65,535
--     down n        the way back, for a count below 65,536
--     point_of x y  the point with these coordinates, counted
-- That each is the other's inverse, that `up` keeps the order and every difference are laws of
-- proofs/CoordinateLaws.antt; so points compare and turn as their signed coordinates do, by proofs/SignedLaws.antt.
-- Assumes nothing.
use Rattle.std.specs.Prelude.{Bool, cond, ◌&&◌, ℕ, ◌+◌, ◌-◌, ℤ, pos, negsuc, ◌-ℤ◌, Option, Some, None}
use Rattle.std.specs.Int.Signed.{le_z}
use Rattle.plane.specs.declared.Point.{Point}
use Rattle.grid.specs.declared.Coord.{Coord}

abbrev pub least : ℤ
least = negsuc 32767

abbrev pub greatest : ℤ
greatest = pos 32767

abbrev pub coord_of : ℤ → Coord
coord_of z = record { v = z }

abbrev pub on_grid : ℤ → Bool
on_grid z = le_z least z && le_z z greatest

unfoldable pub located : ℤ → Option Coord
located z = cond (on_grid z) (Some (coord_of z)) None

unfoldable pub up : ℤ → ℕ
up (pos n) = n + 32768
up (negsuc n) = 32767 - n

abbrev pub down : ℕ → ℤ
down n = pos n -ℤ pos 32768

abbrev pub point_of : ℤ → ℤ → Point
point_of x y = record { x = up x; y = up y }
