-- How three points turn, as an answer, and the ranges of what is computed on the way.
--     turn_of p q r      how the way from p to q turns onto the way from p to r: the determinant's sign
--                        (specs/Turns.antt of plane)
--     Product a b r      r is the product of two counts, and no more than 65,535 squared
--     TurnSum n s        s is n, one of the two sums of a turn, and no more than three such products
-- Assumes nothing.
use Rattle.std.specs.Prelude.{◌≡◌, cond, ℕ, ◌*◌, ◌≤◌}
use Rattle.plane.specs.declared.Point.{Point}
use Rattle.plane.specs.Turns.{turns_left, turns_right, largest_product}
use Rattle.points.specs.declared.Turn.{Turn}
use Rattle.points.specs.declared.Turn.TheVariants.{Left, Straight, Right}

unfoldable pub turn_of : Point → Point → Point → Turn
turn_of p q r = cond (turns_left p q r) Left (cond (turns_right p q r) Right Straight)

pub record Product (a b r : ℕ) : Type 0 where
  pub is : r ≡ a * b
  pub most : r ≤ largest_product

pub record TurnSum (n s : ℕ) : Type 0 where
  pub is : s ≡ n
  pub most : s ≤ 3 * largest_product
