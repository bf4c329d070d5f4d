-- What is made of two charts a and b (document 01: "under or, and, or and-not").
--     joined_by op x y      or, and, and-not: whether a point that lies in the first chart as x says and in the second
--                           as y says lies in the result
--     joining op            the same of a list of two answers, as combined has it
--     both a b              the two charts by their records
--     side_of which a b     the one or the other of two
-- Assumes nothing.
use Rattle.std.specs.Prelude.{Bool, false, not, ◌&&◌, ◌||◌, List, [], ◌∷◌, ℤ}
use Rattle.record.specs.declared.Record.{Record}
use Rattle.record.specs.Records.{records}
use Rattle.parts.specs.declared.Which.{Which}
use Rattle.parts.specs.declared.Which.TheVariants.{First, Second}
use Rattle.sides.specs.declared.Op.{Op}
use Rattle.sides.specs.declared.Op.TheVariants.{Union, Intersection, Difference}

abbrev pub joined_by : Op → Bool → Bool → Bool
joined_by Union x y = x || y
joined_by Intersection x y = x && y
joined_by Difference x y = x && not y

abbrev pub joining : Op → List Bool → Bool
joining op [] = false
joining op (x ∷ []) = false
joining op (x ∷ y ∷ zs) = joined_by op x y

abbrev pub both : List ℤ → List ℤ → List (List Record)
both a b = records a ∷ records b ∷ []

abbrev pub side_of : {A : Type 0} → Which → A → A → A
side_of First a b = a
side_of Second a b = b
