-- A walk, and how it is cut (document 01: "A walk that returns to a point it has passed is cut there: the stretch
-- between is a cycle, and the rest goes on without it").
--     onward s i j k    from record j on, until record i would come next: k records at most
--     walk s i          the walk that starts with record i, until it comes round
--     from s p j        record j departs from p
--     Cut               what is left of a walk, its records in the order walked, and the cycles cut off so far
--     cut_at s p c      the walk comes to p: where it has departed from p, what it has walked since is a cycle
--     walk_on s c j     it comes to where record j departs, is cut there, and goes on by j
--     walk_all s c js   the same for each of js
--     uncut             nothing walked yet
--     cycles_in s i js  what js, which start with record i and end where it departs, are cut into
--     cycles_of s i     the cycles of the walk from record i
-- Assumes nothing.
use Rattle.std.specs.Prelude.{Bool, cond, List, [], ◌∷◌, ◌++◌, ℕ, zero, suc, ltb, eqb, ℤ, length, take, drop}
use Rattle.counts.specs.Count.{first_index}
use Rattle.plane.specs.declared.Point.{Point}
use Rattle.record.specs.Records.{record_at, record_count}
use Rattle.parts.specs.Parts.{at_corner}
use Rattle.walks.specs.Ways.{next}

unfoldable pub onward : List ℤ → ℕ → ℕ → ℕ → List ℕ
onward s i j zero = []
onward s i j (suc k) = j ∷ cond (eqb (next s j) i) [] (onward s i (next s j) k)

abbrev pub walk : List ℤ → ℕ → List ℕ
walk s i = onward s i i (record_count s)

abbrev pub from : List ℤ → Point → ℕ → Bool
from s p j = at_corner p (record_at s j)

pub record Cut : Type 0 where
  pub rest : List ℕ
  pub cycles : List (List ℕ)

unfoldable pub cut_at : List ℤ → Point → Cut → Cut
cut_at s p c =
    let k = first_index (from s p) c.rest in
    cond (ltb k (length c.rest))
    (record { rest = take k c.rest; cycles = c.cycles ++ (drop k c.rest ∷ []) }) c

abbrev pub walk_on : List ℤ → Cut → ℕ → Cut
walk_on s c j =
    let d = cut_at s (record_at s j).dom c in record { rest = d.rest ++ (j ∷ []); cycles = d.cycles }

unfoldable pub walk_all : List ℤ → Cut → List ℕ → Cut
walk_all s c [] = c
walk_all s c (j ∷ js) = walk_all s (walk_on s c j) js

abbrev pub uncut : Cut
uncut = record { rest = []; cycles = [] }

abbrev pub cycles_in : List ℤ → ℕ → List ℕ → List (List ℕ)
cycles_in s i js = (cut_at s (record_at s i).dom (walk_all s uncut js)).cycles

unfoldable pub cycles_of : List ℤ → ℕ → List (List ℕ)
cycles_of s i = cycles_in s i (walk s i)
