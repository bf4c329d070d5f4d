-- What the functions inside find on the way: devices that their contracts cite. s is the chart, n its records.
--     PlaceOf s v i           i is v, and the place of a record
--     Places s js             the numbers js are places of records
--     first_half s f js       the least of f, of js, and of the other halves of js
--     name_record s v j to    `to` with the number v at both halves of record j
--     name_all s v js to      the same at both halves of each of js
--     name_first s c to       the same with the first record of the cycle c; as it was where c is empty
--     firsts_of s cs to       the same for each of the cycles cs
--     starts_of s w cs to     `to` with the number w at both halves of each record of cs
--     CutTo s p w rest ..     the walk came to p, and of the records `rest` those before the first that departs from p
--                             are left: what is gone is a cycle of the walk that started at w
--     CutWalk s w ..          the whole walk from w was cut
--     is_free s i starts      record i departs and has no start yet: n stands for none
--     CutFrom s i ..          the walk from record i was cut where it is free, else all is as it was
--     Unset n starts          no record has a start yet
--     CutWalks s ..           all walks were cut: each record has its start and the first record of its cycle, and what
--                             stands behind the records is as it was
-- Assumes nothing.
use Rattle.std.specs.Prelude.{◌≡◌, Bool, cond, ◌&&◌, ℕ, ◌≤◌, ◌<◌, eqb, min, ℤ}
use Rattle.std.specs.Prelude.{List, [], ◌∷◌, length, get_or, take, drop, set}
use Rattle.counts.specs.Count.{first_index}
use Rattle.plane.specs.declared.Point.{Point}
use Rattle.record.specs.Records.{record_at, record_count}
use Rattle.around.specs.Departing.{departs}
use Rattle.walks.specs.Ways.{way_back}
use Rattle.walks.specs.Walks.{from, cycles_of}
use Rattle.walks.specs.Cycles.{start_of, first_of}

pub record PlaceOf (s : List ℤ) (v i : ℕ) : Type 0 where
  pub is : i ≡ v
  pub less : i < record_count s

pub record Places (s : List ℤ) (js : List ℕ) : Type 0 where
  pub known : (t : ℕ) → t < length js → get_or js t 0 < record_count s

-- ---- the first record of a cycle

unfoldable pub first_half : List ℤ → ℕ → List ℕ → ℕ
first_half s f [] = f
first_half s f (j ∷ js) = first_half s (min (min f j) (way_back s j)) js

-- ---- what is written

abbrev pub name_record : List ℤ → ℕ → ℕ → List ℕ → List ℕ
name_record s v j to = set (set to j v) (way_back s j) v

unfoldable pub name_all : List ℤ → ℕ → List ℕ → List ℕ → List ℕ
name_all s v [] to = to
name_all s v (j ∷ js) to = name_all s v js (name_record s v j to)

unfoldable pub name_first : List ℤ → List ℕ → List ℕ → List ℕ
name_first s [] to = to
name_first s (j ∷ js) to = name_all s (first_half s j (j ∷ js)) (j ∷ js) to

unfoldable pub firsts_of : List ℤ → List (List ℕ) → List ℕ → List ℕ
firsts_of s [] to = to
firsts_of s (c ∷ cs) to = firsts_of s cs (name_first s c to)

unfoldable pub starts_of : List ℤ → ℕ → List (List ℕ) → List ℕ → List ℕ
starts_of s w [] to = to
starts_of s w (c ∷ cs) to = starts_of s w cs (name_all s w c to)

-- ---- cutting

pub record CutTo (s : List ℤ) (p : Point) (w : ℕ) (rest starts firsts rest' starts' firsts' : List ℕ) : Type 0 where
  pub left : rest' ≡ take (first_index (from s p) rest) rest
  pub begun : starts' ≡ name_all s w (drop (first_index (from s p) rest) rest) starts
  pub named : firsts' ≡ name_first s (drop (first_index (from s p) rest) rest) firsts

pub record CutWalk (s : List ℤ) (w : ℕ) (starts firsts starts' firsts' : List ℕ) : Type 0 where
  pub begun : starts' ≡ starts_of s w (cycles_of s w) starts
  pub named : firsts' ≡ firsts_of s (cycles_of s w) firsts

abbrev pub is_free : List ℤ → ℕ → List ℕ → Bool
is_free s i starts = eqb (get_or starts i 0) (record_count s) && departs (record_at s i)

pub record CutFrom (s : List ℤ) (i : ℕ) (starts firsts starts' firsts' : List ℕ) : Type 0 where
  pub begun : starts' ≡ cond (is_free s i starts) (starts_of s i (cycles_of s i) starts) starts
  pub named : firsts' ≡ cond (is_free s i starts) (firsts_of s (cycles_of s i) firsts) firsts

pub record Unset (n : ℕ) (starts : List ℕ) : Type 0 where
  pub room : n ≤ length starts
  pub none : (i : ℕ) → i < n → get_or starts i 0 ≡ n

pub record CutWalks (s : List ℤ) (starts firsts starts' firsts' : List ℕ) : Type 0 where
  pub size : (length starts' ≡ length starts) × (length firsts' ≡ length firsts)
  pub begun : (i : ℕ) → i < record_count s → get_or starts' i 0 ≡ start_of s i
  pub named : (i : ℕ) → i < record_count s → get_or firsts' i 0 ≡ first_of s i
  pub behind : (i : ℕ) → record_count s ≤ i
      → (get_or starts' i 0 ≡ get_or starts i 0) × (get_or firsts' i 0 ≡ get_or firsts i 0)
