-- The steps of a walk, by their numbers: step i walks record w i. What the cut leaves and takes off, told by where the
-- walk has been.
--     corner s w i         the point that step i departs from
--     Nested s w n         the walk does not come to two points by turns within n steps
--     Free s w o t i       the walk from step o makes no return before step t, to a point it has passed, around step i
--     Taken s w o v i      step i is cut off when the walk from step o comes to where step v departs: it is free until
--                          then, and step v departs from where some step from o to i departs
--     TakenAt s w o v d    the records d are those of the steps that are taken at step v
--     Stands s w o t b c   so the machine of specs/Walks.antt stands that has walked from step o up to step t: the ones
--                          left are those that are free before step b, in their order; each other one is in a cycle,
--                          and each cycle is what is taken at some step before b
-- Assumes nothing.
use mathlib.Core.Path.{◌≡◌}
use mathlib.Core.Logic.{◌⊎◌}
use mathlib.Core.List.{List, map}
use Prim.Native.Nat.{ℕ, ◌+◌, ◌<◌, ◌≤◌}
use lib.IntN.{ℤ}
use Rattle.counts.specs.Count.{◌∈◌}
use Rattle.plane.specs.declared.Point.{Point}
use Rattle.record.specs.Records.{record_at}
use Rattle.walks.specs.Walks.{Cut}
use Rattle.walks.proofs.SplitLaws.{Rising}

abbrev pub corner : List ℤ → (ℕ → ℕ) → ℕ → Point
corner s w i = (record_at s (w i)).dom

abbrev pub Nested : List ℤ → (ℕ → ℕ) → ℕ → Type 0
Nested s w n =
    (i j k l : ℕ) → i < j → j < k → k < l → l ≤ i + n → corner s w i ≡ corner s w k → corner s w j ≡ corner s w l
    → corner s w i ≡ corner s w j

abbrev pub Free : List ℤ → (ℕ → ℕ) → ℕ → ℕ → ℕ → Type 0
Free s w o t i = (u v : ℕ) → o ≤ u → u ≤ i → i < v → v < t → corner s w u ≡ corner s w v → ⊥

pub record Taken (s : List ℤ) (w : ℕ → ℕ) (o v i : ℕ) : Type 0 where
  pub from : o ≤ i
  pub upto : i < v
  pub free : Free s w o v i
  pub base : ℕ
  pub begun : o ≤ base
  pub below : base ≤ i
  pub again : corner s w base ≡ corner s w v

-- ---- how the machine stands

pub record TakenAt (s : List ℤ) (w : ℕ → ℕ) (o v : ℕ) (d : List ℕ) : Type 0 where
  pub steps : List ℕ
  pub is : d ≡ map w steps
  pub member : (i : ℕ) → i ∈ steps → Taken s w o v i
  pub all : (i : ℕ) → Taken s w o v i → i ∈ steps

pub record Stands (s : List ℤ) (w : ℕ → ℕ) (o t b : ℕ) (c : Cut) : Type 0 where
  pub steps : List ℕ
  pub is : c.rest ≡ map w steps
  pub rising : Rising steps
  pub member : (i : ℕ) → i ∈ steps → (o ≤ i) × (i < t) × Free s w o b i
  pub all : (i : ℕ) → o ≤ i → i < t → Free s w o b i → i ∈ steps
  pub covered : (i : ℕ) → o ≤ i → i < t → (i ∈ steps) ⊎ ((d : List ℕ) × (d ∈ c.cycles) × (w i ∈ d))
  pub taken : (d : List ℕ) → d ∈ c.cycles → (v : ℕ) × (v < b) × TakenAt s w o v d
