-- What the functions inside find on the way: devices that their contracts cite. s is an accepted chart.
--     WalkFaces s m faces      the array has, for each walk that starts before record m, its face
--     Numbered s v m           m is v, and no more than the chart has records
--     outer_place s w          the first record of the outer cycle in the walk that starts at w, where it has one
--     with_cycle s i to m      `to` with the two numbers of the cycle of record i as those of cycle m
--     SoundLists s ..          of an accepted chart: the answer is a, and the arrays that were labels and cycles are
--                              then labels' and cycles'
-- Assumes nothing.
use Rattle.std.specs.Prelude.{◌≡◌, ◌&&◌, List, ℕ, ◌+◌, ◌*◌, ◌≤◌, ◌<◌, eqb, ℤ, Option, length, get_or, set}
use Rattle.counts.specs.Scan.{first_place}
use Rattle.record.specs.Records.{record_count}
use Rattle.walks.specs.Cycles.{start_of}
use Rattle.walks.specs.Faces.{first_outer, face_of}
use Rattle.faces.specs.Lists.{FaceList, labels_of, kind_of, cycle_list, listed_in, contents}

pub record WalkFaces (s : List ℤ) (m : ℕ) (faces : List ℕ) : Type 0 where
  pub room : record_count s ≤ length faces
  pub face : (w : ℕ) → w < m → w < record_count s → start_of s w ≡ w → get_or faces w 0 ≡ face_of s w

pub record Numbered (s : List ℤ) (v m : ℕ) : Type 0 where
  pub is : m ≡ v
  pub most : m ≤ record_count s

abbrev pub outer_place : List ℤ → ℕ → Option ℕ
outer_place s w = first_place (λ j. first_outer s j && eqb (start_of s j) w) (λ j. j) (record_count s)

abbrev pub with_cycle : List ℤ → ℕ → List ℕ → ℕ → List ℕ
with_cycle s i to m = set (set to (2 * m) (kind_of s i)) (2 * m + 1) (face_of s i)

pub record SoundLists (s : List ℤ) (labels cycles labels' cycles' : List ℕ) (a : FaceList) : Type 0 where
  pub says : a ≡ listed_in s (length labels) (length cycles)
  pub labelled : labels' ≡ contents a (labels_of s) labels
  pub listed : cycles' ≡ contents a (cycle_list s) cycles
