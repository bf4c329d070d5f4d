-- Outer cycles, holes and faces (document 01: "A cycle of positive signed area is outer, of negative a hole. A hole's
-- face is that of the outer cycle in its own walk; if the walk has none, take the walk's smallest point, the segment
-- nearest strictly below it, and the face of the cycle that segment belongs to", "faces by their outer cycles' order").
--     area2_of s c           twice the signed area of the cycle c: document 01's twice the area, over its segments
--     is_outer s i           the cycle of record i is outer
--     first_outer s i        record i is the first of an outer cycle
--     face_count s           the number of faces: each has one outer cycle
--     face_number s i        of the outer cycle whose first record is i: how many outer cycles come before it
--     outer_in s w           the first record of the outer cycle in the walk that starts at w; the number of records
--                            where it has none
--     smallest p qs          the smallest of p and of all of qs
--     smallest_point s w     the smallest point of the walk that starts at w
--     nearest_to s p         the record of the segment nearest strictly below p
--     face_from s k i        the face of the cycle of record i, found over at most k walks
--     face_of s i            the same over as many as there can be
-- That fewer walks are always enough is `face-found` of proofs/FaceLaws.antt. Assumes nothing.
use Rattle.std.specs.Prelude.{Bool, cond, ◌&&◌, List, [], ◌∷◌, map, ℕ, zero, suc, ltb, eqb, ℤ, pos}
use Rattle.std.specs.Int.Signed.{lt_z}
use Rattle.counts.specs.Count.{count, places}
use Rattle.counts.specs.Scan.{first_from}
use Rattle.plane.specs.declared.Point.{Point}
use Rattle.plane.specs.Points.{before}
use Rattle.record.specs.Records.{record_at, record_count, records}
use Rattle.area.specs.Areas.{twice_area}
use Rattle.region.specs.Boundaries.{nearest}
use Rattle.walks.specs.Walks.{walk}
use Rattle.walks.specs.Cycles.{start_of, cycle_of, halves, first_of, is_first}

abbrev pub area2_of : List ℤ → List ℕ → ℤ
area2_of s c = twice_area (map (record_at s) (halves s c))

unfoldable pub is_outer : List ℤ → ℕ → Bool
is_outer s i = lt_z (pos 0) (area2_of s (cycle_of s i))

abbrev pub first_outer : List ℤ → ℕ → Bool
first_outer s i = is_first s i && is_outer s i

abbrev pub face_count : List ℤ → ℕ
face_count s = count (first_outer s) (places (record_count s))

unfoldable pub face_number : List ℤ → ℕ → ℕ
face_number s i = count (first_outer s) (places i)

unfoldable pub outer_in : List ℤ → ℕ → ℕ
outer_in s w = first_from (λ j. first_outer s j && eqb (start_of s j) w) (λ j. j) 0 (record_count s)

unfoldable pub smallest : Point → List Point → Point
smallest p [] = p
smallest p (q ∷ qs) = smallest (cond (before q p) q p) qs

abbrev pub smallest_point : List ℤ → ℕ → Point
smallest_point s w = smallest (record_at s w).dom (map (λ j. (record_at s j).dom) (walk s w))

unfoldable pub nearest_to : List ℤ → Point → ℕ
nearest_to s p = first_from (nearest (records s) p) (record_at s) 0 (record_count s)

unfoldable pub face_from : List ℤ → ℕ → ℕ → ℕ
face_from s zero i = 0
face_from s (suc k) i =
    let w = start_of s i in
    cond (is_outer s i) (face_number s (first_of s i))
    (cond (ltb (outer_in s w) (record_count s)) (face_number s (outer_in s w))
    (face_from s k (nearest_to s (smallest_point s w))))

abbrev pub face_of : List ℤ → ℕ → ℕ
face_of s i = face_from s (record_count s) i
