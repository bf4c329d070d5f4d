-- The face of a walk (specs/Steps.antt): that of its outer cycle; or it is known already, as the segment nearest below
-- its smallest point is of a walk that starts earlier.
--     walk_outer                    the walk has an outer cycle
--     below_here, below_face        it has none: the record below, and the face of that one's walk
-- Assumes nothing.
use mathlib.Core.Path.{◌≡◌, sym, ap, ◌∙◌}
use mathlib.Core.List.{List}
use Prim.Native.Nat.{ℕ, ◌<◌, ◌≤◌}
use native.Mathlib.Omega.{arith}
use lib.IntN.{ℤ}
use lib.ListN.{get_or}
use Rattle.std.specs.Prelude.{Option, Some, None}
use Rattle.record.specs.declared.Record.{Record}
use Rattle.record.specs.Records.{record_at, record_count}
use Rattle.chart.specs.Regions.{Region}
use Rattle.nearest.specs.Passes.{Highest}
use Rattle.nearest.proofs.PassLaws.{highest-nearest}
use Rattle.walks.specs.Cycles.{start_of}
use Rattle.walks.specs.Faces.{face_number, outer_in, smallest_point, nearest_to, face_of}
use Rattle.faces.specs.Steps.{WalkFaces, Numbered, outer_place}
use Rattle.walks.proofs.StartLaws.{start-start, start-point}
use Rattle.walks.proofs.DropLaws.{nearest-less, nearest-start}
use Rattle.walks.proofs.FaceLaws.{face-walk, face-outer, face-drop}
use Rattle.faces.proofs.NumberLaws.{outer_is, outer_low, outer_none}

module _ {s : List ℤ} (region : Region s) {w : ℕ} (l : w < record_count s) (at : start_of s w ≡ w) {v : Option ℕ}
    (outer : v ≡ outer_place s w) where
  pub walk_outer : {o f : ℕ} → v ≡ Some o → Numbered s (face_number s o) f → f ≡ face_of s w
  walk_outer {o} e n =
      let is : o ≡ outer_in s (start_of s w) = outer_is s w outer e ∙ ap (outer_in s) (sym at) in
      n.is ∙ ap (face_number s) is ∙ sym (face-outer region w l (omega (arith, is, outer_low s w outer e)))

  module _ {r : Record} {b : ℕ} (none : v ≡ None) (read : r ≡ record_at s w) (highest : Highest s r.dom b) where
    bare : record_count s ≤ outer_in s (start_of s w)
    bare = omega (arith, outer_none s w outer none, ap (outer_in s) at)

    found : b ≡ nearest_to s (smallest_point s (start_of s w))
    unfolding nearest_to
    found =
        let point : r.dom ≡ smallest_point s (start_of s w) =
        ap (λ r. r.dom) read ∙ ap (λ w. (record_at s w).dom) (sym at) ∙ sym (start-point region w l)
        in
        highest.is ∙ highest-nearest s r.dom region.sound ∙ ap (nearest_to s) point

    pub below_here : b < record_count s
    below_here = omega (arith, found, nearest-less region w l bare)

    module _ {u : ℕ} (starts : u ≡ start_of s b) where
      earlier : u < w
      earlier = omega (arith, starts, ap (start_of s) found, nearest-start region w l bare)

      pub below_face : {faces : List ℕ} → WalkFaces s w faces → get_or faces u 0 ≡ face_of s w
      below_face {faces} done =
          ap (λ v. get_or faces v 0) starts
          ∙ done.face (start_of s b) (omega (arith, starts, earlier)) (omega (arith, starts, earlier))
          (start-start region b below_here)
          ∙ sym (face-walk region b below_here)
          ∙ ap (face_of s) found
          ∙ sym (face-drop region w l bare)
