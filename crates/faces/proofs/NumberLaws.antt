-- Counting the first records, and looking for one (specs/Steps.antt), as the methods find them.
--     firsts_numbered, outers_numbered      what the count comes to
--     outer_is, outer_low, outer_none      the first record of a walk's outer cycle, and that it has none
-- Assumes nothing.
use mathlib.Core.Path.{◌≡◌, sym, ◌∙◌}
use mathlib.Core.Bool.{Bool, ◌&&◌}
use mathlib.Core.List.{List}
use Prim.Native.Nat.{ℕ, ◌<◌, ◌≤◌}
use native.Mathlib.Omega.{arith}
use lib.Dec.{eqb}
use lib.IntN.{ℤ}
use borrow.Author.Tests.{ltb-false}
use Rattle.std.specs.Prelude.{Option, Some, None}
use Rattle.counts.specs.Count.{count, places}
use Rattle.counts.specs.Scan.{Counted}
use Rattle.counts.proofs.PlaceLaws.{first_place_some, first_place_none}
use Rattle.record.specs.Records.{record_count}
use Rattle.walks.specs.Cycles.{start_of, is_first}
use Rattle.walks.specs.Faces.{first_outer, face_number, outer_in}
use Rattle.faces.specs.Steps.{Numbered, outer_place}

module _ (s : List ℤ) {n m : ℕ} where
  pub firsts_numbered : Counted (is_first s) (λ i. i) n m → n ≤ record_count s
      → Numbered s (count (is_first s) (places n)) m
  firsts_numbered h l = record { is = h.is; most = omega (arith, h.most) }

  pub outers_numbered : Counted (first_outer s) (λ i. i) n m → n ≤ record_count s → Numbered s (face_number s n) m
  unfolding face_number
  outers_numbered h l = record { is = h.is; most = omega (arith, h.most) }

-- ---- the first

module _ (s : List ℤ) (w : ℕ) where
  abbrev test : ℕ → Bool
  test j = first_outer s j && eqb (start_of s j) w

  module _ {v : Option ℕ} (is : v ≡ outer_place s w) where
    outer_some : {o : ℕ} → v ≡ Some o → (o ≡ outer_in s w) × (o < record_count s)
    unfolding outer_in
    outer_some e = first_place_some test (λ j. j) (sym is ∙ e)

    pub outer_is : {o : ℕ} → v ≡ Some o → o ≡ outer_in s w
    outer_is e = (outer_some e).0

    pub outer_low : {o : ℕ} → v ≡ Some o → o < record_count s
    outer_low e = (outer_some e).1

    pub outer_none : v ≡ None → record_count s ≤ outer_in s w
    unfolding outer_in
    outer_none e = ltb-false _ _ ((first_place_none test (λ j. j) (record_count s)).0 (sym is ∙ e))
