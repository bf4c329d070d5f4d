-- Where a point lies, as a program finds it (specs/Places.antt): from what its loops answer over the first n records.
--     place_by-edge, place_by-inside, place_by-outside  case by case
--     held-there                                        whether a segment holds it, by the first that does
--     below-odd                                         the parity below it by the count
--     placed-accepted, placed-refused                   by the verdict
-- Assumes nothing.
use mathlib.Core.Path.{◌≡◌, sym, ap, ap₂, ◌∙◌}
use mathlib.Core.Bool.{Bool, true, false}
use mathlib.Core.List.{List}
use Prim.Native.Nat.{ℕ, ◌%◌}
use lib.Dec.{ltb, eqb}
use lib.IntN.{ℤ}
use Rattle.counts.specs.Count.{odd}
use Rattle.counts.specs.Scan.{Found, Counted}
use Rattle.counts.proofs.ReadLaws.{found-any}
use Rattle.plane.specs.declared.Point.{Point}
use Rattle.plane.specs.Columns.{holds}
use Rattle.record.specs.Records.{record_at, record_count, first_records, records}
use Rattle.segment.specs.Segments.{of_segment}
use Rattle.std.specs.Prelude.{Ok, Err}
use Rattle.chart.specs.declared.ChartRefusal.{ChartRefusal}
use Rattle.chart.specs.Verdicts.{Verdict, verdict, answered}
use Rattle.region.specs.Boundaries.{held, counted, below}
use Rattle.question.specs.declared.Place.{Place}
use Rattle.question.specs.declared.Place.TheVariants as place
use Rattle.question.specs.Places.{place_by, place_of, placed}

pub place_by-edge : {e : Bool} (b : Bool) → e ≡ true → place.Edge ≡ place_by e b
place_by-edge b h = rw h

module _ {e b : Bool} (off : e ≡ false) where
  pub place_by-inside : b ≡ true → place.Inside ≡ place_by e b
  place_by-inside h = rw (off, h)

  pub place_by-outside : b ≡ false → place.Outside ≡ place_by e b
  place_by-outside h = rw (off, h)

pub held-there : (s : List ℤ) (p : Point) {i : ℕ} → Found (of_segment (holds p)) (record_at s) 0 (record_count s) i
    → ltb i (record_count s) ≡ held (records s) p
held-there s p h = found-any (of_segment (holds p)) (record_at s) h

pub below-odd : (s : List ℤ) (n : ℕ) (p : Point) {m : ℕ} → Counted (counted p) (record_at s) n m
    → eqb (m % 2) 1 ≡ odd (below (first_records s n) p)
below-odd s n p c = ap odd c.is

module _ (s : List ℤ) (p : Point) {v : Verdict} (h : v ≡ verdict s) where
  pub placed-accepted : {q : Point} {e b : Bool} {a : Place} → v ≡ Ok tt → q ≡ p → e ≡ held (records s) q
      → b ≡ odd (below (records s) q) → a ≡ place_by e b → Ok a ≡ placed s p
  unfolding placed place_of
  placed-accepted {q} g d k m f =
      ap Ok (f ∙ ap₂ place_by k m ∙ ap (place_of (records s)) d)
      ∙ ap (λ v. answered v (place_of (records s) p)) (sym g ∙ h)

  pub placed-refused : {r : ChartRefusal} → v ≡ Err r → Err r ≡ placed s p
  unfolding placed
  placed-refused e = ap (λ v. answered v (place_of (records s) p)) (sym e ∙ h)
