-- The nearest below, as a program finds it (specs/Nearests.antt): from what its loops answer over the first n records.
--     higher_below-counted, -uncounted     by whether the record's segment is counted below the point
--     nearest_of-at, nearest_of-nothing    by the first place of the nearest
--     nearest_below-accepted, -refused     by the verdict
-- Assumes nothing.
use mathlib.Core.Path.{◌≡◌, sym, ap, ◌∙◌}
use mathlib.Core.Bool.{Bool, true, false, ◌&&◌, cond}
use mathlib.Core.List.{List}
use Prim.Native.Nat.{ℕ, ◌<◌, ◌≤◌}
use lib.Dec.{ltb}
use lib.IntN.{ℤ}
use borrow.Author.Tests.{lt-ltb, le-ltb}
use Rattle.counts.specs.Scan.{Found}
use Rattle.plane.specs.declared.Point.{Point}
use Rattle.plane.specs.declared.Segment.{Segment}
use Rattle.plane.specs.Columns.{higher}
use Rattle.record.specs.declared.Record.{Record}
use Rattle.record.specs.Records.{record_at, record_count, first_records}
use Rattle.segment.specs.Segments.{segment}
use Rattle.std.specs.Prelude.{Option, Some, None, Ok, Err}
use Rattle.chart.specs.declared.ChartRefusal.{ChartRefusal}
use Rattle.chart.specs.Verdicts.{Verdict, verdict, answered}
use Rattle.region.specs.Boundaries.{counted, higher_below, nearest}
use Rattle.nearest.specs.Nearests.{nearest_of, nearest_below}

module _ (p : Point) (t : Segment) (e : Record) {b : Bool} (h : b ≡ counted p e) where
  pub higher_below-counted : {u : Segment} {a : Bool} → b ≡ true → u ≡ segment e → a ≡ higher p.x u t
      → a ≡ higher_below p t e
  higher_below-counted y d f =
      f ∙ ap (λ u. higher p.x u t) d ∙ ap (λ b. b && higher p.x (segment e) t) (sym y ∙ h)

  pub higher_below-uncounted : b ≡ false → b ≡ higher_below p t e
  higher_below-uncounted y = y ∙ ap (λ b. b && higher p.x (segment e) t) (sym y ∙ h)

module _ (s : List ℤ) (n : ℕ) (p : Point) {i : ℕ} (h : Found (nearest (first_records s n) p) (record_at s) 0 n i) where
  pub nearest_of-at : i < n → Some i ≡ nearest_of s n p
  unfolding nearest_of
  nearest_of-at l =
      ap (λ b. cond b (Some i) None) (sym (lt-ltb i n l))
      ∙ ap (λ i. cond (ltb i n) (Some i) None) h.is

  pub nearest_of-nothing : n ≤ i → None ≡ nearest_of s n p
  unfolding nearest_of
  nearest_of-nothing l =
      ap (λ b. cond b (Some i) None) (sym (le-ltb i n l))
      ∙ ap (λ i. cond (ltb i n) (Some i) None) h.is

module _ (s : List ℤ) (p : Point) {v : Verdict} (h : v ≡ verdict s) where
  pub nearest_below-accepted : {q : Point} {a : Option ℕ} → v ≡ Ok tt → q ≡ p
      → a ≡ nearest_of s (record_count s) q → Ok a ≡ nearest_below s p
  unfolding nearest_below
  nearest_below-accepted e d f =
      ap Ok (f ∙ ap (nearest_of s (record_count s)) d)
      ∙ ap (λ v. answered v (nearest_of s (record_count s) p)) (sym e ∙ h)

  pub nearest_below-refused : {r : ChartRefusal} → v ≡ Err r → Err r ≡ nearest_below s p
  unfolding nearest_below
  nearest_below-refused e = ap (λ v. answered v (nearest_of s (record_count s) p)) (sym e ∙ h)
