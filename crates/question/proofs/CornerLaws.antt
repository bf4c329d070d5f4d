-- Laws of the run at a corner of a chart (specs/Corners.antt).
--     corner_of-accepted, corner_of-refused  by the verdict
--     corner-within                          it lies in the array; its halves, corner_rises and corner_ends
--     corner-short                           and no further than the longest chart goes
-- Assumes nothing.
use mathlib.Core.Path.{◌≡◌, refl}
use mathlib.Core.Bool.{Bool, true, false, cond}
use mathlib.Core.List.{List}
use Prim.Native.Nat.{◌*◌, ◌≤◌, zero-le}
use native.Mathlib.Omega.{arith}
use lib.IntN.{ℤ}
use lib.ListN.{length}
use Rattle.plane.specs.declared.Point.{Point}
use Rattle.record.specs.Records.{width}
use Rattle.parts.specs.declared.Span.{Span}
use Rattle.parts.specs.Parts.{nowhere, run_of}
use Rattle.parts.proofs.PartLaws.{Within, run-within}
use Rattle.std.specs.Prelude.{Ok, Err}
use Rattle.chart.specs.declared.ChartRefusal.{ChartRefusal}
use Rattle.chart.specs.Verdicts.{Verdict, limit, verdict, accepted}
use Rattle.chart.proofs.VerdictLaws.{verdict-accepted}
use Rattle.question.specs.Corners.{corner_of}

module _ (s : List ℤ) (p : Point) where
  pub corner_of-accepted : verdict s ≡ Ok tt → corner_of s p ≡ run_of s p
  unfolding corner_of
  corner_of-accepted e = rw e

  pub corner_of-refused : {q : ChartRefusal} → verdict s ≡ Err q → corner_of s p ≡ nowhere
  unfolding corner_of
  corner_of-refused e = rw e

  pub corner-within : {a : Span} → a ≡ corner_of s p → Within s a
  unfolding corner_of
  corner-within e = rw e (go (accepted s))
    where
      go : (b : Bool) → Within s (cond b (run_of s p) nowhere)
      go true = run-within s p refl
      go false = (zero-le, zero-le)

  -- the two halves of that, for a function that cuts by the run
  pub corner_rises : (corner_of s p).from ≤ (corner_of s p).upto
  corner_rises = (corner-within refl).0

  pub corner_ends : (corner_of s p).upto ≤ length s
  corner_ends = (corner-within refl).1

  pub corner-short : {a : Span} → a ≡ corner_of s p → a.upto ≤ width * limit
  corner-short e = rw e (go (verdict s) refl)
    where
      go : (v : Verdict) → verdict s ≡ v → (corner_of s p).upto ≤ width * limit
      go (Ok tt) h =
          let few = (verdict-accepted s).0 h in
          rw (corner_of-accepted h)
          (omega (arith, (run-within s p {a = run_of s p} refl).1, few.few, few.whole))
      go (Err q) h = rw (corner_of-refused h) zero-le
