-- Demand 1, of charts: each question first gives the chart's refusal, and 0 where it is answered.
--     point-refusal, nearest-refusal, area-refusal    so, in the paper's number and index
--     chart-refusals    which are one of 1 to 9, at a record that a chart can have
--     corner-refused    the corner run gives no number: of a refused chart it is empty
-- `inside_by_mark` has the contract of `point`. Assumes nothing.
use mathlib.Core.Path.{◌≡◌, subst}
use mathlib.Core.List.{List, []}
use Prim.Native.Nat.{◌<◌, ◌≤◌}
use denote.Ref.{Bor}
use lib.IntN.{ℤ}
use Rattle.plane.specs.declared.Point.{Point}
use Rattle.parts.specs.Parts.{Part}
use Rattle.std.specs.Prelude.{Err}
use Rattle.chart.specs.declared.ChartRefusal.{ChartRefusal}
use Rattle.chart.specs.Verdicts.{limit, refusal_of, verdict}
use Rattle.chart.proofs.IndexLaws.{verdict-told}
use Rattle.area.specs.Areas.{area_of}
use Rattle.area.proofs.AreaLaws.{area_of-refusal}
use Rattle.question.specs.Places.{placed}
use Rattle.nearest.specs.Nearests.{nearest_below}
use Rattle.question.specs.Corners.{Corner}
use Rattle.question.proofs.RefusalLaws.{placed-refusal}
use Rattle.nearest.proofs.RefusalLaws.{nearest_below-refusal}
use Rattle.question.proofs.CornerLaws.{corner_of-refused}

pub point-refusal : (s : List ℤ) (p : Point) → refusal_of (placed s p) ≡ refusal_of (verdict s)
point-refusal s p = placed-refusal s p

pub nearest-refusal : (s : List ℤ) (p : Point) → refusal_of (nearest_below s p) ≡ refusal_of (verdict s)
nearest-refusal s p = nearest_below-refusal s p

pub area-refusal : (s : List ℤ) → refusal_of (area_of s) ≡ refusal_of (verdict s)
area-refusal s = area_of-refusal s

pub chart-refusals : (s : List ℤ) → ((refusal_of (verdict s)).number ≤ 9) × ((refusal_of (verdict s)).index < limit)
chart-refusals s = let told = verdict-told s in (told.number, told.index)

pub corner-refused : (s : Bor (List ℤ)) (p : Point) (r : Bor (List ℤ)) (q : ChartRefusal) → verdict s.now ≡ Err q
    → Corner s p r → r.now ≡ []
corner-refused s p r q e h = (subst (λ a. Part s a r) (corner_of-refused s.now p e) h).numbers
