-- The three demands, each one theorem, sentence by sentence: the page to open first.
--     demand-1     each question, and each function for C and Rust, ends with an answer or a numbered refusal. Of the
--                  latter it is over rig's; rig_c exports each with the same promise, and no crate can name an export
--     Demand2, demand-2     a chart is accepted exactly when it is a region; answers follow document 01's rules and are
--                  pinned down
--     Demand3, demand-3     the nearest boundary's mark; combined charts
-- They are over document 01's definitions and over the functions' own promises (`Lists`, `Joins`, and `Post` behind
-- `Questions` and `Pinned`). What else is promised: Promises.antt of charts, and the pages that it names.
-- Assumes nothing.
use mathlib.Core.Path.{◌≡◌, refl}
use mathlib.Core.Logic.{◌↔◌}
use mathlib.Core.Bool.{false, cond}
use mathlib.Core.List.{List, ◌++◌}
use Prim.Native.Nat.{ℕ, ◌*◌}
use lib.IntN.{ℤ}
use lib.ListN.{length, take, drop}
use Rattle.counts.specs.Count.{odd}
use Rattle.plane.specs.declared.Point.{Point}
use Rattle.record.specs.Records.{width, records}
use Rattle.std.specs.Prelude.{Ok}
use Rattle.chart.specs.Verdicts.{verdict}
use Rattle.chart.specs.Regions.{Region}
use Rattle.region.specs.Boundaries.{held, below}
use Rattle.question.specs.declared.Place.TheVariants.{Outside, Inside, Edge}
use Rattle.question.specs.Places.{by_count, is_inside, placed}
use Rattle.nearest.specs.Nearests.{nearest_below, by_mark}
use Rattle.walks.specs.Cycles.{cycle_count}
use Rattle.walks.specs.Faces.{face_count}
use Rattle.faces.specs.declared.answer.FaceCounts.{FaceCounts}
use Rattle.faces.specs.Lists.{labels_of, cycle_list, Lists}
use Rattle.combined.specs.Results.{numbers}
use Rattle.sides.specs.declared.Op.{Op}
use Rattle.sides.specs.Operations.{joined_by}
use Rattle.join.specs.Joinings.{result_of, Joins}
use Rattle.promises.proofs.Questions.{Questions, questions}
use Rattle.promises.proofs.BoundaryQuestions.{BoundaryQuestions, boundary-questions}
use Rattle.promises.proofs.Promises.{acceptance, point-counted, nearest-boundary, combined-charts}
use Rattle.promises.proofs.Faces.{faces-listed}
use Rattle.promises.proofs.Joining.{join-records}
use Rattle.promises.proofs.Outcomes.{Pinned, pinned}

-- ---- demand 1

-- Whatever numbers or bytes arrive, each question ends with an answer or a numbered refusal of document 01. Callers
-- check nothing first. A refused question leaves the lent arrays untouched.
pub demand-1 : Questions × BoundaryQuestions
demand-1 = (questions, boundary-questions)

-- ---- demand 2

pub record Demand2 : Type 0 where
  -- A chart is accepted exactly when it is a region as document 01 lays it out.
  pub accepted : (s : List ℤ) → (verdict s ≡ Ok tt) ↔ Region s
  -- Inside, outside and edge follow from the boundaries counted below a point;
  pub counted : (s : List ℤ) (p : Point) → Region s
      → placed s p ≡ Ok (cond (held (records s) p) Edge (cond (odd (below (records s) p)) Inside Outside))
  -- faces, holes
  pub listed : (s : List ℤ) (labels cycles labels' cycles' : List ℕ) (c : FaceCounts)
      → Lists s labels cycles labels' cycles' (Ok c)
      → (c.cycles ≡ cycle_count s) × (c.faces ≡ face_count s)
      × (labels' ≡ labels_of s ++ drop (length (labels_of s)) labels)
      × (cycles' ≡ cycle_list s ++ drop (length (cycle_list s)) cycles)
  -- and combined charts follow from document 01's rules,
  pub combined : (op : Op) (a b lent out : List ℤ) (n : ℕ) → Joins op a b lent out (Ok n)
      → (n ≡ length (result_of op a b)) × (take (width * n) out ≡ numbers (result_of op a b))
      × (drop (width * n) out ≡ drop (width * n) lent)
  -- and every answer is pinned down: any two outcomes that one promise allows coincide.
  pub pins : Pinned

pub demand-2 : Demand2
demand-2 = record {
  accepted = acceptance;
  counted = point-counted;
  listed = λ s labels cycles labels' cycles' c lists.
      let l = faces-listed s labels cycles labels' cycles' c lists in
      (l.0, l.1, lists.labelled, lists.listed);
  combined = λ op a b lent out n joins.
      let j = join-records op a b lent out (Ok n) joins n refl in (j.0, j.2, j.3);
  pins = pinned;
}

-- ---- demand 3

pub record Demand3 : Type 0 where
  -- For any accepted chart and any grid point off its boundary, the side mark of the nearest boundary straight below
  -- gives the same answer as counting all boundaries below, or outside where there is none.
  pub nearest : (s : List ℤ) → verdict s ≡ Ok tt → (p : Point) → held (records s) p ≡ false
      → by_mark s (nearest_below s p) ≡ Ok (by_count (records s) p)
  -- When two accepted charts are combined without refusal, the result is itself accepted, and at every grid point on
  -- neither boundary it says inside exactly when the two charts' answers joined by or, and, or and-not say so.
  pub combined : (op : Op) (a b : List ℤ) → verdict a ≡ Ok tt → verdict b ≡ Ok tt
      → (lent out : List ℤ) (n : ℕ) → Joins op a b lent out (Ok n)
      → (verdict (take (width * n) out) ≡ Ok tt)
      × ((p : Point) → held (records a) p ≡ false → held (records b) p ≡ false
      → is_inside (placed (take (width * n) out) p) ≡ joined_by op (is_inside (placed a p)) (is_inside (placed b p)))

pub demand-3 : Demand3
demand-3 = record { nearest = nearest-boundary; combined = combined-charts }
