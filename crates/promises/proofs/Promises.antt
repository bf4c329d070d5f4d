-- What the library promises of charts. Each statement is over document 01's definitions, and never over a program; that
-- each function answers what its definition says is its own contract, proved beside it. The three demands, each as one
-- theorem: Demands.antt.
--     acceptance          demand 2: a chart is accepted exactly when it is a region
--     empty-accepted      the empty chart is one
--     point-counted       demand 2: Inside, Outside and Edge follow from the segments counted below a point
--     nearest-boundary    demand 3, first part: the side mark of the nearest boundary below says what the count says
--     named-inside, nothing-outside    so where `nearest below` names a record its mark tells Inside from Outside, and
--                         where it names none the point is Outside
--     nearest-single      there is one nearest boundary at the most, so its mark is one
--     combined-charts     demand 3, second part: what two charts combined give is itself accepted, and answers as the
--                         two do
--     corner-run, corner-records    the corner run of a region is its run there: the records at that corner and no
--                         others
-- Demand 1, that each question first gives the chart's refusal: Refusals.antt. What is promised of joining beyond that,
-- and of any number of charts: Joining.antt; of gauges: Gauges.antt.
-- That any two outcomes of one promise coincide: Outcomes.antt for the questions, LeafOutcomes.antt for the functions
-- below them. The starred bench examples under a single statement: Examples.antt. What goes wrong where a rule of
-- counting is dropped: Slips.antt.
-- Assumes nothing.
use mathlib.Core.Path.{◌≡◌, refl, sym, ap, ◌∙◌, subst}
use mathlib.Core.Logic.{◌↔◌}
use mathlib.Core.Bool.{Bool, true, false, cond, true≢false}
use mathlib.Core.List.{List, [], ◌∷◌}
use Prim.Native.Nat.{ℕ, ◌*◌, ◌<◌, ◌≤◌, zero-le}
use native.Mathlib.Omega.{arith}
use denote.Ref.{Bor}
use lib.Dec.{eqb}
use lib.IntN.{ℤ}
use lib.ListN.{length, take}
use borrow.Author.Tests.{eqb-true, eqb-false}
use Rattle.counts.specs.Count.{◌∈◌, odd}
use Rattle.counts.proofs.ListedLaws.{mem-listed}
use Rattle.plane.specs.declared.Point.{Point}
use Rattle.record.specs.Records.{width, record_at, record_count, records, marked}
use Rattle.parts.specs.Parts.{Part, at_corner, run_of, Run}
use Rattle.parts.proofs.RunLaws.{run_only, run-all}
use Rattle.std.specs.Prelude.{Some, None, Result, Ok}
use Rattle.chart.specs.declared.ChartRefusal.{ChartRefusal}
use Rattle.chart.specs.Verdicts.{limit, judged, verdict, answered}
use Rattle.chart.specs.Regions.{Region}
use Rattle.chart.proofs.RegionLaws.{accepted-is}
use Rattle.chart.proofs.OnceLaws.{region-place}
use Rattle.region.specs.Boundaries.{held, below, nearest}
use Rattle.region.proofs.MarkLaws.{nearest-one}
use Rattle.question.specs.declared.Place.TheVariants.{Outside, Inside, Edge}
use Rattle.question.specs.declared.Place.{Place}
use Rattle.question.specs.Places.{by_count, is_inside, place_of, placed}
use Rattle.nearest.specs.Nearests.{nearest_of, nearest_below, by_mark}
use Rattle.question.specs.Corners.{Corner}
use Rattle.question.proofs.CornerLaws.{corner_of-accepted}
use Rattle.nearest.proofs.ByMarkLaws.{by_mark-by_count}
use Rattle.combined.specs.Together.{Together}
use Rattle.combined.proofs.SoundLaws.{result-region}
use Rattle.combined.proofs.PlaceLaws.{result-place}
use Rattle.sides.specs.declared.Op.{Op}
use Rattle.sides.specs.Operations.{joined_by, joining}
use Rattle.join.specs.Joinings.{result_of, Joins}
use Rattle.join.proofs.MarkLaws.{of-both, two-together, joining-none}
use Rattle.join.proofs.OutcomeLaws.{Combined, joins-combined}

-- ---- demand 2

pub acceptance : (s : List ℤ) → (verdict s ≡ Ok tt) ↔ Region s
acceptance = accepted-is

pub empty-accepted : verdict [] ≡ Ok tt
unfolding verdict judged
empty-accepted = refl

pub point-counted : (s : List ℤ) (p : Point) → Region s
    → placed s p ≡ Ok (cond (held (records s) p) Edge (cond (odd (below (records s) p)) Inside Outside))
unfolding placed place_of
point-counted s p g = ap (λ v. answered v (place_of (records s) p)) ((accepted-is s).1 g)

-- ---- demand 3, first part

-- line by line as the demand has it; the law behind it, `by_mark-by_count`, asks nothing of the point
pub nearest-boundary :
    -- For any accepted chart
    (s : List ℤ) → verdict s ≡ Ok tt
    -- and any grid point off its boundary,
    → (p : Point) → held (records s) p ≡ false
    -- the side mark of the nearest boundary straight below (as document 01 picks it), or Outside where there is none,
    → by_mark s (nearest_below s p)
    -- gives the same answer as counting all boundaries below.
    ≡ Ok (by_count (records s) p)
unfolding nearest_below
nearest-boundary s e p off =
    ap (λ v. by_mark s (answered v (nearest_of s (record_count s) p))) e
    ∙ by_mark-by_count s (record_count s) p ((accepted-is s).0 e).sound

module _ (s : List ℤ) (e : verdict s ≡ Ok tt) (p : Point) (off : held (records s) p ≡ false) where
  by-nearest : placed s p ≡ by_mark s (nearest_below s p)
  by-nearest =
      point-counted s p ((accepted-is s).0 e) ∙ ap (λ b. Ok (cond b Edge (by_count (records s) p))) off
      ∙ sym (nearest-boundary s e p off)

  pub named-inside : (i : ℕ) → nearest_below s p ≡ Ok (Some i)
      → (placed s p ≡ Ok Inside) ↔ ((record_at s i).mark ≡ marked)
  named-inside i h = rw (by-nearest ∙ ap (by_mark s) h) (by-test (eqb (record_at s i).mark marked) refl)
    where
      by-test : (b : Bool) → eqb (record_at s i).mark marked ≡ b
          → (◌≡◌ {A = Result Place ChartRefusal} (Ok (cond b Inside Outside)) (Ok Inside))
          ↔ ((record_at s i).mark ≡ marked)
      by-test true g = ((λ a. eqb-true _ _ g), (λ m. refl))
      by-test false g = ((λ a. absurd (true≢false (sym (ap is_inside a)))), (λ m. absurd (eqb-false _ _ g m)))

  pub nothing-outside : nearest_below s p ≡ Ok None → placed s p ≡ Ok Outside
  nothing-outside h = by-nearest ∙ ap (by_mark s) h

pub nearest-single : (s : List ℤ) (p : Point) → Region s → (i j : ℕ) → i < record_count s → j < record_count s
    → nearest (records s) p (record_at s i) ≡ true → nearest (records s) p (record_at s j) ≡ true → i ≡ j
nearest-single s p g i j l h m n = region-place g i j l h (nearest-one g.sound p _ _ (member j h) (member i l) n m)
  where
    member : (k : ℕ) → k < record_count s → record_at s k ∈ records s
    member k l = mem-listed (record_at s) 0 (record_count s) k zero-le (omega arith)

-- ---- demand 3, second part

pub combined-charts :
    -- When two accepted charts
    (op : Op) (a b : List ℤ) → verdict a ≡ Ok tt → verdict b ≡ Ok tt
    -- are combined without refusal,
    → (lent out : List ℤ) (n : ℕ) → Joins op a b lent out (Ok n)
    -- the result is itself accepted,
    → (verdict (take (width * n) out) ≡ Ok tt)
    -- and at every grid point on neither boundary
    × ((p : Point) → held (records a) p ≡ false → held (records b) p ≡ false
    -- it says inside exactly when
    → is_inside (placed (take (width * n) out) p)
    -- the two charts' answers joined by or, and, or and-not say so.
    ≡ joined_by op (is_inside (placed a p)) (is_inside (placed b p)))
combined-charts op a b v w lent out n joins = (
  ap verdict c.is ∙ (accepted-is _).1 (result-region together (joining op) (joining-none op) few),
  λ p off_a off_b.
      ap (λ s. is_inside (placed s p)) c.is
      ∙ ap is_inside (result-place together (joining op) (joining-none op) p
      (of-both (λ s. held (records s) p ≡ false) off_a off_b) few)
      ∙ by_side (joined_by op (is_inside (placed a p)) (is_inside (placed b p))),
)
  where
    c : Combined op a b lent out n
    c = joins-combined op a b lent out joins refl

    together : Together (a ∷ b ∷ [])
    together = two-together a b c.met.first c.met.second c.met.apart

    few : length (result_of op a b) ≤ limit
    few = c.met.few

    by_side : (t : Bool) → is_inside (Ok (cond t Inside Outside)) ≡ t
    by_side true = refl
    by_side false = refl

-- ---- the corner run

pub corner-run : (s : Bor (List ℤ)) (p : Point) (r : Bor (List ℤ)) → Region s.now → Corner s p r → Run s p r
corner-run s p r g h = subst (λ a. Part s a r) (corner_of-accepted s.now p ((accepted-is s.now).1 g)) h

pub corner-records : (s : List ℤ) (p : Point) (i : ℕ) → Region s → i < record_count s
    → (at_corner p (record_at s i) ≡ true) ↔ (((run_of s p).from ≤ width * i) × (width * i < (run_of s p).upto))
corner-records s p i g l = ((λ e. run-all s p g.ordered i l e), (λ h. run_only s p i h.0 h.1))
