-- Demand 1 of the functions for C and Rust (crate rig), as Questions.antt has it of the questions themselves: each
-- returns, whatever is passed; the number in its answer is 0 or a refusal's; and where it is a refusal's, what was lent
-- is as it was.
--     BoundaryQuestions     so it is of every function
--     boundary-questions    it holds
-- A sample's pressure and row are handed back through what is lent, and are zero where it is refused (document 01,
-- "Gauges"). Assumes nothing.
use mathlib.Core.Path.{◌≡◌, refl, sym, ap, ◌∙◌}
use mathlib.Core.Logic.{inl, inr, ⊎_elim}
use mathlib.Core.Bool.{Bool, true, false, cond}
use mathlib.Core.List.{List}
use Prim.Native.Nat.{ℕ}
use lib.Dec.{eqb}
use lib.IntN.{ℤ}
use lib.Ieee.{Float}
use Rattle.parts.specs.Parts.{head_of}
use Rattle.std.specs.Prelude.{Result, Ok, Err}
use Rattle.chart.specs.declared.ChartRefusal.{ChartRefusal}
use Rattle.chart.specs.Verdicts.{refusal_of}
use Rattle.area.specs.Areas.{area_of}
use Rattle.gauge.specs.declared.Card.TheVariants.{Spring, Bridge}
use Rattle.gauge.specs.Readings.{Sampled}
use Rattle.sides.specs.declared.Op.{Op}
use Rattle.rig.specs.Bits.{number_of}
use Rattle.rig.specs.Answers.{area_left, Combines}
use Rattle.rig.specs.Gauging.{KindGauges, NoCard, SampleRead}
use Rattle.rig.proofs.bz_check.Kinds as bz-check-kinds
use Rattle.rig.proofs.bz_check.Reads as bz-check
use Rattle.rig.proofs.bz_check.Statement as bz-check-statement
use Rattle.rig.proofs.bz_check.Met as bz-check-met
use Rattle.rig.proofs.bz_point.Kinds as bz-point-kinds
use Rattle.rig.proofs.bz_point.Reads as bz-point
use Rattle.rig.proofs.bz_point.Statement as bz-point-statement
use Rattle.rig.proofs.bz_point.Met as bz-point-met
use Rattle.rig.proofs.bz_corner.Kinds as bz-corner-kinds
use Rattle.rig.proofs.bz_corner.Reads as bz-corner
use Rattle.rig.proofs.bz_corner.Statement as bz-corner-statement
use Rattle.rig.proofs.bz_corner.Met as bz-corner-met
use Rattle.rig.proofs.bz_head.Kinds as bz-head-kinds
use Rattle.rig.proofs.bz_head.Reads as bz-head
use Rattle.rig.proofs.bz_head.Statement as bz-head-statement
use Rattle.rig.proofs.bz_head.Met as bz-head-met
use Rattle.rig.proofs.bz_area2.Kinds as bz-area2-kinds
use Rattle.rig.proofs.bz_area2.Reads as bz-area2
use Rattle.rig.proofs.bz_area2.Statement as bz-area2-statement
use Rattle.rig.proofs.bz_area2.Met as bz-area2-met
use Rattle.rig.proofs.bz_faces.Kinds as bz-faces-kinds
use Rattle.rig.proofs.bz_faces.Reads as bz-faces
use Rattle.rig.proofs.bz_faces.Statement as bz-faces-statement
use Rattle.rig.proofs.bz_faces.Met as bz-faces-met
use Rattle.rig.proofs.bz_union.Kinds as bz-union-kinds
use Rattle.rig.proofs.bz_union.Reads as bz-union
use Rattle.rig.proofs.bz_union.Statement as bz-union-statement
use Rattle.rig.proofs.bz_union.Met as bz-union-met
use Rattle.rig.proofs.bz_intersection.Kinds as bz-intersection-kinds
use Rattle.rig.proofs.bz_intersection.Reads as bz-intersection
use Rattle.rig.proofs.bz_intersection.Statement as bz-intersection-statement
use Rattle.rig.proofs.bz_intersection.Met as bz-intersection-met
use Rattle.rig.proofs.bz_difference.Kinds as bz-difference-kinds
use Rattle.rig.proofs.bz_difference.Reads as bz-difference
use Rattle.rig.proofs.bz_difference.Statement as bz-difference-statement
use Rattle.rig.proofs.bz_difference.Met as bz-difference-met
use Rattle.rig.proofs.bz_gauge.Kinds as bz-gauge-kinds
use Rattle.rig.proofs.bz_gauge.Reads as bz-gauge
use Rattle.rig.proofs.bz_gauge.Statement as bz-gauge-statement
use Rattle.rig.proofs.bz_gauge.Met as bz-gauge-met
use Rattle.rig.proofs.bz_read.Kinds as bz-read-kinds
use Rattle.rig.proofs.bz_read.Reads as bz-read
use Rattle.rig.proofs.bz_read.Statement as bz-read-statement
use Rattle.rig.proofs.bz_read.Met as bz-read-met
use Rattle.promises.specs.Endings.{Numbered, Ends}
use Rattle.promises.proofs.Boundary.{check-answer, point-answer, head-answer, area-answer}
use Rattle.promises.proofs.Boundary.{faces-answer, join-answer, read-answer}
use Rattle.promises.proofs.Refusals.{area-refusal}
use Rattle.promises.proofs.EndingLaws.{chart-ends, area-ends, faces-end, join-end, sample-ends, read-end}
use Rattle.promises.proofs.Questions.{Returns, Question, Lending}

pub record BoundaryQuestions : Type 2 where
  pub bz-check : Question 1 bz-check-kinds.ps bz-check-kinds.r bz-check-statement.statement ℕ
      bz-check.Pre bz-check.Post number_of
  pub bz-point : Question 1 bz-point-kinds.ps bz-point-kinds.r bz-point-statement.statement ℕ
      bz-point.Pre bz-point.Post number_of
  -- an answer that gives no number
  pub bz-corner : Returns 1 bz-corner-kinds.ps bz-corner-statement.statement bz-corner.Pre
  pub bz-head : Question 2 bz-head-kinds.ps bz-head-kinds.r bz-head-statement.statement ℕ
      bz-head.Pre bz-head.Post number_of
  pub bz-area2 : Lending 2 bz-area2-kinds.ps bz-area2-kinds.r bz-area2-statement.statement ℕ ℤ
      bz-area2.Pre bz-area2.Post number_of (λ κs a. a.1.0.now) (λ κs s. s.1.0.now)
  pub bz-faces : Lending 3 bz-faces-kinds.ps bz-faces-kinds.r bz-faces-statement.statement ℕ (List ℕ × List ℕ)
      bz-faces.Pre bz-faces.Post number_of
      (λ κs a. (a.1.0.now, a.1.1.0.now)) (λ κs s. (s.1.0.now, s.1.1.0.now))
  pub bz-union : Lending 3 bz-union-kinds.ps bz-union-kinds.r bz-union-statement.statement ℕ (List ℤ)
      bz-union.Pre bz-union.Post number_of (λ κs a. a.1.1.0.now) (λ κs s. s.1.1.0.now)
  pub bz-intersection : Lending 3 bz-intersection-kinds.ps bz-intersection-kinds.r bz-intersection-statement.statement
      ℕ (List ℤ) bz-intersection.Pre bz-intersection.Post number_of
      (λ κs a. a.1.1.0.now) (λ κs s. s.1.1.0.now)
  pub bz-difference : Lending 3 bz-difference-kinds.ps bz-difference-kinds.r bz-difference-statement.statement
      ℕ (List ℤ) bz-difference.Pre bz-difference.Post number_of
      (λ κs a. a.1.1.0.now) (λ κs s. s.1.1.0.now)
  pub bz-gauge : Question 2 bz-gauge-kinds.ps bz-gauge-kinds.r bz-gauge-statement.statement ℕ
      bz-gauge.Pre bz-gauge.Post number_of
  pub bz-read : Lending 2 bz-read-kinds.ps bz-read-kinds.r bz-read-statement.statement ℕ (List ℤ)
      bz-read.Pre bz-read.Post number_of (λ κs a. a.1.0.now) (λ κs s. s.1.0.now)

-- ---- how the answers end

area-left : (s : List ℤ) (lent : ℤ) (k : ℕ) → k ≡ (refusal_of (area_of s)).number
    → Ends ℤ k lent (area_left (area_of s) lent)
area-left s lent k e = go (area_of s) e (rw e (area-ends s))
  where
    go : (a : Result ℤ ChartRefusal) → k ≡ (refusal_of a).number → Numbered k → Ends ℤ k lent (area_left a lent)
    go (Ok z) n h = inl n
    go (Err r) n h = ⊎_elim inl (λ t. inr (t, refl)) h

joins-end : (op : Op) (a b lent out : List ℤ) (n : ℕ) → Combines op a b lent out n
    → Ends (List ℤ) (number_of n) lent out
joins-end op a b lent out n h =
    let number = ap number_of h.says ∙ (join-answer op a b lent).number in
    rw number (join-end op a b lent out _ (record { says = refl; leaves = h.leaves }))

-- a sample of any kind of card
sample-end : (k : ℕ) (x y : Float) (n : ℤ) (r : ℕ) (p : Float) (m : ℤ) → SampleRead k x y n r p m
    → Numbered (number_of r)
unfolding KindGauges
sample-end k x y n r p m h = go (eqb k 0) (eqb k 1) h.reads
  where
    go : (a b : Bool)
        → cond a (Sampled (Spring x y) n (number_of r) p m)
        (cond b (Sampled (Bridge x y) n (number_of r) p m) (NoCard (number_of r) p m))
        → Numbered (number_of r)
    go true b g = rw g.number (sample-ends (Spring x y) n)
    go false true g = rw g.number (sample-ends (Bridge x y) n)
    go false false g = inr (rw g.0 refl)

pub boundary-questions : BoundaryQuestions
boundary-questions = record {
  bz-check = record {
    returns = record { meets = λ M. bz-check-met.met; asks = λ κs a. tt };
    ends = λ κs a v s h. rw (ap number_of h ∙ (check-answer a.0.now).number) (chart-ends a.0.now);
  };
  bz-point = record {
    returns = record { meets = λ M. bz-point-met.met; asks = λ κs a. tt };
    ends = λ κs a v s h. rw (ap number_of h ∙ (point-answer a.0.now _).number) (chart-ends a.0.now);
  };
  bz-corner = record { meets = λ M. bz-corner-met.met; asks = λ κs a. tt };
  bz-head = record {
    returns = record { meets = λ M. bz-head-met.met; asks = λ κs a. tt };
    ends = λ κs a v s h. inl (ap number_of h ∙ (head-answer (head_of a.0.now a.1.0.now)).number);
  };
  bz-area2 = record {
    returns = record { meets = λ M. bz-area2-met.met; asks = λ κs a. tt };
    ends = λ κs a v s h.
        let s = a.0.now in
        let number = ap number_of h.0 ∙ (area-answer s).number ∙ sym (ap (λ r. r.number) (area-refusal s)) in
        rw h.1 (area-left s a.1.0.now (number_of v) number);
  };
  bz-faces = record {
    returns = record { meets = λ M. bz-faces-met.met; asks = λ κs a. tt };
    ends = λ κs a v s h.
        let number = ap number_of h.says ∙ (faces-answer a.0.now a.1.0.now a.1.1.0.now).number in
        rw number (faces-end _ _ _ _ _ _ (record { says = refl; labelled = h.labelled; listed = h.listed }));
  };
  bz-union = record {
    returns = record { meets = λ M. bz-union-met.met; asks = λ κs a. tt };
    ends = λ κs a v s h. joins-end _ _ _ _ _ v h;
  };
  bz-intersection = record {
    returns = record { meets = λ M. bz-intersection-met.met; asks = λ κs a. tt };
    ends = λ κs a v s h. joins-end _ _ _ _ _ v h;
  };
  bz-difference = record {
    returns = record { meets = λ M. bz-difference-met.met; asks = λ κs a. tt };
    ends = λ κs a v s h. joins-end _ _ _ _ _ v h;
  };
  bz-gauge = record {
    returns = record { meets = λ M. bz-gauge-met.met; asks = λ κs a. tt };
    ends = λ κs a v s h. sample-end _ _ _ _ v _ _ h;
  };
  bz-read = record {
    returns = record { meets = λ M. bz-read-met.met; asks = λ κs a. tt };
    ends = λ κs a v s h.
        let number = ap number_of h.says ∙ (read-answer a.0.now a.1.0.now).number in
        rw number (read-end _ _ _ _ (record { says = refl; leaves = h.leaves }));
  };
}
