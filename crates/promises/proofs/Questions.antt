-- Demand 1, question by question: "Whatever numbers or bytes arrive, each question ends with an answer or a numbered
-- refusal of document 01. Callers check nothing first. A refused question leaves the lent arrays untouched."
--     Returns n ps S Pre      a function with the statement S that it meets its promise: it returns, whatever is passed
--     Question n ps r S A Pre Post number    and each of its outcomes has the number 0 or a refusal's
--     Lending n ps r S A B Pre Post number before after    and if it has a refusal's, the B that was lent is as it was
--     Questions               so it is of every question
--     questions               it holds
-- The functions for C and Rust: BoundaryQuestions.antt. That no other public function asks anything of its caller
-- either: Outcomes.antt and LeafOutcomes.antt. Assumes nothing.
use mathlib.Core.List.{List}
use Prim.Native.Nat.{ℕ}
use lib.IntN.{ℤ}
use contract.Lifetimes.{Lfts}
use denote.Triple.Clauses.{AtExit}
use borrow.Fn.Kinds.{ParamKind, ResultKind, ended_of, Dens, In}
use Rattle.std.specs.Prelude.{Option, Result}
use Rattle.chart.specs.declared.ChartRefusal.{ChartRefusal}
use Rattle.chart.specs.Verdicts.{Verdict, refusal_of}
use Rattle.question.specs.declared.Place.{Place}
use Rattle.faces.specs.Lists.{FaceList, list_refusal}
use Rattle.join.specs.Joinings.{Joined, join_refusal}
use Rattle.gauge.specs.Readings as gauge
use Rattle.gauge.specs.Readings.{Gauged}
use Rattle.file.specs.Answers.{Answer, read_refusal}
use Rattle.chart.proofs.check.Kinds as check-kinds
use Rattle.chart.proofs.check.Reads as check
use Rattle.chart.proofs.check.Statement as check-statement
use Rattle.chart.proofs.check.Met as check-met
use Rattle.question.proofs.point.Kinds as point-kinds
use Rattle.question.proofs.point.Reads as point
use Rattle.question.proofs.point.Statement as point-statement
use Rattle.question.proofs.point.Met as point-met
use Rattle.nearest.proofs.inside_by_mark.Kinds as inside-by-mark-kinds
use Rattle.nearest.proofs.inside_by_mark.Reads as inside-by-mark
use Rattle.nearest.proofs.inside_by_mark.Statement as inside-by-mark-statement
use Rattle.nearest.proofs.inside_by_mark.Met as inside-by-mark-met
use Rattle.nearest.proofs.nearest_below.Kinds as nearest-below-kinds
use Rattle.nearest.proofs.nearest_below.Reads as nearest-below
use Rattle.nearest.proofs.nearest_below.Statement as nearest-below-statement
use Rattle.nearest.proofs.nearest_below.Met as nearest-below-met
use Rattle.area.proofs.area2.Kinds as area2-kinds
use Rattle.area.proofs.area2.Reads as area2
use Rattle.area.proofs.area2.Statement as area2-statement
use Rattle.area.proofs.area2.Met as area2-met
use Rattle.question.proofs.corner.Kinds as corner-kinds
use Rattle.question.proofs.corner.Reads as corner
use Rattle.question.proofs.corner.Statement as corner-statement
use Rattle.question.proofs.corner.Met as corner-met
use Rattle.parts.proofs.smaller_head.Kinds as smaller-head-kinds
use Rattle.parts.proofs.smaller_head.Reads as smaller-head
use Rattle.parts.proofs.smaller_head.Statement as smaller-head-statement
use Rattle.parts.proofs.smaller_head.Met as smaller-head-met
use Rattle.faces.proofs.faces.Kinds as faces-kinds
use Rattle.faces.proofs.faces.Reads as faces
use Rattle.faces.proofs.faces.Statement as faces-statement
use Rattle.faces.proofs.faces.Met as faces-met
use Rattle.join.proofs.combine.Kinds as combine-kinds
use Rattle.join.proofs.combine.Reads as combine
use Rattle.join.proofs.combine.Statement as combine-statement
use Rattle.join.proofs.combine.Met as combine-met
use Rattle.gauge.proofs.read_sample.Kinds as read-sample-kinds
use Rattle.gauge.proofs.read_sample.Reads as read-sample
use Rattle.gauge.proofs.read_sample.Statement as read-sample-statement
use Rattle.gauge.proofs.read_sample.Met as read-sample-met
use Rattle.file.proofs.read.Kinds as read-kinds
use Rattle.file.proofs.read.Reads as read
use Rattle.file.proofs.read.Statement as read-statement
use Rattle.file.proofs.read.Met as read-met
use Rattle.promises.specs.Endings.{Numbered, Ends}
use Rattle.promises.proofs.EndingLaws.{chart-ends, place-ends, nearest-ends, area-ends}
use Rattle.promises.proofs.EndingLaws.{faces-end, join-end, sample-ends, read-end}
use Rattle.promises.proofs.Settled.{Open}

pub record Returns (n : ℕ) (ps : List (ParamKind n)) (S : Type 1 → Type 2) (Pre : In n ps) : Type 2 where
  pub meets : (M : Type 1) → S M
  pub asks : Open n ps Pre

pub record Question (n : ℕ) (ps : List (ParamKind n)) (r : ResultKind n) (S : Type 1 → Type 2) (A : Type 0)
    (Pre : In n ps)
    (Post : (κs : Lfts n) → Dens κs ps → A → AtExit (ended_of n ps r) κs → Type 0) (number : A → ℕ) : Type 2 where
  pub returns : Returns n ps S Pre
  pub ends : (κs : Lfts n) (a : Dens κs ps) (v : A) (s : AtExit (ended_of n ps r) κs) → Post κs a v s
      → Numbered (number v)

pub record Lending (n : ℕ) (ps : List (ParamKind n)) (r : ResultKind n) (S : Type 1 → Type 2) (A B : Type 0)
    (Pre : In n ps)
    (Post : (κs : Lfts n) → Dens κs ps → A → AtExit (ended_of n ps r) κs → Type 0) (number : A → ℕ)
    (before : (κs : Lfts n) → Dens κs ps → B) (after : (κs : Lfts n) → AtExit (ended_of n ps r) κs → B) : Type 2 where
  pub returns : Returns n ps S Pre
  pub ends : (κs : Lfts n) (a : Dens κs ps) (v : A) (s : AtExit (ended_of n ps r) κs) → Post κs a v s
      → Ends B (number v) (before κs a) (after κs s)

pub record Questions : Type 2 where
  pub check : Question 1 check-kinds.ps check-kinds.r check-statement.statement Verdict check.Pre check.Post
      (λ v. (refusal_of v).number)
  pub point : Question 1 point-kinds.ps point-kinds.r point-statement.statement
      (Result Place ChartRefusal) point.Pre point.Post (λ v. (refusal_of v).number)
  pub inside-by-mark : Question 1 inside-by-mark-kinds.ps inside-by-mark-kinds.r inside-by-mark-statement.statement
      (Result Place ChartRefusal) inside-by-mark.Pre inside-by-mark.Post (λ v. (refusal_of v).number)
  pub nearest-below : Question 1 nearest-below-kinds.ps nearest-below-kinds.r nearest-below-statement.statement
      (Result (Option ℕ) ChartRefusal) nearest-below.Pre nearest-below.Post (λ v. (refusal_of v).number)
  pub area2 : Question 1 area2-kinds.ps area2-kinds.r area2-statement.statement
      (Result ℤ ChartRefusal) area2.Pre area2.Post (λ v. (refusal_of v).number)
  pub read-sample : Question 0 read-sample-kinds.ps read-sample-kinds.r read-sample-statement.statement
      Gauged read-sample.Pre read-sample.Post gauge.refusal_number
  -- these two hand back a part and give no number
  pub corner : Returns 1 corner-kinds.ps corner-statement.statement corner.Pre
  pub smaller-head : Returns 1 smaller-head-kinds.ps smaller-head-statement.statement smaller-head.Pre
  -- these are lent arrays: the labels and the cycles; what combined charts are written into; what a file is read into
  pub faces : Lending 3 faces-kinds.ps faces-kinds.r faces-statement.statement FaceList (List ℕ × List ℕ)
      faces.Pre faces.Post (λ v. (list_refusal v).number)
      (λ κs a. (a.1.0.now, a.1.1.0.now)) (λ κs s. (s.1.0.now, s.1.1.0.now))
  pub combine : Lending 3 combine-kinds.ps combine-kinds.r combine-statement.statement Joined (List ℤ)
      combine.Pre combine.Post (λ v. (join_refusal v).number)
      (λ κs a. a.1.1.1.0.now) (λ κs s. s.1.1.1.0.now)
  pub read : Lending 2 read-kinds.ps read-kinds.r read-statement.statement Answer (List ℤ)
      read.Pre read.Post (λ v. (read_refusal v).number) (λ κs a. a.1.0.now) (λ κs s. s.1.0.now)

pub questions : Questions
questions = record {
  check = record {
    returns = record { meets = λ M. check-met.met; asks = λ κs a. tt };
    ends = λ κs a v s h. rw h (chart-ends a.0.now);
  };
  point = record {
    returns = record { meets = λ M. point-met.met; asks = λ κs a. tt };
    ends = λ κs a v s h. rw h (place-ends a.0.now _);
  };
  inside-by-mark = record {
    returns = record { meets = λ M. inside-by-mark-met.met; asks = λ κs a. tt };
    ends = λ κs a v s h. rw h (place-ends a.0.now _);
  };
  nearest-below = record {
    returns = record { meets = λ M. nearest-below-met.met; asks = λ κs a. tt };
    ends = λ κs a v s h. rw h (nearest-ends a.0.now _);
  };
  area2 = record {
    returns = record { meets = λ M. area2-met.met; asks = λ κs a. tt };
    ends = λ κs a v s h. rw h (area-ends a.0.now);
  };
  read-sample = record {
    returns = record { meets = λ M. read-sample-met.met; asks = λ κs a. tt };
    ends = λ κs a v s h. rw h.number (sample-ends _ _);
  };
  corner = record { meets = λ M. corner-met.met; asks = λ κs a. tt };
  smaller-head = record { meets = λ M. smaller-head-met.met; asks = λ κs a. tt };
  faces = record {
    returns = record { meets = λ M. faces-met.met; asks = λ κs a. tt };
    ends = λ κs a v s h. faces-end _ _ _ _ _ v h;
  };
  combine = record {
    returns = record { meets = λ M. combine-met.met; asks = λ κs a. tt };
    ends = λ κs a v s h. join-end _ _ _ _ _ v h;
  };
  read = record {
    returns = record { meets = λ M. read-met.met; asks = λ κs a. tt };
    ends = λ κs a v s h. read-end _ _ _ v h;
  };
}
