-- Nothing is asked of a question's caller, and any two outcomes that its promise allows coincide. Where it writes into
-- a lent array, so does what the array then holds.
--     same-check, same-point, same-nearest-below, same-inside-by-mark, same-area2    the answer
--     point-by-mark     and what `point` and `inside_by_mark` answer is one
--     same-read-sample  the refusal's number, the pressure as a float and the row, for every card and sample
--     same-read         the answer and the lent array, for every file and array
--     same-combine      the answer and the lent array, for every two arrays and every array lent
--     same-faces        the answer and both lent arrays, for every array and every two arrays lent
--     same-joins        or, and, and-not
--     same-take-number, same-signed-of    one number of a file
--     same-corner, same-run-at, same-smaller-head               the part: its numbers, the array it lies in, its place
--     same-corner-of, same-run-of, same-head-of                 where it lies, and which array holds it
--     Pinned, pinned    all of it of the questions, under a single statement
-- The functions of the boundary: Boundary.antt.
-- Assumes nothing.
use mathlib.Core.Path.{◌≡◌, sym, ◌∙◌}
use mathlib.Core.List.{List}
use Prim.Native.Nat.{ℕ}
use denote.Ref.{Bor}
use lib.IntN.{ℤ}
use contract.Lifetimes.{Lfts}
use denote.Triple.Clauses.{AtExit}
use borrow.Fn.Kinds.{ended_of, Dens}
use Rattle.std.specs.Prelude.{Result}
use Rattle.chart.specs.declared.ChartRefusal.{ChartRefusal}
use Rattle.question.specs.declared.Place.{Place}
use Rattle.gauge.proofs.ReadingLaws.{gauges-one}
use Rattle.parts.specs.declared.Span.{Span}
use Rattle.parts.specs.Parts.{Part}
use Rattle.chart.proofs.check.Kinds as check-kinds
use Rattle.chart.proofs.check.Reads as check
use Rattle.question.proofs.point.Kinds as point-kinds
use Rattle.question.proofs.point.Reads as point
use Rattle.nearest.proofs.nearest_below.Kinds as nearest-below-kinds
use Rattle.nearest.proofs.nearest_below.Reads as nearest-below
use Rattle.nearest.proofs.inside_by_mark.Kinds as inside-by-mark-kinds
use Rattle.nearest.proofs.inside_by_mark.Reads as inside-by-mark
use Rattle.area.proofs.area2.Kinds as area2-kinds
use Rattle.area.proofs.area2.Reads as area2
use Rattle.gauge.proofs.read_sample.Kinds as read-sample-kinds
use Rattle.gauge.proofs.read_sample.Reads as read-sample
use Rattle.join.proofs.combine.Kinds as combine-kinds
use Rattle.join.proofs.combine.Reads as combine
use Rattle.faces.proofs.OutcomeLaws.{lists-one}
use Rattle.faces.proofs.faces.Kinds as faces-kinds
use Rattle.faces.proofs.faces.Reads as faces
use Rattle.sides.proofs.joins.Kinds as joins-kinds
use Rattle.sides.proofs.joins.Reads as joins
use Rattle.file.proofs.read.Kinds as read-kinds
use Rattle.file.proofs.read.Reads as read
use Rattle.number.proofs.take_number.Kinds as take-number-kinds
use Rattle.number.proofs.take_number.Reads as take-number
use Rattle.number.proofs.signed_of.Kinds as signed-of-kinds
use Rattle.number.proofs.signed_of.Reads as signed-of
use Rattle.question.proofs.corner.Kinds as corner-kinds
use Rattle.question.proofs.corner.Reads as corner
use Rattle.parts.proofs.run_at.Kinds as run-at-kinds
use Rattle.parts.proofs.run_at.Reads as run-at
use Rattle.parts.proofs.smaller_head.Kinds as smaller-head-kinds
use Rattle.parts.proofs.smaller_head.Reads as smaller-head
use Rattle.question.proofs.corner_of.Kinds as corner-of-kinds
use Rattle.question.proofs.corner_of.Reads as corner-of
use Rattle.parts.proofs.run_of.Kinds as run-of-kinds
use Rattle.parts.proofs.run_of.Reads as run-of
use Rattle.parts.proofs.head_of.Kinds as head-of-kinds
use Rattle.parts.proofs.head_of.Reads as head-of
use Rattle.promises.proofs.Settled.{Settled, SamePart, SettledPart, SettledLent}

-- ---- chart

pub same-check : Settled 1 check-kinds.ps check-kinds.r check.Pre check.Post
same-check = ((λ κs a. tt), (λ κs a v w s t h k. h ∙ sym k))

-- ---- question

pub same-point : Settled 1 point-kinds.ps point-kinds.r point.Pre point.Post
same-point = ((λ κs a. tt), (λ κs a v w s t h k. h ∙ sym k))

pub same-nearest-below : Settled 1 nearest-below-kinds.ps nearest-below-kinds.r nearest-below.Pre nearest-below.Post
same-nearest-below = ((λ κs a. tt), (λ κs a v w s t h k. h ∙ sym k))

pub point-by-mark : (κs : Lfts 1) (a : Dens κs point-kinds.ps) (v w : Result Place ChartRefusal)
    (s t : AtExit (ended_of 1 point-kinds.ps point-kinds.r) κs)
    → point.Post κs a v s → inside-by-mark.Post κs a w t → v ≡ w
point-by-mark κs a v w s t h k = h ∙ sym k

pub same-inside-by-mark : Settled 1 inside-by-mark-kinds.ps inside-by-mark-kinds.r
    inside-by-mark.Pre inside-by-mark.Post
same-inside-by-mark = ((λ κs a. tt), (λ κs a v w s t h k. h ∙ sym k))

-- ---- area

pub same-area2 : Settled 1 area2-kinds.ps area2-kinds.r area2.Pre area2.Post
same-area2 = ((λ κs a. tt), (λ κs a v w s t h k. h ∙ sym k))

-- ---- gauge

-- the contract says what the pressure's value is, and one 64-bit float has that value
pub same-read-sample : Settled 0 read-sample-kinds.ps read-sample-kinds.r read-sample.Pre read-sample.Post
same-read-sample = ((λ κs a. tt), (λ κs a v w s t h k. gauges-one h k))

-- ---- join

pub same-joins : Settled 0 joins-kinds.ps joins-kinds.r joins.Pre joins.Post
same-joins = ((λ κs a. tt), (λ κs a v w s t h k. h ∙ sym k))

pub same-combine : SettledLent 3 combine-kinds.ps combine-kinds.r (List ℤ) (λ κs s. s.1.1.1.0.now)
    combine.Pre combine.Post
same-combine = ((λ κs a. tt), (λ κs a v w s t h k. (h.says ∙ sym k.says, h.leaves ∙ sym k.leaves)))

-- ---- faces

-- the labels and the cycles
pub same-faces : SettledLent 3 faces-kinds.ps faces-kinds.r (List ℕ × List ℕ)
    (λ κs s. (s.1.0.now, s.1.1.0.now)) faces.Pre faces.Post
same-faces = ((λ κs a. tt), (λ κs a v w s t h k. lists-one h k))

-- ---- file

pub same-read : SettledLent 2 read-kinds.ps read-kinds.r (List ℤ) (λ κs s. s.1.0.now) read.Pre read.Post
same-read = ((λ κs a. tt), (λ κs a v w s t h k. (h.says ∙ sym k.says, h.leaves ∙ sym k.leaves)))

pub same-take-number : Settled 1 take-number-kinds.ps take-number-kinds.r take-number.Pre take-number.Post
same-take-number = ((λ κs a. tt), (λ κs a v w s t h k. h ∙ sym k))

pub same-signed-of : Settled 0 signed-of-kinds.ps signed-of-kinds.r signed-of.Pre signed-of.Post
same-signed-of = ((λ κs a. tt), (λ κs a v w s t h k. h ∙ sym k))

-- ---- parts of an array

same-part : {s : Bor (List ℤ)} {a : Span} (p q : Bor (List ℤ)) → Part s a p → Part s a q → SamePart p q
same-part p q h k = (h.numbers ∙ sym k.numbers, h.array ∙ sym k.array, h.place ∙ sym k.place)

pub same-corner-of : Settled 1 corner-of-kinds.ps corner-of-kinds.r corner-of.Pre corner-of.Post
same-corner-of = ((λ κs a. tt), (λ κs a v w s t h k. h ∙ sym k))

pub same-run-of : Settled 1 run-of-kinds.ps run-of-kinds.r run-of.Pre run-of.Post
same-run-of = ((λ κs a. tt), (λ κs a v w s t h k. h ∙ sym k))

pub same-head-of : Settled 2 head-of-kinds.ps head-of-kinds.r head-of.Pre head-of.Post
same-head-of = ((λ κs a. tt), (λ κs a v w s t h k. h ∙ sym k))

pub same-corner : SettledPart 1 corner-kinds.ps corner-kinds.r corner.Pre corner.Post
same-corner = ((λ κs a. tt), (λ κs a p q s t h k. same-part p q h k))

pub same-run-at : SettledPart 1 run-at-kinds.ps run-at-kinds.r run-at.Pre run-at.Post
same-run-at = ((λ κs a. tt), (λ κs a p q s t h k. same-part p q h k))

pub same-smaller-head : SettledPart 1 smaller-head-kinds.ps smaller-head-kinds.r smaller-head.Pre smaller-head.Post
same-smaller-head = ((λ κs a. tt), (λ κs a p q s t h k. same-part p q h k))

-- ---- all questions

pub record Pinned : Type 0 where
  pub check : Settled 1 check-kinds.ps check-kinds.r check.Pre check.Post
  pub point : Settled 1 point-kinds.ps point-kinds.r point.Pre point.Post
  pub inside-by-mark : Settled 1 inside-by-mark-kinds.ps inside-by-mark-kinds.r inside-by-mark.Pre inside-by-mark.Post
  pub nearest-below : Settled 1 nearest-below-kinds.ps nearest-below-kinds.r nearest-below.Pre nearest-below.Post
  pub area2 : Settled 1 area2-kinds.ps area2-kinds.r area2.Pre area2.Post
  pub read-sample : Settled 0 read-sample-kinds.ps read-sample-kinds.r read-sample.Pre read-sample.Post
  pub corner : SettledPart 1 corner-kinds.ps corner-kinds.r corner.Pre corner.Post
  pub smaller-head : SettledPart 1 smaller-head-kinds.ps smaller-head-kinds.r smaller-head.Pre smaller-head.Post
  pub faces : SettledLent 3 faces-kinds.ps faces-kinds.r (List ℕ × List ℕ)
      (λ κs s. (s.1.0.now, s.1.1.0.now)) faces.Pre faces.Post
  pub combine : SettledLent 3 combine-kinds.ps combine-kinds.r (List ℤ) (λ κs s. s.1.1.1.0.now)
      combine.Pre combine.Post
  pub read : SettledLent 2 read-kinds.ps read-kinds.r (List ℤ) (λ κs s. s.1.0.now) read.Pre read.Post

pub pinned : Pinned
pinned = record {
  check = same-check;
  point = same-point;
  inside-by-mark = same-inside-by-mark;
  nearest-below = same-nearest-below;
  area2 = same-area2;
  read-sample = same-read-sample;
  corner = same-corner;
  smaller-head = same-smaller-head;
  faces = same-faces;
  combine = same-combine;
  read = same-read;
}
