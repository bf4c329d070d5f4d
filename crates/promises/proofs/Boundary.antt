-- What the functions for C and Rust promise (crate rig).
--     check-answer, point-answer, area-answer    the number of 64 bits has the chart's refusal, 0 and 0 where it is
--                       answered, and the place's kind
--     corner-answer     it has where the run starts and how long it is
--     head-answer       it has which array holds the smaller head
--     faces-answer      it has the refusal of faces, number and index
--     faces-counts      or how many cycles and how many faces there are
--     join-answer       it has how many records were written, or the refusal, its index and the chart that it names
--     read-answer       it has how many records were read, or the file's refusal and its place
--     gauge-answer      it has the sample's refusal, and nothing else
--     gauge-spring, gauge-bridge, gauge-other    what is read is what the card of that kind gives; 21 for any other
--     gauge-refused     where the sample is refused, what is left is the positive zero and the row 0, whatever the kind
--     gauge-spring-read, gauge-bridge-read    where it is read, what is left is exactly the pressure, with the row
--     same-bz-check, ..  nothing is asked, any two outcomes of one call coincide, and so does what is lent back
-- That each ends with an answer or a numbered refusal, and what was lent is then as it was: BoundaryQuestions.antt.
-- Assumes nothing.
use mathlib.Core.Path.{◌≡◌, sym, ap₂, ◌∙◌}
use mathlib.Core.Logic.{◌≢◌}
use mathlib.Core.List.{List}
use Prim.Native.Nat.{ℕ, zero, suc, ◌-◌, ◌<◌}
use native.Mathlib.Omega.{arith}
use lib.IntN.{ℤ}
use lib.Ieee.{Float}
use lib.ListN.{length}
use Rattle.plane.specs.declared.Point.{Point}
use Rattle.std.specs.Prelude.{Option, Ok, pos, true, false}
use Rattle.std.specs.Float.{fin}
use Rattle.parts.specs.declared.Which.{Which}
use Rattle.chart.specs.Verdicts.{refusal_of, verdict}
use Rattle.question.specs.Places.{placed}
use Rattle.question.specs.Corners.{corner_of}
use Rattle.area.specs.Areas.{area_of}
use Rattle.grid.specs.Coordinates.{on_grid}
use Rattle.gauge.specs.declared.Card.TheVariants.{Spring, Bridge}
use Rattle.gauge.specs.Values.{Exactly}
use Rattle.gauge.specs.Readings.{pressure, row, Sampled}
use Rattle.faces.specs.declared.answer.FaceCounts.{FaceCounts}
use Rattle.faces.specs.Lists.{faces_of, list_refusal}
use Rattle.sides.specs.declared.Op.{Op}
use Rattle.join.specs.Joinings as joining
use Rattle.join.specs.Joinings.{join_refusal, chart_named, outcome}
use Rattle.file.specs.Files.{file_of}
use Rattle.file.specs.Answers.{answer_of, read_refusal}
use Rattle.rig.specs.Bits.{value_of, number_of, length_of}
use Rattle.rig.specs.Answers.{check_answer, place_kind, point_answer, corner_answer, head_kind, head_answer, area_answer}
use Rattle.rig.specs.Bits as bits
use Rattle.rig.specs.Answers.{faces_value, faces_answer, join_value, join_answer, read_value, read_answer}
use Rattle.rig.specs.Gauging.{SampleRead}
use Rattle.rig.proofs.BitLaws.{Decoded, packed-decoded}
use Rattle.rig.proofs.DecodeLaws.{check-decoded, point-decoded, area-decoded, corner-decoded, read-decoded}
use Rattle.rig.proofs.DecodeLaws.{faces-decoded, counts-decoded, join-decoded, sample-decoded}
use Rattle.rig.proofs.GaugingLaws.{by-spring, by-bridge, by-neither, sample-one}
use Rattle.rig.proofs.bz_check.Kinds as bz-check-kinds
use Rattle.rig.proofs.bz_check.Reads as bz-check
use Rattle.rig.proofs.bz_point.Kinds as bz-point-kinds
use Rattle.rig.proofs.bz_point.Reads as bz-point
use Rattle.rig.proofs.bz_corner.Kinds as bz-corner-kinds
use Rattle.rig.proofs.bz_corner.Reads as bz-corner
use Rattle.rig.proofs.bz_head.Kinds as bz-head-kinds
use Rattle.rig.proofs.bz_head.Reads as bz-head
use Rattle.rig.proofs.bz_area2.Kinds as bz-area2-kinds
use Rattle.rig.proofs.bz_area2.Reads as bz-area2
use Rattle.rig.proofs.bz_faces.Kinds as bz-faces-kinds
use Rattle.rig.proofs.bz_faces.Reads as bz-faces
use Rattle.rig.proofs.bz_union.Kinds as bz-union-kinds
use Rattle.rig.proofs.bz_union.Reads as bz-union
use Rattle.rig.proofs.bz_intersection.Kinds as bz-intersection-kinds
use Rattle.rig.proofs.bz_intersection.Reads as bz-intersection
use Rattle.rig.proofs.bz_difference.Kinds as bz-difference-kinds
use Rattle.rig.proofs.bz_difference.Reads as bz-difference
use Rattle.rig.proofs.bz_gauge.Kinds as bz-gauge-kinds
use Rattle.rig.proofs.bz_gauge.Reads as bz-gauge
use Rattle.rig.proofs.bz_read.Kinds as bz-read-kinds
use Rattle.rig.proofs.bz_read.Reads as bz-read
use Rattle.promises.proofs.Gauges.{reading-exact, reading-refused}
use Rattle.promises.proofs.Settled.{Settled, SettledLent}

-- ---- what an answer has

module _ (s : List ℤ) where
  pub check-answer : let r = refusal_of (verdict s) in Decoded (check_answer (verdict s)) r.index r.number 0 0
  check-answer = check-decoded s

  pub area-answer : let r = refusal_of (verdict s) in Decoded (area_answer (area_of s)) r.index r.number 0 0
  area-answer = area-decoded s

  module _ (p : Point) where
    pub point-answer : let r = refusal_of (verdict s) in
        Decoded (point_answer (placed s p)) r.index r.number 0 (place_kind (placed s p))
    point-answer = point-decoded s p

    pub corner-answer : let a = corner_answer (corner_of s p) in
        (value_of a ≡ (corner_of s p).from) × (length_of a ≡ (corner_of s p).upto - (corner_of s p).from)
    corner-answer = corner-decoded s p

pub head-answer : (h : Option Which) → Decoded (head_answer h) 0 0 0 (head_kind h)
head-answer h = packed-decoded 0 0 0 (head_kind h) (omega arith) (omega arith) (omega arith)

module _ (s : List ℤ) (labels cycles : List ℕ) where
  pub faces-answer : let a = faces_of s (length labels) (length cycles) in
      Decoded (faces_answer a) (faces_value a) (list_refusal a).number 0 0
  faces-answer = faces-decoded s labels cycles

  pub faces-counts : (c : FaceCounts) → let a = faces_of s (length labels) (length cycles) in
      a ≡ Ok c → (bits.cycles_of (faces_answer a) ≡ c.cycles) × (bits.faces_of (faces_answer a) ≡ c.faces)
  faces-counts = counts-decoded s labels cycles

pub join-answer : (op : Op) (a b lent : List ℤ) → let j = joining.answer_of (outcome op a b (length lent)) in
    Decoded (join_answer j) (join_value j) (join_refusal j).number (chart_named j) 0
join-answer op a b lent = join-decoded op a b lent

pub read-answer : (s : List ℕ) (lent : List ℤ) → let a = answer_of (file_of s (length lent)) in
    Decoded (read_answer a) (read_value a) (read_refusal a).number 0 0
read-answer s lent = read-decoded s lent

-- ---- samples

module _ (x y : Float) (n : ℤ) (r : ℕ) (p : Float) (m : ℤ) where
  pub gauge-answer : (k : ℕ) → SampleRead k x y n r p m → Decoded r 0 (number_of r) 0 0
  gauge-answer k h = sample-decoded k x y n r p m h

  pub gauge-spring : SampleRead 0 x y n r p m → Sampled (Spring x y) n (number_of r) p m
  gauge-spring h = by-spring x y n h.reads

  pub gauge-bridge : SampleRead 1 x y n r p m → Sampled (Bridge x y) n (number_of r) p m
  gauge-bridge h = by-bridge x y n h.reads

  pub gauge-other : (k : ℕ) → 1 < k → SampleRead k x y n r p m
      → (number_of r ≡ 21) × (p ≡ fin false 0 (pos 0)) × (m ≡ pos 0)
  gauge-other k l h = by-neither k x y n l h.reads

  -- what C is left with
  pub gauge-refused : (k : ℕ) → SampleRead k x y n r p m → number_of r ≢ 0
      → (p ≡ fin false 0 (pos 0)) × (m ≡ pos 0)
  gauge-refused zero h e = reading-refused (gauge-spring h) e
  gauge-refused (suc zero) h e = reading-refused (gauge-bridge h) e
  gauge-refused (suc (suc k)) h e = let g = gauge-other (suc (suc k)) (omega arith) h in (g.1, g.2)

  pub gauge-spring-read : SampleRead 0 x y n r p m → number_of r ≡ 0
      → Exactly p (pressure (Spring x y) n) × (m ≡ row (pressure (Spring x y) n)) × (on_grid m ≡ true)
  gauge-spring-read h e = reading-exact (gauge-spring h) e

  pub gauge-bridge-read : SampleRead 1 x y n r p m → number_of r ≡ 0
      → Exactly p (pressure (Bridge x y) n) × (m ≡ row (pressure (Bridge x y) n)) × (on_grid m ≡ true)
  gauge-bridge-read h e = reading-exact (gauge-bridge h) e

-- ---- one outcome

pub same-bz-check : Settled 1 bz-check-kinds.ps bz-check-kinds.r bz-check.Pre bz-check.Post
same-bz-check = ((λ κs a. tt), (λ κs a v w s t h k. h ∙ sym k))

pub same-bz-point : Settled 1 bz-point-kinds.ps bz-point-kinds.r bz-point.Pre bz-point.Post
same-bz-point = ((λ κs a. tt), (λ κs a v w s t h k. h ∙ sym k))

pub same-bz-corner : Settled 1 bz-corner-kinds.ps bz-corner-kinds.r bz-corner.Pre bz-corner.Post
same-bz-corner = ((λ κs a. tt), (λ κs a v w s t h k. h ∙ sym k))

pub same-bz-head : Settled 2 bz-head-kinds.ps bz-head-kinds.r bz-head.Pre bz-head.Post
same-bz-head = ((λ κs a. tt), (λ κs a v w s t h k. h ∙ sym k))

pub same-bz-area2 : SettledLent 2 bz-area2-kinds.ps bz-area2-kinds.r ℤ (λ κs s. s.1.0.now)
    bz-area2.Pre bz-area2.Post
same-bz-area2 = ((λ κs a. tt), (λ κs a v w s t h k. (h.0 ∙ sym k.0, h.1 ∙ sym k.1)))

-- the labels and the cycles
pub same-bz-faces : SettledLent 3 bz-faces-kinds.ps bz-faces-kinds.r (List ℕ × List ℕ)
    (λ κs s. (s.1.0.now, s.1.1.0.now)) bz-faces.Pre bz-faces.Post
same-bz-faces = (
  (λ κs a. tt),
  λ κs a v w s t h k. (
    h.says ∙ sym k.says,
    ap₂ (λ l c. (l, c)) (h.labelled ∙ sym k.labelled) (h.listed ∙ sym k.listed),
  ),
)

pub same-bz-union : SettledLent 3 bz-union-kinds.ps bz-union-kinds.r (List ℤ) (λ κs s. s.1.1.0.now)
    bz-union.Pre bz-union.Post
same-bz-union = ((λ κs a. tt), (λ κs a v w s t h k. (h.says ∙ sym k.says, h.leaves ∙ sym k.leaves)))

pub same-bz-intersection : SettledLent 3 bz-intersection-kinds.ps bz-intersection-kinds.r (List ℤ)
    (λ κs s. s.1.1.0.now) bz-intersection.Pre bz-intersection.Post
same-bz-intersection = ((λ κs a. tt), (λ κs a v w s t h k. (h.says ∙ sym k.says, h.leaves ∙ sym k.leaves)))

pub same-bz-difference : SettledLent 3 bz-difference-kinds.ps bz-difference-kinds.r (List ℤ)
    (λ κs s. s.1.1.0.now) bz-difference.Pre bz-difference.Post
same-bz-difference = ((λ κs a. tt), (λ κs a v w s t h k. (h.says ∙ sym k.says, h.leaves ∙ sym k.leaves)))

-- the pressure and the row
pub same-bz-gauge : SettledLent 2 bz-gauge-kinds.ps bz-gauge-kinds.r (Float × ℤ)
    (λ κs s. (s.1.1.1.1.0.now, s.1.1.1.1.1.0.now)) bz-gauge.Pre bz-gauge.Post
same-bz-gauge = ((λ κs a. tt), (λ κs a v w s t h k. sample-one h k))

pub same-bz-read : SettledLent 2 bz-read-kinds.ps bz-read-kinds.r (List ℤ) (λ κs s. s.1.0.now)
    bz-read.Pre bz-read.Post
same-bz-read = ((λ κs a. tt), (λ κs a v w s t h k. (h.says ∙ sym k.says, h.leaves ∙ sym k.leaves)))
