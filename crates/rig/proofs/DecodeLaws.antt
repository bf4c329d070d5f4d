-- What a caller reads from an answer is what the library answers.
--     check-decoded, point-decoded, area-decoded    the chart's refusal, number and index; and the kind of place
--     corner-decoded                                where the run starts, and how many numbers it has
--     faces-decoded                                 the refusal of faces, number and index
--     counts-decoded                                how many cycles and faces there are
--     join-decoded                                  how many records were written, or the refusal, its index and the
--                                                   chart that it names
--     read-decoded                                  how many records were read, or a file's refusal and its place
--     sample-decoded                                a sample's refusal, and no other bit
-- Assumes nothing.
use mathlib.Core.Path.{◌≡◌, refl, sym, ap, subst}
use mathlib.Core.List.{List}
use Prim.Native.Nat.{ℕ, ◌-◌, ◌^◌, ◌<◌}
use native.Mathlib.Omega.{arith}
use lib.IntN.{ℤ}
use lib.Ieee.{Float}
use lib.ListN.{length}
use Rattle.plane.specs.declared.Point.{Point}
use Rattle.chart.specs.declared.Refusal.{Refusal}
use Rattle.chart.specs.Verdicts.{refusal_of, verdict}
use Rattle.chart.proofs.IndexLaws.{verdict-told}
use Rattle.question.specs.Places.{placed}
use Rattle.question.specs.Corners.{corner_of}
use Rattle.question.proofs.RefusalLaws.{placed-refusal}
use Rattle.area.specs.Areas.{area_of}
use Rattle.area.proofs.AreaLaws.{area_of-refusal}
use Rattle.std.specs.Prelude.{Ok, Err}
use Rattle.faces.specs.declared.FaceCounts.{FaceCounts}
use Rattle.faces.specs.Lists as lists
use Rattle.faces.specs.Lists.{FaceList, labels_of, cycle_list, faces_of, list_refusal, Lists}
use Rattle.faces.proofs.OutcomeLaws.{lists-told, counts-small, faces_of-told}
use Rattle.sides.specs.declared.Op.{Op}
use Rattle.join.specs.Joinings as joining
use Rattle.join.specs.Joinings.{Outcome, join_refusal, chart_named, told_joining, named, outcome, Joins}
use Rattle.join.proofs.OutcomeLaws.{outcome-told, told-small}
use Rattle.file.specs.Files as file
use Rattle.file.specs.Files.{Taken, taken, file_of}
use Rattle.file.specs.Answers.{answer_of, told, read_refusal, contents, Reads}
use Rattle.file.proofs.RefusalLaws.{file_of-told, numbers}
use Rattle.rig.specs.Bits.{packed, value_of, number_of, length_of}
use Rattle.rig.specs.Answers.{check_answer, place_kind, point_answer, corner_answer, area_answer}
use Rattle.rig.specs.Bits as bits
use Rattle.rig.specs.Answers.{faces_value, faces_answer, join_value, join_answer, read_value, read_answer}
use Rattle.rig.specs.Gauging.{SampleRead}
use Rattle.rig.proofs.BitLaws.{Decoded, packed-decoded}
use Rattle.rig.proofs.AnswerLaws.{corner-small, faces-small, join-small, records-small, place-small}

-- ---- of a chart

module _ (s : List ℤ) where
  abbrev given : Refusal
  given = refusal_of (verdict s)

  -- an answer of the chart's refusal, with any kind
  refusal-decoded : (k : ℕ) {r : Refusal} → r ≡ given
      → Decoded (packed r.index r.number 0 k) given.index given.number 0 k
  refusal-decoded k e =
      let told = verdict-told s in
      rw e (packed-decoded given.index given.number 0 k (omega (arith, told.index))
      (omega (arith, told.number)) (omega arith))

  pub check-decoded : Decoded (check_answer (verdict s)) given.index given.number 0 0
  check-decoded = refusal-decoded 0 refl

  pub area-decoded : Decoded (area_answer (area_of s)) given.index given.number 0 0
  area-decoded = refusal-decoded 0 (area_of-refusal s)

  module _ (p : Point) where
    pub point-decoded : Decoded (point_answer (placed s p)) given.index given.number 0 (place_kind (placed s p))
    point-decoded = refusal-decoded (place_kind (placed s p)) (placed-refusal s p)

    pub corner-decoded : (value_of (corner_answer (corner_of s p)) ≡ (corner_of s p).from)
        × (length_of (corner_answer (corner_of s p)) ≡ (corner_of s p).upto - (corner_of s p).from)
    unfolding corner_answer value_of length_of
    corner-decoded =
        let w = corner-small s p refl in
        (omega (arith, w.0, w.1), omega (arith, w.0, w.1))

-- ---- of faces

module _ (s : List ℤ) (labels cycles : List ℕ) where
  abbrev answer : FaceList
  answer = faces_of s (length labels) (length cycles)

  lists-so : Lists s labels cycles (lists.contents answer (labels_of s) labels)
      (lists.contents answer (cycle_list s) cycles)
      answer
  lists-so = record { says = refl; labelled = refl; listed = refl }

  pub faces-decoded : Decoded (faces_answer answer) (faces_value answer) (list_refusal answer).number 0 0
  faces-decoded =
      packed-decoded (faces_value answer) (list_refusal answer).number 0 0 (faces-small s labels cycles _ _ lists-so)
      (omega (arith, (faces_of-told s (length labels) (length cycles)).0)) (omega arith)

  pub counts-decoded : (c : FaceCounts) → answer ≡ Ok c
      → (bits.cycles_of (faces_answer answer) ≡ c.cycles) × (bits.faces_of (faces_answer answer) ≡ c.faces)
  unfolding packed bits.cycles_of bits.faces_of
  counts-decoded c e =
      let few = counts-small (lists-told (subst (Lists s labels cycles _ _) e lists-so)) in
      rw e (omega (arith, few), omega (arith, few))

-- ---- of two charts

module _ (op : Op) (a b lent : List ℤ) where
  pub join-decoded : let j = joining.answer_of (outcome op a b (length lent)) in
      Decoded (join_answer j) (join_value j) (join_refusal j).number (chart_named j) 0
  join-decoded = go (outcome op a b (length lent)) refl
    where
      joins : Joins op a b lent (joining.contents (outcome op a b (length lent)) lent)
          (joining.answer_of (outcome op a b (length lent)))
      joins = record { says = refl; leaves = refl }

      small : join_value (joining.answer_of (outcome op a b (length lent))) < 2 ^ 32
      small = join-small op a b lent _ joins

      go : (o : Outcome) → outcome op a b (length lent) ≡ o
          → let j = joining.answer_of o in
          Decoded (join_answer j) (join_value j) (join_refusal j).number (chart_named j) 0
      go (Ok rs) e =
          packed-decoded _ 0 0 0 (rw (ap (λ o. join_value (joining.answer_of o)) e) at small) (omega arith)
          (omega arith)
      go (Err r) e =
          let fits = told-small (outcome-told op a b (length lent) r e) in
          packed-decoded (told_joining r).index (told_joining r).number (named r) 0
          (rw (ap (λ o. join_value (joining.answer_of o)) e) at small)
          (omega (arith, fits.number)) (omega (arith, fits.chart))

-- ---- of a file

module _ (s : List ℕ) (lent : List ℤ) where
  pub read-decoded : let a = answer_of (file_of s (length lent)) in
      Decoded (read_answer a) (read_value a) (read_refusal a).number 0 0
  read-decoded = go (file_of s (length lent)) refl
    where
      reads : Reads s lent (contents (file_of s (length lent)) lent) (answer_of (file_of s (length lent)))
      reads = record { says = refl; leaves = refl }

      go : (t : Taken) → file_of s (length lent) ≡ t → Decoded (read_answer (answer_of t)) (read_value (answer_of t))
          (read_refusal (answer_of t)).number 0 0
      go (taken zs end) e =
          packed-decoded _ 0 0 0 (records-small s lent _ reads (ap answer_of e)) (omega arith) (omega arith)
      go (file.refused r) e =
          packed-decoded (told r).index (told r).number 0 0 (place-small s lent _ reads (ap answer_of e) refl)
          (omega (arith, numbers (told r).number (file_of-told s (length lent) e).number)) (omega arith)

-- ---- of a sample

module _ (k : ℕ) (x y : Float) (n : ℤ) (r : ℕ) (p : Float) (m : ℤ) where
  pub sample-decoded : SampleRead k x y n r p m → Decoded r 0 (number_of r) 0 0
  unfolding number_of
  sample-decoded h =
      subst (λ a. Decoded a 0 (number_of r) 0 0) (sym h.says)
      (packed-decoded 0 (number_of r) 0 0 (omega arith) (omega arith) (omega arith))
