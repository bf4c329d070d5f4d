-- What has room in an answer's bits.
--     index-small                            the index of a chart's refusal
--     check-small, point-small, area_small   so, of the refusal that each question gives
--     corner-small                           a run's start and length
--     faces-small                            the numbers of cycles and faces, and the index of a refusal
--     join-small                             the number of records written, and the index of a refusal of joining
--     records-small, place-small             the number of records read, and the place of a file's refusal
--     area-told, area-refused                the two returns of the area
-- Assumes nothing.
use mathlib.Core.Path.{◌≡◌, refl, sym, ap, ◌∙◌, subst}
use mathlib.Core.List.{List}
use Prim.Native.Nat.{ℕ, ◌*◌, ◌^◌, ◌<◌, ◌≤◌}
use native.Mathlib.Omega.{arith}
use lib.IntN.{ℤ}
use lib.ListN.{length}
use mir.Syntax.{w64}
use mir.Val.{SFits, to_z, of_z}
use mir.ValLaws.{to_z-of_z}
use Rattle.plane.specs.declared.Point.{Point}
use Rattle.record.specs.Records.{width}
use Rattle.parts.specs.declared.Span.{Span}
use Rattle.std.specs.Prelude.{Result, Ok, Err}
use Rattle.chart.specs.declared.Refusal.{Refusal}
use Rattle.chart.specs.declared.ChartRefusal.{ChartRefusal}
use Rattle.chart.specs.Verdicts.{Verdict, limit, told, refusal_of, verdict}
use Rattle.chart.proofs.IndexLaws.{verdict-told}
use Rattle.question.specs.declared.Place.{Place}
use Rattle.question.specs.Places.{placed}
use Rattle.question.specs.Corners.{corner_of}
use Rattle.question.proofs.RefusalLaws.{placed-refusal}
use Rattle.question.proofs.CornerLaws.{corner-within, corner-short}
use Rattle.area.specs.Areas.{area_of}
use Rattle.area.proofs.AreaLaws.{area_of-refusal}
use Rattle.faces.specs.Lists.{FaceList, list_refusal, Lists}
use Rattle.faces.proofs.OutcomeLaws.{lists-told, counts-small, faces_of-told}
use Rattle.sides.specs.declared.Op.{Op}
use Rattle.join.specs.Joinings.{Joined, Joins}
use Rattle.join.proofs.OutcomeLaws.{outcome-told, told-small, joins-combined, joins-refused}
use Rattle.file.specs.declared.FileRefusal.{FileRefusal}
use Rattle.file.specs.Answers as file
use Rattle.file.specs.Answers.{Answer, Reads}
use Rattle.file.proofs.AnswerLaws.{reads-took, reads-refused}
use Rattle.file.proofs.RefusalLaws.{file_of-told}
use Rattle.rig.specs.Bits.{packed, of_refusal}
use Rattle.rig.specs.Answers.{area_answer, area_left, faces_value}
use Rattle.rig.specs.Answers.{join_value}

-- ---- of a chart

module _ (s : List ℤ) where
  index-small : {r : Refusal} → r ≡ refusal_of (verdict s) → r.index < 2 ^ 32
  index-small e = rw e (omega (arith, (verdict-told s).index))

  pub check-small : {v : Verdict} {r : ChartRefusal} {q : Refusal} → v ≡ verdict s → v ≡ Err r → q ≡ told r
      → q.index < 2 ^ 32
  check-small e g h = index-small (h ∙ ap refusal_of (sym g ∙ e))

  pub area_small : {a : Result ℤ ChartRefusal} {r : ChartRefusal} {q : Refusal} → a ≡ area_of s → a ≡ Err r
      → q ≡ told r → q.index < 2 ^ 32
  area_small e g h = index-small (h ∙ ap refusal_of (sym g ∙ e) ∙ area_of-refusal s)

  pub area-told : (lent : ℤ) {a : Result ℤ ChartRefusal} {z : ℤ} {n : ℕ} → a ≡ area_of s → a ≡ Ok z → SFits w64 z
      → n ≡ packed 0 0 0 0 → (n ≡ area_answer (area_of s)) × (to_z w64 (of_z w64 z) ≡ area_left (area_of s) lent)
  area-told lent {z = z} e g fits h =
      let is = sym g ∙ e in
      (h ∙ ap area_answer is, to_z-of_z w64 z fits ∙ ap (λ b. area_left b lent) is)

  pub area-refused : (lent : ℤ) {a : Result ℤ ChartRefusal} {r : ChartRefusal} {q : Refusal} {n : ℕ} → a ≡ area_of s
      → a ≡ Err r → q ≡ told r → n ≡ of_refusal q → (n ≡ area_answer (area_of s)) × (lent ≡ area_left (area_of s) lent)
  area-refused lent e g d h =
      let is = sym g ∙ e in
      (h ∙ ap of_refusal d ∙ ap area_answer is, ap (λ b. area_left b lent) is)

  module _ (p : Point) where
    pub point-small : {a : Result Place ChartRefusal} → a ≡ placed s p → (refusal_of a).index < 2 ^ 32
    point-small e = index-small (ap refusal_of e ∙ placed-refusal s p)

    pub corner-small : {a : Span} → a ≡ corner_of s p → (a.from ≤ a.upto) × (a.upto ≤ width * limit)
    corner-small e = ((corner-within s p e).0, corner-short s p e)

-- ---- of faces

pub faces-small : (s : List ℤ) (labels cycles labels' cycles' : List ℕ) {a : FaceList}
    → Lists s labels cycles labels' cycles' a → faces_value a < 2 ^ 32
faces-small s labels cycles labels' cycles' {a} lists = go a refl
  where
    go : (b : FaceList) → a ≡ b → faces_value b < 2 ^ 32
    go (Ok c) e =
        let few = counts-small (lists-told (subst (Lists s labels cycles labels' cycles') e lists)) in
        omega (arith, few)
    go (Err r) e =
        let told = faces_of-told s (length labels) (length cycles) in
        omega (arith, told.1, ap (λ b. (list_refusal b).index) (sym lists.says ∙ e))

-- ---- of two charts

pub join-small : (op : Op) (a b lent out : List ℤ) {j : Joined} → Joins op a b lent out j → join_value j < 2 ^ 32
join-small op a b lent out {j} joins = go j refl
  where
    go : (k : Joined) → j ≡ k → join_value k < 2 ^ 32
    go (Ok n) e =
        let c = joins-combined op a b lent out joins e in
        omega (arith, c.many, c.met.few)
    go (Err r) e =
        let told = outcome-told op a b (length lent) r (joins-refused op a b lent out joins e) in
        omega (arith, (told-small told).index)

-- ---- of a file

module _ (s : List ℕ) (lent out : List ℤ) {a : Answer} (reads : Reads s lent out a) where
  pub records-small : {n : ℕ} → a ≡ Ok n → n < 2 ^ 32
  records-small g = omega (arith, (reads-took s lent out reads g).few)

  pub place-small : {r : FileRefusal} {q : Refusal} → a ≡ Err r → q ≡ file.told r → q.index < 2 ^ 32
  place-small g h =
      rw h (omega (arith, (file_of-told s (length lent) (reads-refused s lent out reads g)).place.near))
