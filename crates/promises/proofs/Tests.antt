-- Two tests of the code as they are put together of others, from what those answer.
--     wrong_mark-is     row 9 of the refusal table, from the counted mark of a record's segment
--     keeps-sides       whether the two sides of a segment differ in the result of two charts, from the upper sides and
--                       which charts have it
-- Assumes nothing.
use mathlib.Core.Path.{◌≡◌, refl, ap, ap₂, ◌∙◌}
use mathlib.Core.Bool.{Bool, true, false, not, beq}
use mathlib.Core.List.{List}
use Prim.Native.Nat.{ℕ}
use lib.Dec.{eqb}
use lib.IntN.{ℤ}
use Rattle.counts.specs.Count.{◌⊕◌}
use Rattle.plane.specs.declared.Segment.{Segment}
use Rattle.record.specs.declared.Record.{Record}
use Rattle.record.specs.Records.{records}
use Rattle.segment.specs.Segments.{segment}
use Rattle.among.specs.Among.{has_segment, counted_mark}
use Rattle.chart.specs.Rows.{wrong_mark}
use Rattle.region.specs.TwoSides.{upper_side}
use Rattle.combined.specs.Kept.{upper_sides, keeps}
use Rattle.sides.specs.declared.Op.{Op}
use Rattle.sides.specs.Operations.{joined_by, joining, both}

pub wrong_mark-is : (s : List ℤ) (r : Record) {t : Segment} {m : ℕ} → t ≡ segment r → m ≡ counted_mark (records s) t
    → not (eqb r.mark m) ≡ wrong_mark (records s) r
wrong_mark-is s r d e = ap (λ m. not (eqb r.mark m)) (e ∙ ap (counted_mark (records s)) d)

-- exactly one of the two, as the language says it
xor_is : (x y : Bool) → not (beq x y) ≡ x ⊕ y
xor_is true true = refl
xor_is true false = refl
xor_is false true = refl
xor_is false false = refl

module _ (op : Op) (a b : List ℤ) (t : Segment) {x y : Bool} (first : x ≡ upper_side (records a) t)
    (second : y ≡ upper_side (records b) t) where
  joining-upper : {u : Bool} → u ≡ joined_by op x y → u ≡ joining op (upper_sides (both a b) t)
  joining-upper e = e ∙ ap₂ (joined_by op) first second

  pub keeps-sides : {p q u l : Bool} → p ≡ has_segment (records a) t → q ≡ has_segment (records b) t
      → u ≡ joined_by op x y → l ≡ joined_by op (not (beq x p)) (not (beq y q))
      → not (beq u l) ≡ keeps (joining op) (both a b) t
  keeps-sides {p} {q} {u} {l} h g e f =
      let lower = f ∙ ap₂ (joined_by op) (xor_is x p ∙ ap₂ ◌⊕◌ first h) (xor_is y q ∙ ap₂ ◌⊕◌ second g) in
      xor_is u l ∙ ap₂ ◌⊕◌ (joining-upper e) lower
