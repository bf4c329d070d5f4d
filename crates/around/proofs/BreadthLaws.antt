-- The gains and losses that twice the area of a part is found by (area's Sums.antt), as what lies below its segments.
--     ahead r, aback r    how far a left half goes across where it is walked to the right, and where its segment is
--                         walked to the left
--     gains, losses       the gains are what lies below the segments walked to the left, and the ground below those
--                         walked to the right; the losses the other way round
--     both_ways           where records that depart leave and reach the same columns, each as often, as much is walked
--                         to the right as to the left
-- Assumes nothing.
use mathlib.Core.Path.{◌≡◌, refl, sym, ap, ap₂, ◌∙◌}
use mathlib.Core.Bool.{Bool, true, false, not, cond, ◌&&◌}
use mathlib.Core.List.{List}
use Prim.Native.Nat.{ℕ, ◌+◌, ◌*◌}
use native.Mathlib.Omega.{arith}
use lib.Dec.{eqb}
use Rattle.counts.specs.Count.{◌∈◌, ind, sum}
use Rattle.counts.proofs.SumLaws.{sum-ext, sum-add, sum-mul}
use Rattle.plane.specs.Columns.{breadth}
use Rattle.record.specs.declared.Record.{Record}
use Rattle.record.specs.Records.{marked}
use Rattle.record.specs.Order.{left, other_half}
use Rattle.record.proofs.HalfLaws.{left-other_half}
use Rattle.segment.specs.Segments.{segment}
use Rattle.segment.proofs.SegmentLaws.{segment-left, segment-right, segment-other_half}
use Rattle.chart.proofs.OnceLaws.{sound-proper}
use Rattle.area.specs.Sums.{ground, gain, loss, strip}
use Rattle.area.proofs.AreaLaws.{segment-across}
use Rattle.around.specs.Departing.{departs}
use Rattle.around.proofs.Parts.{Part, Ranked, underneath, rightwards, leftwards}
use Rattle.around.proofs.PartLaws.{one_way, halves-sum}

abbrev pub ahead : Record → ℕ
ahead r = ind (left r && departs r) * breadth (segment r)

abbrev pub aback : Record → ℕ
aback r = ind (left r && not (departs r)) * breadth (segment r)

-- ---- gains and losses

gain-is : (r : Record) → gain r ≡ ind (left r && not (departs r)) * underneath r + 2 * ground * ahead r
unfolding gain
gain-is r = go (left r) (eqb r.mark marked) (breadth (segment r)) r.dom.y r.other.y ground
  where
    go : (h m : Bool) (w a b g : ℕ) → cond m (strip (cond h w 0) g g) (strip (cond h w 0) a b)
        ≡ ind (h && not (cond m h (not h))) * (w * (a + b)) + 2 * g * (ind (h && cond m h (not h)) * w)
    go true true w a b g = omega arith
    go true false w a b g = omega arith
    go false true w a b g = omega arith
    go false false w a b g = omega arith

loss-is : (r : Record) → loss r ≡ ind (left r && departs r) * underneath r + 2 * ground * aback r
unfolding loss
loss-is r = go (left r) (eqb r.mark marked) (breadth (segment r)) r.dom.y r.other.y ground
  where
    go : (h m : Bool) (w a b g : ℕ) → cond m (strip (cond h w 0) a b) (strip (cond h w 0) g g)
        ≡ ind (h && cond m h (not h)) * (w * (a + b)) + 2 * g * (ind (h && not (cond m h (not h))) * w)
    go true true w a b g = omega arith
    go true false w a b g = omega arith
    go false true w a b g = omega arith
    go false false w a b g = omega arith

pub gains : (C : List Record) → sum gain C ≡ leftwards C + 2 * ground * sum ahead C
gains C =
    sum-ext _ _ C (λ r m. gain-is r) ∙ sum-add _ _ C ∙ ap (λ n. leftwards C + n) (sum-mul (2 * ground) ahead C)

pub losses : (C : List Record) → sum loss C ≡ rightwards C + 2 * ground * sum aback C
losses C =
    sum-ext _ _ C (λ r m. loss-is r) ∙ sum-add _ _ C ∙ ap (λ n. rightwards C + n) (sum-mul (2 * ground) aback C)

module _ {rs : List Record} {rank : Record → ℕ} (ranked : Ranked rs rank) {C : List Record} (part : Part rs C) where
  -- ---- where it comes back, as much is walked to the right as to the left

  -- the other half of a record that is walked to the left is a left half that is not walked
  turned : (r : Record) → r ∈ C → aback (other_half r) ≡ ind (not (left r) && departs r) * breadth (segment r)
  turned r m =
      let proper = sound-proper ranked.sound r (part.sub r m) in
      ap₂ (λ h s. ind (h && not (departs (other_half r))) * breadth s) (left-other_half r proper)
      (segment-other_half r proper)
      ∙ ap (λ d. ind (not (left r) && d) * breadth (segment r)) (ap not (one_way ranked r (part.sub r m)) ∙ twice _)
    where
      twice : (a : Bool) → not (not a) ≡ a
      twice true = refl
      twice false = refl

  crossed : (r : Record) → r ∈ C
      → ind (departs r) * r.dom.x + ahead r ≡ ind (departs r) * r.other.x + aback (other_half r)
  crossed r m = go (left r) (departs r) refl ∙ ap (λ n. ind (departs r) * r.other.x + n) (sym (turned r m))
    where
      go : (h d : Bool) → left r ≡ h → ind d * r.dom.x + ind (h && d) * breadth (segment r)
          ≡ ind d * r.other.x + ind (not h && d) * breadth (segment r)
      go true true e =
          let s = segment-left r e in
          omega (arith, segment-across r, ap (λ t. t.a.x) s, ap (λ t. t.b.x) s)
      go false true e =
          let s = segment-right r e in
          omega (arith, segment-across r, ap (λ t. t.a.x) s, ap (λ t. t.b.x) s)
      go true false e = omega arith
      go false false e = omega arith

  pub both_ways : sum (λ r. ind (departs r) * r.dom.x) C ≡ sum (λ r. ind (departs r) * r.other.x) C
      → sum ahead C ≡ sum aback C
  both_ways level =
      omega (
        arith,
        sum-ext _ _ C crossed,
        sum-add (λ r. ind (departs r) * r.dom.x) ahead C,
        sum-add (λ r. ind (departs r) * r.other.x) (λ r. aback (other_half r)) C,
        halves-sum ranked part aback,
      )
