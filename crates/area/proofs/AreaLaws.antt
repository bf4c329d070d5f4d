-- Laws of twice the area (specs/Areas.antt) and of the two sums it is found by (specs/Sums.antt).
--     segment-across     a segment's second end is no further left than its first
--     share-is           what a record adds is its gain less its loss
--     twice_area-is      so twice the area is the gains less the losses
--     gain-marked, gain-plain, loss-marked, loss-plain     the gain and the loss, by the mark
--     area_of-accepted, area_of-refused    the answer in each case of the verdict
--     area_of-refusal    the chart's refusal is given first, and none where it is answered
--     segment_rises, gains_less_losses     for functions' tactic lines
-- Assumes nothing.
use mathlib.Core.Path.{◌≡◌, refl, sym, ap, ap₂, ◌∙◌}
use mathlib.Core.Logic.{◌⊎◌, inl, inr}
use mathlib.Core.Bool.{Bool, true, false, cond, true≢false}
use mathlib.Core.List.{List, [], ◌∷◌}
use Prim.Native.Nat.{ℕ, ◌+◌, ◌*◌, ◌≤◌, ◌<◌}
use native.Mathlib.Omega.{arith}
use lib.Dec.{eqb}
use borrow.Author.Tests.{eq-eqb, ne_eqb}
use lib.IntN.{ℤ, pos, neg_ℤ, ◌+ℤ◌, ◌*ℤ◌}
use Rattle.counts.specs.Count.{sum}
use Rattle.counts.proofs.TestLaws.{lt-or-le}
use Rattle.plane.specs.Columns.{breadth}
use Rattle.plane.proofs.PointLaws.{Before, before-true, before-intro}
use Rattle.plane.proofs.DifferenceLaws.{diff, diff-same, diff-neg, diff-add, diff-mul}
use Rattle.grid.specs.Coordinates.{up, down}
use Rattle.record.specs.declared.Record.{Record}
use Rattle.record.specs.Records.{records, marked}
use Rattle.record.specs.Order.{left}
use Rattle.segment.specs.Segments.{segment}
use Rattle.chart.specs.Verdicts.{refusal_of, verdict}
use Rattle.std.specs.Prelude.{Ok, Err}
use Rattle.chart.specs.declared.ChartRefusal.{ChartRefusal}
use Rattle.chart.proofs.RegionLaws.{answered-refusal}
use Rattle.area.specs.Areas.{total, share, twice_area, area_of}
use Rattle.area.specs.Sums.{ground, across, strip, gain, loss, Term}

-- ---- one record

pub segment-across : (r : Record) → (segment r).a.x ≤ (segment r).b.x
unfolding segment
segment-across r = go (left r) refl
  where
    ahead : Before r.dom r.other → r.dom.x ≤ r.other.x
    ahead (inl l) = omega arith
    ahead (inr l) = omega arith

    behind : left r ≡ false → (r.dom.x < r.other.x) ⊎ (r.other.x ≤ r.dom.x) → r.other.x ≤ r.dom.x
    behind e (inl l) = absurd (true≢false (sym (before-intro r.dom r.other (inl l)) ∙ e))
    behind e (inr l) = l

    go : (b : Bool) → left r ≡ b → (segment r).a.x ≤ (segment r).b.x
    go true e = rw e (ahead (before-true r.dom r.other e))
    go false e = rw e (behind e (lt-or-le r.dom.x r.other.x))

-- a breadth by both heights is a difference of two strips
strip-is : (w a b : ℕ) → pos w *ℤ (down a +ℤ down b) ≡ diff (strip w a b) (strip w ground ground)
unfolding up
strip-is w a b =
    let plain : pos w ≡ diff w 0 = ap pos (omega arith) in
    ap₂ ◌*ℤ◌ plain (diff-add a 32768 b 32768)
    ∙ diff-mul w 0 (a + b) 65536
    ∙ diff-same (w * (a + b) + 0 * 65536) (w * 65536 + 0 * (a + b)) (strip w a b) (strip w 32768 32768) (omega arith)

-- with sign, by the half and by the mark
share-by : (h m : Bool) (w a b : ℕ)
    → cond h (cond m (neg_ℤ (pos w *ℤ (down a +ℤ down b))) (pos w *ℤ (down a +ℤ down b))) (pos 0)
    ≡ diff (cond m (strip (cond h w 0) ground ground) (strip (cond h w 0) a b))
    (cond m (strip (cond h w 0) a b) (strip (cond h w 0) ground ground))
share-by true true w a b = ap neg_ℤ (strip-is w a b) ∙ diff-neg (strip w a b) (strip w ground ground)
share-by true false w a b = strip-is w a b
share-by false true w a b = sym (diff-same (strip 0 ground ground) (strip 0 a b) 0 0 (omega arith))
share-by false false w a b = sym (diff-same (strip 0 a b) (strip 0 ground ground) 0 0 (omega arith))

pub share-is : (r : Record) → share r ≡ diff (gain r) (loss r)
unfolding share gain loss
share-is r = share-by (left r) (eqb r.mark marked) (breadth (segment r)) r.dom.y r.other.y

-- what a program finds, by the mark, is the gain and the loss
module _ (r : Record) {w m : ℕ} (e : w ≡ across r) where
  pub gain-marked : r.mark ≡ marked → Term (strip w ground ground) m → Term (gain r) m
  unfolding gain
  gain-marked h s = rw (eq-eqb r.mark marked h, sym e) s

  pub gain-plain : (r.mark ≡ marked → ⊥) → Term (strip w r.dom.y r.other.y) m → Term (gain r) m
  unfolding gain
  gain-plain h s = rw (ne_eqb r.mark marked h, sym e) s

  pub loss-marked : r.mark ≡ marked → Term (strip w r.dom.y r.other.y) m → Term (loss r) m
  unfolding loss
  loss-marked h s = rw (eq-eqb r.mark marked h, sym e) s

  pub loss-plain : (r.mark ≡ marked → ⊥) → Term (strip w ground ground) m → Term (loss r) m
  unfolding loss
  loss-plain h s = rw (ne_eqb r.mark marked h, sym e) s

-- ---- all of them

pub twice_area-is : (rs : List Record) → twice_area rs ≡ diff (sum gain rs) (sum loss rs)
unfolding total sum
twice_area-is [] = refl
twice_area-is (r ∷ rs) =
    ap₂ ◌+ℤ◌ (share-is r) (twice_area-is rs) ∙ diff-add (gain r) (loss r) (sum gain rs) (sum loss rs)

-- ---- the answer

module _ (s : List ℤ) where
  pub area_of-accepted : verdict s ≡ Ok tt → area_of s ≡ Ok (twice_area (records s))
  unfolding area_of
  area_of-accepted e = rw e refl

  pub area_of-refused : (r : ChartRefusal) → verdict s ≡ Err r → area_of s ≡ Err r
  unfolding area_of
  area_of-refused r e = rw e refl

pub area_of-refusal : (s : List ℤ) → refusal_of (area_of s) ≡ refusal_of (verdict s)
unfolding area_of
area_of-refusal s = answered-refusal (verdict s) (twice_area (records s))

pub ruleset segment_rises = (segment-across)

pub ruleset gains_less_losses = (twice_area-is)
