-- Which way round a part goes that keeps one and the same side on the left hand wherever it is walked, and the sign of
-- its area.
--     orientation     with itself on the left, more lies below what is walked to the left than below what is walked to
--                     the right; with itself on the right, less
--     area-sign       so twice its area is positive exactly if it keeps itself on the left, and else negative: never 0.
--                     It must leave and reach the same columns, as what comes round does
-- Assumes nothing.
use mathlib.Core.Path.{◌≡◌, refl, sym, ap, ap₂, ◌∙◌}
use mathlib.Core.Bool.{Bool, true, false, not, cond, ◌&&◌}
use mathlib.Core.List.{List}
use Prim.Native.Nat.{ℕ, ◌+◌, ◌*◌, ◌<◌}
use native.Mathlib.Omega.{arith}
use lib.Dec.{ltb}
use lib.IntN.{pos}
use lib.Signed.{lt_z}
use borrow.Author.Tests.{lt-ltb, le-ltb}
use Rattle.counts.specs.Count.{◌∈◌, ind, sum, ◌⊕◌}
use Rattle.counts.proofs.TestLaws.{not-true}
use Rattle.counts.proofs.SumLaws.{sum-ext}
use Rattle.plane.specs.Columns.{breadth}
use Rattle.plane.proofs.ScaleLaws.{unit, unit-scale}
use Rattle.plane.proofs.DifferenceLaws.{diff-positive, diff-negative}
use Rattle.record.specs.declared.Record.{Record}
use Rattle.record.specs.Order.{left, other_half}
use Rattle.segment.specs.Segments.{segment}
use Rattle.segment.proofs.SegmentLaws.{segment-left}
use Rattle.among.specs.Among.{has}
use Rattle.chart.proofs.HalvesLaws.{left-half}
use Rattle.chart.proofs.OnceLaws.{sound-proper}
use Rattle.area.specs.Areas.{twice_area}
use Rattle.area.specs.Sums.{ground, gain, loss}
use Rattle.area.proofs.AreaLaws.{twice_area-is}
use Rattle.region.proofs.Charts.{upper}
use Rattle.region.proofs.ChartLaws.{segments, room, mem-segments, segments-sum}
use Rattle.around.specs.Departing.{departs}
use Rattle.around.proofs.Parts.{Part, Ranked, left_of, underneath, rightwards, leftwards}
use Rattle.around.proofs.PartLaws.{one_way, has-mem, flip}
use Rattle.around.proofs.PartChartLaws.{part-chart, part-single}
use Rattle.around.proofs.TrapezoidLaws.{trapezoid}
use Rattle.around.proofs.StripAreaLaws.{upper-less}
use Rattle.around.proofs.BreadthLaws.{ahead, aback, gains, losses, both_ways}

module _ {rs : List Record} {rank : Record → ℕ} (ranked : Ranked rs rank) {C : List Record} (part : Part rs C)
    (b : Bool) (keeps : (r : Record) → r ∈ C → departs r ≡ true → left_of C r ≡ b) where
  abbrev over : Record → Bool
  over r = upper (segments C) (segment r)

  -- a left half departs exactly if the part lies above it as b says
  above : (r : Record) → r ∈ C → left r ≡ true → departs r ≡ cond b (over r) (not (over r))
  unfolding left_of
  above r m l = go (departs r) refl
    where
      side : left_of C r ≡ over r
      side = rw l refl

      is : (a b : Bool) → a ≡ b → true ≡ cond b a (not a)
      is a true e = sym e
      is a false e = ap not (sym e)

      is-not : (a b : Bool) → not a ≡ b → false ≡ cond b a (not a)
      is-not a true e = sym (not-true a e)
      is-not a false e = sym e

      other : (a c : Bool) → c ≡ true → a ⊕ c ≡ not a
      other true c e = ap not e
      other false c e = e

      go : (d : Bool) → departs r ≡ d → d ≡ cond b (over r) (not (over r))
      go true h = is (over r) b (sym side ∙ keeps r m h)
      go false h =
          let n = part.sub r m in
          let back = keeps (other_half r) (part.halves r m) (one_way ranked r n ∙ ap not h) in
          is-not (over r) b (ap not (sym side)
          ∙ sym (other (left_of C r) (has C r) ((has-mem ranked part r n).1 m)) ∙ sym (flip ranked part r n) ∙ back)

  -- what lies below the segments that pass a test of their upper side
  abbrev swept : (Bool → Bool) → ℕ
  swept w = sum (λ s. ind (w (upper (segments C) s)) * trapezoid s) (segments C)

  swept-is : (w : Bool → Bool)
      → sum (λ r. ind (left r && w (departs r)) * underneath r) C ≡ swept (λ a. w (cond b a (not a)))
  swept-is w =
      sum-ext _ _ C (λ r m. go r m (left r) refl)
      ∙ segments-sum (λ s. ind (w (cond b (upper (segments C) s) (not (upper (segments C) s)))) * trapezoid s) C
    where
      go : (r : Record) → r ∈ C → (h : Bool) → left r ≡ h → ind (h && w (departs r)) * underneath r
          ≡ ind h * (ind (w (cond b (over r) (not (over r)))) * trapezoid (segment r))
      go r m true e =
          ap₂ (λ d s. ind (w d) * (breadth (segment r) * (s.a.y + s.b.y))) (above r m e) (sym (segment-left r e))
          ∙ omega arith
      go r m false e = omega arith

  pub orientation : (r : Record) → r ∈ C → cond b (rightwards C < leftwards C) (leftwards C < rightwards C)
  orientation r m =
      let h = left-half C (λ e n. sound-proper ranked.sound e (part.sub e n)) part.halves r m in
      go b swept-is
      (upper-less (unit (room rs)) (unit-scale (room rs)) (part-chart ranked part) (part-single ranked part)
      (segment h.0) (mem-segments C h.0 h.1 h.2))
    where
      twice : (a : Bool) → not (not a) ≡ a
      twice true = refl
      twice false = refl

      go : (c : Bool) → ((w : Bool → Bool)
          → sum (λ r. ind (left r && w (departs r)) * underneath r) C ≡ swept (λ a. w (cond c a (not a))))
          → swept (λ a. a) < swept not → cond c (rightwards C < leftwards C) (leftwards C < rightwards C)
      go true h l = omega (arith, h (λ d. d), h not)
      go false h l =
          let back : swept (λ a. not (not a)) ≡ swept (λ a. a) =
          sum-ext _ _ (segments C) (λ s n. ap (λ a. ind a * trapezoid s) (twice (upper (segments C) s))) in
          omega (arith, h (λ d. d), h not)

  pub area-sign : (r : Record) → r ∈ C
      → sum (λ r. ind (departs r) * r.dom.x) C ≡ sum (λ r. ind (departs r) * r.other.x) C
      → (lt_z (pos 0) (twice_area C) ≡ b) × (lt_z (twice_area C) (pos 0) ≡ not b)
  area-sign r m level =
      let w = go b (orientation r m) in (
        ap (lt_z (pos 0)) (twice_area-is C) ∙ diff-positive (sum gain C) (sum loss C) ∙ w.0,
        ap (λ z. lt_z z (pos 0)) (twice_area-is C) ∙ diff-negative (sum gain C) (sum loss C) ∙ w.1,
      )
    where
      even : 2 * ground * sum ahead C ≡ 2 * ground * sum aback C
      even = ap (λ n. 2 * ground * n) (both_ways ranked part level)

      go : (b : Bool) → cond b (rightwards C < leftwards C) (leftwards C < rightwards C)
          → (ltb (sum loss C) (sum gain C) ≡ b) × (ltb (sum gain C) (sum loss C) ≡ not b)
      go true l =
          let less : sum loss C < sum gain C = omega (arith, gains C, losses C, even) in
          (lt-ltb (sum loss C) (sum gain C) less, le-ltb (sum gain C) (sum loss C) (omega arith))
      go false l =
          let less : sum gain C < sum loss C = omega (arith, gains C, losses C, even) in
          (le-ltb (sum loss C) (sum gain C) (omega arith), lt-ltb (sum gain C) (sum loss C) less)
