-- What is among the records of a part, and the two halves of a segment of it.
--     part-whole      a ranked chart is a part of itself
--     has-mem         a part has a record exactly if that is one of its records
--     has-segment     it has the segment of a record of the chart exactly if it has the record
--     flip            left of the other half is what is right of the first: the same, but for the segment itself
--     one_way         of the two halves of a segment one departs
--     rank-one        two records of one rank are one
--     halves-sum      over a part, what is summed of the other halves is summed of the records
-- Assumes nothing.
use mathlib.Core.Path.{◌≡◌, refl, sym, ap, ap₂, ◌∙◌, subst}
use mathlib.Core.Logic.{◌↔◌}
use mathlib.Core.Bool.{Bool, true, false, not, cond}
use mathlib.Core.List.{List}
use Prim.Native.Nat.{ℕ, ◌*◌}
use native.Mathlib.Omega.{arith}
use lib.Dec.{eqb}
use borrow.Author.Tests.{le-ltb}
use Rattle.counts.specs.Count.{◌∈◌, sum, count, any, ◌⊕◌}
use Rattle.counts.proofs.TestLaws.{same_test}
use Rattle.counts.proofs.SumLaws.{sum-ext}
use Rattle.counts.proofs.CountLaws.{count-ext, count-some}
use Rattle.counts.proofs.HighestLaws.{any-member}
use Rattle.counts.proofs.FibreLaws.{matched}
use Rattle.plane.specs.Points.{is_segment}
use Rattle.plane.proofs.PointLaws.{is_segment-true, is_segment-refl}
use Rattle.record.specs.declared.Record.{Record}
use Rattle.record.specs.Records.{marked}
use Rattle.record.specs.Order.{left, other_half, Proper}
use Rattle.record.proofs.HalfLaws.{left-other_half}
use Rattle.record.proofs.OrderLaws.{precedes-total}
use Rattle.segment.specs.Segments.{segment, is_record}
use Rattle.segment.proofs.SegmentLaws.{segment-other_half, is_record-true, is_record-refl}
use Rattle.among.specs.Among.{has}
use Rattle.chart.proofs.OnceLaws.{sound-proper, sound-half}
use Rattle.region.proofs.Charts.{upper, lower}
use Rattle.region.proofs.ChartLaws.{segments, segments-mem, mem-segments}
use Rattle.around.specs.Departing.{departs}
use Rattle.around.proofs.Parts.{Part, Ranked, left_of}

module _ {rs : List Record} {rank : Record → ℕ} (ranked : Ranked rs rank) where
  -- ---- of the chart

  pub part-whole : Part rs rs
  part-whole = record {
    sub = λ r m. m;
    halves = ranked.sound.halves;
    once = ranked.once;
    even = ranked.sound.even;
  }

  pub one_way : (r : Record) → r ∈ rs → departs (other_half r) ≡ not (departs r)
  one_way r m = by-mark (eqb r.mark marked) refl
    where
      other : left (other_half r) ≡ not (left r)
      other = left-other_half r (sound-proper ranked.sound r m)

      by-mark : (a : Bool) → eqb r.mark marked ≡ a → departs (other_half r) ≡ not (departs r)
      by-mark true e = rw (e, other) refl
      by-mark false e = rw (e, other) refl

  pub rank-one : (r e : Record) → r ∈ rs → e ∈ rs → rank r ≡ rank e → r ≡ e
  unfolding segment
  rank-one r e m n h =
      let sound = ranked.sound in
      let ends = precedes-total r e (sound-proper sound r m) (sound-proper sound e n)
      (sym (ranked.follows r e m n) ∙ le-ltb (rank r) (rank e) (omega arith))
      (sym (ranked.follows e r n m) ∙ le-ltb (rank e) (rank r) (omega arith)) in
      sound-half sound r e m n (same_half ends.0 ends.1) (one-segment ends.0 ends.1)
    where
      same_half : r.dom ≡ e.dom → r.other ≡ e.other → left r ≡ left e
      same_half d o = λ i. left (record { dom = d i; other = o i; mark = r.mark })

      one-segment : r.dom ≡ e.dom → r.other ≡ e.other → segment r ≡ segment e
      one-segment d o = λ i. segment (record { dom = d i; other = o i; mark = r.mark })

  -- ---- of a part

  module _ {C : List Record} (part : Part rs C) where
    pub has-mem : (r : Record) → r ∈ rs → (has C r ≡ true) ↔ (r ∈ C)
    has-mem r m = (
      (λ h. let w = (any-member (is_record r) C).0 h in subst (λ e. e ∈ C) (is_record-true r w.0 w.2) w.1),
      (λ n. (any-member (is_record r) C).1 (r, n, is_record-refl r)),
    )

    -- the left half of the segment of r is r or its other half
    pub has-segment : (r : Record) → r ∈ rs → any (is_segment (segment r)) (segments C) ≡ has C r
    has-segment r m = same_test _ _ to from
      where
        proper : Proper r
        proper = sound-proper ranked.sound r m

        of_left : (h : Record) → h ∈ C → left h ≡ true → segment h ≡ segment r → (b : Bool) → left r ≡ b → r ∈ C
        of_left h n l g true e =
            subst (λ k. k ∈ C) (sound-half ranked.sound h r (part.sub h n) m (l ∙ sym e) g) n
        of_left h n l g false e =
            part.halves (other_half r) (subst (λ k. k ∈ C)
            (sound-half ranked.sound h (other_half r) (part.sub h n) (ranked.sound.halves r m)
            (l ∙ sym (left-other_half r proper ∙ ap not e)) (g ∙ sym (segment-other_half r proper))) n)

        to : any (is_segment (segment r)) (segments C) ≡ true → has C r ≡ true
        to h =
            let w = (any-member (is_segment (segment r)) (segments C)).0 h in
            let k = segments-mem C w.0 w.1 in
            (has-mem r m).1 (of_left k.0 k.1 k.2
            (sym k.3 ∙ is_segment-true (segment r) w.0 w.2) (left r) refl)

        left_in : r ∈ C → (b : Bool) → left r ≡ b → segment r ∈ segments C
        left_in n true e = mem-segments C r n e
        left_in n false e =
            subst (λ t. t ∈ segments C) (segment-other_half r proper)
            (mem-segments C (other_half r) (part.halves r n) (left-other_half r proper ∙ ap not e))

        from : has C r ≡ true → any (is_segment (segment r)) (segments C) ≡ true
        from h =
            (any-member (is_segment (segment r)) (segments C)).1
            (segment r, left_in ((has-mem r m).0 h) (left r) refl, is_segment-refl (segment r))

    pub flip : (r : Record) → r ∈ rs → left_of C (other_half r) ≡ left_of C r ⊕ has C r
    unfolding left_of
    flip r m =
        let proper = sound-proper ranked.sound r m in
        ap₂ (λ b s. cond b (upper (segments C) s) (lower (segments C) s)) (left-other_half r proper)
        (segment-other_half r proper)
        ∙ table (left r) (upper (segments C) (segment r)) _ _ (has-segment r m)
      where
        table : (a u h k : Bool) → h ≡ k → cond (not a) u (u ⊕ h) ≡ cond a u (u ⊕ h) ⊕ k
        table true u h k e = ap (λ b. u ⊕ b) e
        table false true true k e = ap (λ b. false ⊕ b) e
        table false true false k e = ap (λ b. true ⊕ b) e
        table false false true k e = ap (λ b. true ⊕ b) e
        table false false false k e = ap (λ b. false ⊕ b) e

    pub halves-sum : (w : Record → ℕ) → sum w C ≡ sum (λ r. w (other_half r)) C
    halves-sum w =
        sum-ext _ _ C (λ r m. single (w r) _ (once (other_half r) (part.halves r m)))
        ∙ matched (λ r e. is_record (other_half r) e) w (λ e. w (other_half e))
        (λ r e t. ap (λ k. w (other_half k)) (sym (is_record-true (other_half r) e t))) C C
        ∙ sum-ext _ _ C (λ e m. sym (single (w (other_half e)) _
        (count-ext _ _ C (λ r n. turned r e) ∙ once (other_half e) (part.halves e m))))
      where
        single : (k n : ℕ) → n ≡ 1 → k ≡ k * n
        single k n e = sym (ap (λ j. k * j) e ∙ omega arith)

        once : (r : Record) → r ∈ C → count (is_record r) C ≡ 1
        once r m = omega (arith, part.once r, count-some (is_record r) C r m (is_record-refl r))

        turned : (r e : Record) → is_record (other_half r) e ≡ is_record (other_half e) r
        turned r e =
            same_test _ _ (λ t. rw (is_record-true (other_half r) e t) (is_record-refl r))
            (λ t. rw (is_record-true (other_half e) r t) (is_record-refl e))
