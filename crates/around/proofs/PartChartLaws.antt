-- A part as a chart: its segments, each once, and what is counted of its records by them.
--     segment-in      the segment of a record of the chart is one of the chart's segments
--     part-chart      the segments of a part are a `SoundChart`, within the room of the whole
--     part-clear      each segment of the chart is clear of them
--     part_small      and lies before the same column
--     part-single     a part has a segment at most once
--     outside         no corner of the chart lies inside one of them
--     by-halves       what is counted of the records of a part: its left halves and its right halves, by their segments
--     even-corner     a part has an even number of records at each corner
-- Assumes nothing.
use mathlib.Core.Path.{◌≡◌, refl, sym, ap, ap₂, ◌∙◌, subst}
use mathlib.Core.Logic.{◌⊎◌, inl, inr}
use mathlib.Core.Bool.{Bool, true, false, not, ◌&&◌}
use mathlib.Core.List.{List}
use Prim.Native.Nat.{ℕ, ◌+◌, ◌<◌, ◌≤◌}
use native.Mathlib.Omega.{arith}
use Rattle.counts.specs.Count.{◌∈◌, ind, count, Even}
use Rattle.counts.proofs.TestLaws.{and-true, is_false}
use Rattle.counts.proofs.SumLaws.{sum-ext, sum-add}
use Rattle.counts.proofs.CountLaws.{count-ext}
use Rattle.counts.proofs.HighestLaws.{at_most_one}
use Rattle.plane.specs.declared.Point.{Point}
use Rattle.plane.specs.declared.Segment.{Segment}
use Rattle.plane.specs.Points.{same, is_segment}
use Rattle.plane.specs.Touching.{Touch, within}
use Rattle.plane.specs.Columns.{ends_at}
use Rattle.plane.proofs.PointLaws.{is_segment-true}
use Rattle.plane.proofs.ContactLaws.{Contact, a-within-s, b-within-s}
use Rattle.plane.proofs.CrossLaws.{contact-touch, contact-distinct}
use Rattle.record.specs.declared.Record.{Record}
use Rattle.record.specs.Order.{left, other_half, Proper}
use Rattle.record.proofs.HalfLaws.{left-other_half}
use Rattle.segment.specs.Segments.{segment, is_record}
use Rattle.segment.proofs.SegmentLaws.{segment-left, segment-right, segment-other_half, is_record-refl}
use Rattle.chart.proofs.OnceLaws.{sound-proper, sound-half}
use Rattle.chart.proofs.HalvesLaws.{left-half}
use Rattle.region.proofs.Charts.{SoundChart, Clear}
use Rattle.region.proofs.ChartLaws.{segments, of_segment-count, segments-mem, mem-segments, room, sound-chart}
use Rattle.region.proofs.EndLaws.{one_end}
use Rattle.around.proofs.Parts.{Part, Ranked}
use Rattle.around.proofs.PartLaws.{halves-sum}

module _ {rs : List Record} {rank : Record → ℕ} (ranked : Ranked rs rank) where
  charted : SoundChart (room rs) (segments rs)
  charted = sound-chart ranked.sound

  pub segment-in : (r : Record) → r ∈ rs → segment r ∈ segments rs
  segment-in r m =
      let h = left-half rs (sound-proper ranked.sound) ranked.sound.halves r m in
      subst (λ t. t ∈ segments rs) h.3 (mem-segments rs h.0 h.1 h.2)

  pub part_small : (r : Record) → r ∈ rs → (segment r).b.x < room rs
  part_small r m = charted.chart.small (segment r) (segment-in r m)

  module _ {C : List Record} (part : Part rs C) where
    in_whole : (t : Segment) → t ∈ segments C → t ∈ segments rs
    in_whole t m =
        let h = segments-mem C t m in
        subst (λ u. u ∈ segments rs) (sym h.3) (mem-segments rs h.0 (part.sub h.0 h.1) h.2)

    pub part-clear : (r : Record) → r ∈ rs → Clear (segments C) (segment r)
    part-clear r m t n = charted.clear (segment r) (segment-in r m) t (in_whole t n)

    pub part-chart : SoundChart (room rs) (segments C)
    part-chart = record {
      chart = record {
        forward = λ t m. charted.chart.forward t (in_whole t m);
        small = λ t m. charted.chart.small t (in_whole t m);
        even = λ p. rw (sym (of_segment-count (ends_at p) C)) (part.even p);
      };
      clear = λ s m t n. charted.clear s (in_whole s m) t (in_whole t n);
    }

    pub part-single : (s : Segment) → count (is_segment s) (segments C) ≤ 1
    part-single s =
        rw (sym (of_segment-count (is_segment s) C))
        (at_most_one _ (λ r e. is_record e r) is_record-refl C (λ r m. part.once r) (λ r e m n h g.
        let a = and-true (left r) _ h in
        let b = and-true (left e) _ g in
        sound-half ranked.sound r e (part.sub r m) (part.sub e n) (a.0 ∙ sym b.0)
        (is_segment-true s (segment r) a.1 ∙ sym (is_segment-true s (segment e) b.1))))

    pub outside : (r : Record) → r ∈ rs → (t : Segment) → t ∈ segments C → within t r.dom ≡ false
    outside r m t n = is_false _ (λ h. apart (contact (left r) refl h))
      where
        contact : (b : Bool) → left r ≡ b → within t r.dom ≡ true → Contact t (segment r)
        contact true e h = a-within-s (ap (λ u. within t u.a) (segment-left r e) ∙ h)
        contact false e h = b-within-s (ap (λ u. within t u.b) (segment-right r e) ∙ h)

        apart : Contact t (segment r) → ⊥
        apart c = go (charted.clear t (in_whole t n) (segment r) (segment-in r m))
          where
            go : (segment r ≡ t) ⊎ (¬ (Touch t (segment r))) → ⊥
            go (inl e) = contact-distinct t (segment r) c (sym e)
            go (inr free) = free (contact-touch t (segment r) c)

    -- ---- records by their segments

    right-halves : (q : Segment → Bool) → count (λ r. not (left r) && q (segment r)) C ≡ count q (segments C)
    right-halves q =
        halves-sum ranked part (λ r. ind (not (left r) && q (segment r)))
        ∙ count-ext _ _ C (λ r m. turned r (sound-proper ranked.sound r (part.sub r m)))
        ∙ of_segment-count q C
      where
        not-not : (b : Bool) → not (not b) ≡ b
        not-not true = refl
        not-not false = refl

        turned : (r : Record) → Proper r
            → not (left (other_half r)) && q (segment (other_half r)) ≡ left r && q (segment r)
        turned r p = rw (left-other_half r p, segment-other_half r p, not-not (left r)) refl

    pub by-halves : (f : Record → Bool) (q u : Segment → Bool)
        → ((r : Record) → r ∈ C → left r ≡ true → f r ≡ q (segment r))
        → ((r : Record) → r ∈ C → left r ≡ false → f r ≡ u (segment r))
        → count f C ≡ count q (segments C) + count u (segments C)
    by-halves f q u lefts rights =
        sum-ext _ _ C (λ r m. one r m (left r) refl)
        ∙ sum-add (λ r. ind (left r && q (segment r))) (λ r. ind (not (left r) && u (segment r))) C
        ∙ ap₂ ◌+◌ (of_segment-count q C) (right-halves u)
      where
        one : (r : Record) → r ∈ C → (b : Bool) → left r ≡ b
            → ind (f r) ≡ ind (b && q (segment r)) + ind (not b && u (segment r))
        one r m true e = rw (lefts r m e) (omega arith)
        one r m false e = rw (rights r m e) (omega arith)

    pub even-corner : (p : Point) → Even (count (λ r. same r.dom p) C)
    even-corner p =
        rw (by-halves (λ r. same r.dom p) (λ t. same t.a p) (λ t. same t.b p)
        (λ r m e. ap (λ t. same t.a p) (sym (segment-left r e)))
        (λ r m e. ap (λ t. same t.b p) (sym (segment-right r e)))
        ∙ sym (sum-add (λ t. ind (same t.a p)) (λ t. ind (same t.b p)) (segments C))
        ∙ sum-ext _ _ (segments C) (λ t m. one_end p t (part-chart.chart.forward t m)))
        (part-chart.chart.even p)
