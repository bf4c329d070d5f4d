-- An accepted chart as the theory takes it: its records as the list of its segments, each left half standing for one.
--     segments rs                    that list
--     of_segment-count, of_segment-any   counting records by their segments is counting segments
--     segments-sum                   a sum over the left halves is a sum over the segments
--     segments-mem, mem-segments     its members are the segments of the left halves
--     upper_side-is, lower_side-is   the two sides of a segment over the records are those over the segments
--     room rs                        a column past every one of them
--     sound-chart                    the segments of a sound chart are a `SoundChart`
-- Assumes nothing.
use mathlib.Core.Path.{◌≡◌, refl, sym, ap, ap₂, ◌∙◌}
use mathlib.Core.Logic.{◌⊎◌, inl, inr}
use mathlib.Core.Bool.{Bool, true, false, cond, true≢false}
use mathlib.Core.List.{List, [], ◌∷◌, map}
use Prim.Native.Nat.{ℕ, suc, ◌+◌, ◌*◌, ◌<◌}
use native.Mathlib.Omega.{arith}
use Rattle.counts.specs.Count.{◌∈◌, ind, sum, count, keep, any, odd, ◌⊕◌}
use Rattle.counts.proofs.SumLaws.{sum-member}
use Rattle.counts.proofs.CountLaws.{count-keep, keep-mem, mem-keep, any-keep}
use Rattle.counts.proofs.MapLaws.{count_map, any-map, map-mem, mem-map}
use Rattle.plane.specs.declared.Segment.{Segment}
use Rattle.plane.specs.Points.{is_segment}
use Rattle.plane.specs.Touching.{Touch}
use Rattle.plane.specs.Columns.{counted_for, ends_at}
use Rattle.plane.proofs.PointLaws.{is_segment-true, is_segment-refl}
use Rattle.record.specs.declared.Record.{Record}
use Rattle.record.specs.Order.{left}
use Rattle.segment.specs.Segments.{segment, of_segment}
use Rattle.segment.proofs.SegmentLaws.{segment-forward}
use Rattle.chart.specs.Regions.{Sound}
use Rattle.chart.proofs.OnceLaws.{sound-proper}
use Rattle.region.specs.TwoSides.{upper_side, lower_side}
use Rattle.region.proofs.Charts.{SoundChart, Clear, upper, lower}

abbrev pub segments : List Record → List Segment
segments rs = map segment (keep left rs)

module _ (q : Segment → Bool) (rs : List Record) where
  pub of_segment-count : count (of_segment q) rs ≡ count q (segments rs)
  of_segment-count = sym (count_map segment q (keep left rs) ∙ count-keep left (λ r. q (segment r)) rs)

  pub of_segment-any : any (of_segment q) rs ≡ any q (segments rs)
  of_segment-any = sym (any-map segment q (keep left rs) ∙ any-keep left (λ r. q (segment r)) rs)

pub segments-sum : (v : Segment → ℕ) (C : List Record) → sum (λ r. ind (left r) * v (segment r)) C ≡ sum v (segments C)
unfolding sum keep
segments-sum v [] = refl
segments-sum v (r ∷ rs) = go (left r) (segments-sum v rs)
  where
    go : (b : Bool) → sum (λ r. ind (left r) * v (segment r)) rs ≡ sum v (segments rs)
        → ind b * v (segment r) + sum (λ r. ind (left r) * v (segment r)) rs
        ≡ sum v (map segment (cond b (r ∷ keep left rs) (keep left rs)))
    go true h = omega arith
    go false h = omega arith

module _ (rs : List Record) (s : Segment) where
  pub upper_side-is : upper_side rs s ≡ upper (segments rs) s
  upper_side-is = ap odd (of_segment-count (counted_for s) rs)

  pub lower_side-is : lower_side rs s ≡ lower (segments rs) s
  lower_side-is = ap₂ ◌⊕◌ upper_side-is (of_segment-any (is_segment s) rs)

pub segments-mem : (rs : List Record) (t : Segment) → t ∈ segments rs
    → (r : Record) × (r ∈ rs) × (left r ≡ true) × (t ≡ segment r)
segments-mem rs t m =
    let w = map-mem segment (keep left rs) t m in
    let k = keep-mem left rs w.0 w.1 in
    (w.0, k.0, k.1, w.2)

pub mem-segments : (rs : List Record) (r : Record) → r ∈ rs → left r ≡ true → segment r ∈ segments rs
mem-segments rs r m h = mem-map segment (keep left rs) r (mem-keep left rs r m h)

pub room : List Record → ℕ
room rs = suc (sum (λ t. t.b.x) (segments rs))

module _ {rs : List Record} (sound : Sound rs) where
  small : (t : Segment) → t ∈ segments rs → t.b.x < room rs
  unfolding room
  small t m = omega (arith, sum-member (λ t. t.b.x) (segments rs) t m)

  clear : (s : Segment) → s ∈ segments rs → Clear (segments rs) s
  clear s m t n = by-test (is_segment s t) refl
    where
      by-test : (b : Bool) → is_segment s t ≡ b → (t ≡ s) ⊎ (¬ (Touch s t))
      by-test true e = inl (is_segment-true s t e)
      by-test false e =
          let r = segments-mem rs s m in
          let h = segments-mem rs t n in
          inr (λ touch. sound.apart r.0 h.0 r.1 h.1
          (λ g. true≢false (sym (ap (is_segment s) (h.3 ∙ sym g ∙ sym r.3) ∙ is_segment-refl s) ∙ e))
          (rw (r.3, h.3) at touch))

  pub sound-chart : SoundChart (room rs) (segments rs)
  sound-chart = record {
    chart = record {
      forward = λ t m. let r = segments-mem rs t m in
          rw r.3 (segment-forward r.0 (sound-proper sound r.0 r.1));
      small = small;
      even = λ p. rw (sym (of_segment-count (ends_at p) rs)) (sound.even p);
    };
    clear = clear;
  }
