-- Records by their two ends, which record order and a record's segment go by, and a chart that has such a record.
--     same_ends r e                     e has the ends of r, whatever its mark
--     same_ends-true, same_ends-intro   the test and what it tests, both ways
--     ends-left, ends-segment           it is of the same half and of the same segment
--     half-ends                         and records of one half and of one segment have the same ends
--     has_segment-mem, mem-has_segment  a sound chart has a segment exactly if it has its records
--     single-segments                   where no two records have the same ends, no two segments are one
-- Assumes nothing.
use mathlib.Core.Path.{◌≡◌, refl, sym, ap, ◌∙◌}
use mathlib.Core.Bool.{Bool, true, false, not, ◌&&◌}
use mathlib.Core.List.{List}
use Prim.Native.Nat.{◌≤◌}
use native.Mathlib.Omega.{arith}
use Rattle.counts.specs.Count.{◌∈◌, count}
use Rattle.counts.proofs.TestLaws.{and_intro, and-true}
use Rattle.counts.proofs.CountLaws.{count-le}
use Rattle.counts.proofs.HighestLaws.{any-member}
use Rattle.plane.specs.declared.Segment.{Segment}
use Rattle.plane.specs.Points.{before, same, is_segment}
use Rattle.plane.proofs.PointLaws.{same_true, same_refl, is_segment-true, is_segment-refl}
use Rattle.record.specs.declared.Record.{Record}
use Rattle.record.specs.Records.{unmarked}
use Rattle.record.specs.Order.{left, other_half, Proper}
use Rattle.record.proofs.HalfLaws.{left-other_half}
use Rattle.segment.specs.Segments.{segment, of_segment}
use Rattle.segment.proofs.SegmentLaws.{segment-left, segment-right, segment-other_half}
use Rattle.among.specs.Among.{has_segment}
use Rattle.chart.specs.Regions.{Sound}
use Rattle.chart.proofs.HalvesLaws.{left-half}
use Rattle.chart.proofs.OnceLaws.{sound-proper}
use Rattle.region.proofs.ChartLaws.{segments, of_segment-count}

abbrev pub same_ends : Record → Record → Bool
same_ends r e = same e.dom r.dom && same e.other r.other

module _ (r e : Record) where
  pub same_ends-true : same_ends r e ≡ true → (e.dom ≡ r.dom) × (e.other ≡ r.other)
  same_ends-true t =
      let h = and-true (same e.dom r.dom) _ t in
      (same_true e.dom r.dom h.0, same_true e.other r.other h.1)

  pub same_ends-intro : e.dom ≡ r.dom → e.other ≡ r.other → same_ends r e ≡ true
  same_ends-intro d o =
      and_intro (ap (λ p. same p r.dom) d ∙ same_refl r.dom)
      (ap (λ p. same p r.other) o ∙ same_refl r.other)

  pub ends-left : e.dom ≡ r.dom → e.other ≡ r.other → left e ≡ left r
  ends-left d o = λ i. before (d i) (o i)

  pub ends-segment : e.dom ≡ r.dom → e.other ≡ r.other → segment e ≡ segment r
  unfolding segment
  ends-segment d o = λ i. segment (record { dom = d i; other = o i; mark = e.mark })

  pub half-ends : left e ≡ left r → segment e ≡ segment r → (e.dom ≡ r.dom) × (e.other ≡ r.other)
  half-ends h g = by-half (left r) h refl
    where
      by-half : (b : Bool) → left e ≡ b → left r ≡ b → (e.dom ≡ r.dom) × (e.other ≡ r.other)
      by-half true p q =
          let k = sym (segment-left e p) ∙ g ∙ segment-left r q in
          (ap (λ s. s.a) k, ap (λ s. s.b) k)
      by-half false p q =
          let k = sym (segment-right e p) ∙ g ∙ segment-right r q in
          (ap (λ s. s.b) k, ap (λ s. s.a) k)

module _ {c : List Record} (sound : Sound c) (r : Record) where
  pub has_segment-mem : Proper r → has_segment c (segment r) ≡ true
      → (e : Record) × (e ∈ c) × (e.dom ≡ r.dom) × (e.other ≡ r.other)
  has_segment-mem p t =
      let w = (any-member _ c).0 t in
      let h = and-true (left w.0) _ w.2 in
      by-half w.0 w.1 h.0 (is_segment-true (segment r) (segment w.0) h.1) (left r) refl
    where
      by-half : (e : Record) → e ∈ c → left e ≡ true → segment e ≡ segment r → (b : Bool) → left r ≡ b
          → (e : Record) × (e ∈ c) × (e.dom ≡ r.dom) × (e.other ≡ r.other)
      by-half e m l g true h =
          let k = half-ends r e (l ∙ sym h) g in
          (e, m, k.0, k.1)
      by-half e m l g false h =
          let q = sound-proper sound e m in
          let k = half-ends r (other_half e) (left-other_half e q ∙ ap not l ∙ sym h) (segment-other_half e q ∙ g) in
          (other_half e, sound.halves e m, k.0, k.1)

  pub mem-has_segment : (e : Record) → e ∈ c → segment e ≡ segment r → has_segment c (segment r) ≡ true
  mem-has_segment e m g =
      let h = left-half c (sound-proper sound) sound.halves e m in
      let one = ap (is_segment (segment r)) (h.3 ∙ g) ∙ is_segment-refl (segment r) in
      (any-member _ c).1 (h.0, h.1, and_intro h.2 one)

pub single-segments : (rs : List Record) → ((r : Record) → count (same_ends r) rs ≤ 1)
    → (t : Segment) → count (is_segment t) (segments rs) ≤ 1
single-segments rs once t =
    let r : Record = record { dom = t.a; other = t.b; mark = unmarked } in
    omega (
      arith,
      once r,
      of_segment-count (is_segment t) rs,
      count-le (of_segment (is_segment t)) (same_ends r) rs (λ e m h. ends e (and-true (left e) _ h)),
    )
  where
    ends : (e : Record) → (left e ≡ true) × (is_segment t (segment e) ≡ true)
        → same_ends (record { dom = t.a; other = t.b; mark = unmarked }) e ≡ true
    ends e h =
        let k = sym (segment-left e h.0) ∙ is_segment-true t (segment e) h.1 in
        same_ends-intro (record { dom = t.a; other = t.b; mark = unmarked }) e (ap (λ s. s.a) k) (ap (λ s. s.b) k)
