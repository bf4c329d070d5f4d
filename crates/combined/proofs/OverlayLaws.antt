-- Charts that can be combined, laid over each other, are an `Overlay`: what the theory takes.
--     laid-overlay    of charts by their records
--     overlay         of arrays
-- Assumes nothing.
use mathlib.Core.Path.{◌≡◌, refl, sym, ap, ap₂, ◌∙◌, subst}
use mathlib.Core.Logic.{◌⊎◌, inl, inr}
use mathlib.Core.Bool.{Bool, true, false, ◌&&◌, true≢false}
use mathlib.Core.List.{List, map}
use Prim.Native.Nat.{ℕ, ◌≤◌}
use native.Mathlib.Omega.{arith}
use lib.IntN.{ℤ}
use Rattle.counts.specs.Count.{◌∈◌, sum}
use Rattle.counts.proofs.SumLaws.{sum-member}
use Rattle.counts.proofs.HighestLaws.{any_none}
use Rattle.plane.specs.declared.Segment.{Segment}
use Rattle.plane.specs.Points.{is_segment}
use Rattle.plane.specs.Touching.{Touch}
use Rattle.plane.proofs.PointLaws.{is_segment-true, is_segment-refl}
use Rattle.plane.proofs.TouchLaws.{touches-is}
use Rattle.record.specs.declared.Record.{Record}
use Rattle.record.specs.Records.{records}
use Rattle.record.specs.Order.{left}
use Rattle.segment.specs.Segments.{segment}
use Rattle.segment.proofs.SegmentLaws.{segment-forward}
use Rattle.region.proofs.Charts.{SoundChart, Clear}
use Rattle.region.proofs.ChartLaws.{segments, segments-mem, mem-segments, room, sound-chart}
use Rattle.combined.specs.Kept.{either}
use Rattle.combined.specs.Together.{Together}
use Rattle.combined.proofs.Overlay.{Overlay}
use Rattle.combined.proofs.EndsLaws.{ends-left, ends-segment, single-segments}
use Rattle.combined.proofs.Laid.{Laid, together-laid}
use Rattle.combined.proofs.EitherLaws.{either-mem, mem-either, either-proper, either-once}

-- a column past every segment stays so further right
wider : {w W : ℕ} {ss : List Segment} → w ≤ W → SoundChart w ss → SoundChart W ss
wider l c = record {
  chart = record {
    forward = c.chart.forward;
    small = λ t m. omega (arith, c.chart.small t m);
    even = c.chart.even;
  };
  clear = c.clear;
}

module _ {cs : List (List Record)} (laid : Laid cs) where
  owner : (t : Segment) → t ∈ segments (either cs) → (c : List Record) × (c ∈ cs) × (t ∈ segments c)
  owner t m =
      let r = segments-mem (either cs) t m in
      let w = either-mem cs r.0 r.1 in
      (w.0, w.1, subst (λ t. t ∈ segments w.0) (sym r.3) (mem-segments w.0 r.0 w.2 r.2))

  all_there : (c : List Record) → c ∈ cs → (t : Segment) → t ∈ segments c → t ∈ segments (either cs)
  all_there c n t m =
      let r = segments-mem c t m in
      let w = mem-either cs laid c n r.0 r.1 in
      subst (λ t. t ∈ segments (either cs)) (ends-segment r.0 w.0 w.2 w.3 ∙ sym r.3)
      (mem-segments (either cs) w.0 w.1 (ends-left r.0 w.0 w.2 w.3 ∙ r.2))

  -- the test asks left halves only
  apart : (r e : Record) → r ∈ either cs → e ∈ either cs → left e ≡ true → (segment r ≡ segment e → ⊥)
      → Touch (segment r) (segment e) → ⊥
  apart r e m n l differ touch =
      let w = either-mem cs r m in
      let v = either-mem cs e n in
      let off = (any_none _ v.0).0 (laid.apart w.0 v.0 w.1 v.1 r w.2) e v.2 in
      let t = (touches-is (segment r) (segment e) (segment-forward r (either-proper cs laid r m))
      (segment-forward e (either-proper cs laid e n))).1 (differ, touch) in
      true≢false (sym (ap₂ ◌&&◌ l t) ∙ off)

  clear : (s : Segment) → s ∈ segments (either cs) → Clear (segments (either cs)) s
  clear s m t n = by-test (is_segment s t) refl
    where
      by-test : (b : Bool) → is_segment s t ≡ b → (t ≡ s) ⊎ (¬ (Touch s t))
      by-test true e = inl (is_segment-true s t e)
      by-test false e =
          let r = segments-mem (either cs) s m in
          let h = segments-mem (either cs) t n in
          inr (λ touch. apart r.0 h.0 r.1 h.1 h.2
          (λ g. true≢false (sym (ap (is_segment s) (h.3 ∙ sym g ∙ sym r.3) ∙ is_segment-refl s) ∙ e))
          (rw (r.3, h.3) at touch))

  pub laid-overlay : (W : ℕ) × Overlay W cs (segments (either cs))
  laid-overlay = (
    sum room cs,
    record {
      sound = λ c m. wider (sum-member room cs c m) (sound-chart (laid.sound c m));
      single = λ c m. single-segments c (laid.once c m);
      owner = owner;
      all = all_there;
      once = single-segments (either cs) (either-once cs laid);
      clear = clear;
    },
  )

pub overlay : {ss : List (List ℤ)} → Together ss
    → (W : ℕ) × Overlay W (map records ss) (segments (either (map records ss)))
overlay t = laid-overlay (together-laid t)
