-- Charts laid over each other, each by its records. A device of the proofs.
--     Laid cs          each chart is sound and has no two records with the same ends; no segment of one touches a
--                      segment of another, or of itself
--     together-laid    so are those that can be combined
--     laid-rest        and the charts after the first
-- Assumes nothing.
use mathlib.Core.Path.{◌≡◌, sym, ◌∙◌, subst}
use mathlib.Core.Bool.{false}
use mathlib.Core.List.Memᴰ
use mathlib.Core.List.{List, ◌∷◌, map}
use Prim.Native.Nat.{◌≤◌}
use native.Mathlib.Omega.{arith}
use lib.IntN.{ℤ}
use Rattle.counts.specs.Count.{◌∈◌, count}
use Rattle.counts.proofs.HighestLaws.{at_most_one}
use Rattle.counts.proofs.MapLaws.{map-mem}
use Rattle.record.specs.declared.Record.{Record}
use Rattle.record.specs.Records.{records}
use Rattle.segment.specs.Segments.{segment, is_record}
use Rattle.segment.proofs.SegmentLaws.{is_record-refl}
use Rattle.among.specs.Among.{touched}
use Rattle.chart.specs.Regions.{Sound, Region}
use Rattle.chart.proofs.OnceLaws.{sound-half, region-once}
use Rattle.combined.specs.Together.{Together}
use Rattle.combined.proofs.EndsLaws.{same_ends, same_ends-true, ends-left, ends-segment}

pub record Laid (cs : List (List Record)) : Type 0 where
  pub sound : (c : List Record) → c ∈ cs → Sound c
  pub once : (c : List Record) → c ∈ cs → (r : Record) → count (same_ends r) c ≤ 1
  pub apart : (c d : List Record) → c ∈ cs → d ∈ cs → (r : Record) → r ∈ c → touched d (segment r) ≡ false

region-ends : {s : List ℤ} → Region s → (r : Record) → count (same_ends r) (records s) ≤ 1
region-ends {s} region r =
    at_most_one (same_ends r) (λ e h. is_record h e) is_record-refl (records s)
    (λ e m. omega (arith, region-once region e m))
    (λ e h m n p q. one e h m n (same_ends-true r e p) (same_ends-true r h q))
  where
    one : (e h : Record) → e ∈ records s → h ∈ records s → (e.dom ≡ r.dom) × (e.other ≡ r.other)
        → (h.dom ≡ r.dom) × (h.other ≡ r.other) → e ≡ h
    one e h m n p q =
        let d = p.0 ∙ sym q.0 in
        let o = p.1 ∙ sym q.1 in
        sound-half region.sound e h m n (ends-left h e d o) (ends-segment h e d o)

pub together-laid : {ss : List (List ℤ)} → Together ss → Laid (map records ss)
together-laid {ss} t = record {
  sound = λ c m. let w = map-mem records ss c m in subst Sound (sym w.2) (t.regions w.0 w.1).sound;
  once = λ c m r. let w = map-mem records ss c m in
      subst (λ c. count (same_ends r) c ≤ 1) (sym w.2) (region-ends (t.regions w.0 w.1) r);
  apart = λ c d m n r k.
      let w = map-mem records ss c m in
      let v = map-mem records ss d n in
      subst (λ d. touched d (segment r) ≡ false) (sym v.2)
      (t.apart w.0 v.0 w.1 v.1 r (subst (λ c. r ∈ c) w.2 k));
}

pub laid-rest : {c : List Record} {cs : List (List Record)} → Laid (c ∷ cs) → Laid cs
laid-rest laid = record {
  sound = λ c m. laid.sound c (Memᴰ.tail m);
  once = λ c m. laid.once c (Memᴰ.tail m);
  apart = λ c d m n. laid.apart c d (Memᴰ.tail m) (Memᴰ.tail n);
}
