-- The segments of several charts laid over each other, as the theory takes them. A device of the proofs.
--     Overlay W cs us    us are the segments of the charts cs, each once; each chart is sound and has a segment once;
--                        no two of us touch
--     odd_in q cs        of each chart, whether an odd number of its segments pass q
--     kept_in f cs us    those of us that are kept
-- Assumes nothing.
use mathlib.Core.Bool.{Bool}
use mathlib.Core.List.{List, map}
use Prim.Native.Nat.{ℕ, ◌≤◌}
use Rattle.counts.specs.Count.{◌∈◌, count, keep, odd}
use Rattle.plane.specs.declared.Segment.{Segment}
use Rattle.plane.specs.Points.{is_segment}
use Rattle.record.specs.declared.Record.{Record}
use Rattle.region.proofs.Charts.{SoundChart, Clear}
use Rattle.region.proofs.ChartLaws.{segments}
use Rattle.combined.specs.Kept.{keeps}

pub record Overlay (W : ℕ) (cs : List (List Record)) (us : List Segment) : Type 0 where
  pub sound : (c : List Record) → c ∈ cs → SoundChart W (segments c)
  pub single : (c : List Record) → c ∈ cs → (t : Segment) → count (is_segment t) (segments c) ≤ 1
  pub owner : (t : Segment) → t ∈ us → (c : List Record) × (c ∈ cs) × (t ∈ segments c)
  pub all : (c : List Record) → c ∈ cs → (t : Segment) → t ∈ segments c → t ∈ us
  pub once : (t : Segment) → count (is_segment t) us ≤ 1
  pub clear : (s : Segment) → s ∈ us → Clear us s

abbrev pub odd_in : (Segment → Bool) → List (List Record) → List Bool
odd_in q cs = map (λ c. odd (count q (segments c))) cs

abbrev pub kept_in : (List Bool → Bool) → List (List Record) → List Segment → List Segment
kept_in f cs us = keep (keeps f cs) us
