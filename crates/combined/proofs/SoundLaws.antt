-- Demand 3, second part: what comes out of a combination is itself a chart. The charts ss are any number of arrays, f
-- any function of their answers that is false where all are false.
--     result-sound      the result is sound
--     result-region     and where it is no longer than the limit, its numbers are a region
--     result-mark       its marks, which are the counted ones, are what f makes of the upper sides
--     sides-marked      so a program may mark by these, and has the result
-- Assumes nothing.
use mathlib.Core.Path.{◌≡◌, sym, ap, ◌∙◌}
use mathlib.Core.Logic.{◌⊎◌, inl, inr}
use mathlib.Core.Bool.{Bool, true, false, cond}
use mathlib.Core.List.{List, [], map}
use Prim.Native.Nat.{ℕ, suc, ◌<◌, ◌≤◌}
use native.Mathlib.Omega.{arith}
use lib.IntN.{ℤ}
use lib.ListN.{length}
use Rattle.counts.specs.Count.{◌∈◌, count, odd}
use Rattle.counts.proofs.CountLaws.{keep-mem}
use Rattle.counts.proofs.MapLaws.{map-ext}
use Rattle.counts.proofs.AscendingLaws.{ascending-at}
use Rattle.plane.specs.declared.Segment.{Segment}
use Rattle.plane.specs.Touching.{Touch}
use Rattle.plane.specs.Columns.{counted_for, ends_at}
use Rattle.plane.proofs.ScaleLaws.{unit, unit-scale}
use Rattle.record.specs.declared.Record.{Record}
use Rattle.record.specs.Records.{record_at, records, unmarked, marked}
use Rattle.record.specs.Order.{precedes}
use Rattle.segment.specs.Segments.{segment}
use Rattle.among.specs.Among.{mark_count}
use Rattle.chart.specs.Verdicts.{limit}
use Rattle.chart.specs.Regions.{Sound, Region}
use Rattle.chart.proofs.RowLaws.{equal_ends-off}
use Rattle.chart.proofs.HalvesLaws.{left-half}
use Rattle.region.proofs.Charts.{SoundChart}
use Rattle.region.proofs.ChartLaws.{segments, mem-segments}
use Rattle.combined.specs.Kept.{keeps, either, kept, upper_sides}
use Rattle.combined.specs.Results.{in_order, with_mark, result, numbers}
use Rattle.combined.specs.Together.{Together}
use Rattle.combined.proofs.Overlay.{Overlay, kept_in}
use Rattle.combined.proofs.UpperLaws.{kept-charted, kept-upper}
use Rattle.combined.proofs.Laid.{Laid, together-laid}
use Rattle.combined.proofs.EitherLaws.{either-proper, either-halves}
use Rattle.combined.proofs.OverlayLaws.{overlay}
use Rattle.combined.proofs.OrderedLaws.{in_order-mem}
use Rattle.combined.proofs.KeptLaws.{ordered-count, result_count, segments-result-mem}
use Rattle.combined.proofs.ResultLaws.{result-marked, result-marks, result-proper, result-halves}
use Rattle.combined.proofs.ResultLaws.{result-ascending}
use Rattle.combined.proofs.NumberLaws.{numbers-whole, numbers-count, record_at-numbers, records-numbers}

module _ {ss : List (List ℤ)} (together : Together ss) (f : List Bool → Bool)
    (none : f (map (λ c. false) (map records ss)) ≡ false) where
  abbrev cs : List (List Record)
  cs = map records ss

  abbrev us : List Segment
  us = segments (either cs)

  abbrev ks : List Segment
  ks = kept_in f cs us

  laid : Laid cs
  laid = together-laid together

  W : ℕ
  W = (overlay together).0

  over : Overlay W cs us
  unfolding W
  over = (overlay together).1

  charted : SoundChart W ks
  charted = kept-charted (unit W) (unit-scale W) over f none

  -- ---- the result is sound

  result-kept : (r : Record) → r ∈ result f cs → segment r ∈ ks
  result-kept r m =
      let h = left-half (result f cs) (result-proper f cs laid) (result-halves f cs laid) r m in
      rw h.3 at ((segments-result-mem f cs (segment h.0)).0 (mem-segments (result f cs) h.0 h.1 h.2))

  apart : (r e : Record) → r ∈ result f cs → e ∈ result f cs → (segment r ≡ segment e → ⊥)
      → Touch (segment r) (segment e) → ⊥
  apart r e m n differ touch =
      go (charted.clear (segment r) (result-kept r m) (segment e) (result-kept e n))
    where
      go : (segment e ≡ segment r) ⊎ (¬ (Touch (segment r) (segment e))) → ⊥
      go (inl same) = differ (sym same)
      go (inr free) = free touch

  pub result-sound : Sound (result f cs)
  result-sound = record {
    ends = λ r m. (equal_ends-off r).0 (result-proper f cs laid r m);
    marks = result-marks f cs;
    halves = result-halves f cs laid;
    apart = apart;
    even = λ p. rw (result_count f cs (ends_at p)) (charted.chart.even p);
    counted = result-marked f cs;
  }

  ordered : (i : ℕ) → suc i < length (result f cs)
      → precedes (record_at (numbers (result f cs)) i) (record_at (numbers (result f cs)) (suc i)) ≡ true
  ordered i l =
      rw (
        record_at-numbers none-there (result f cs) i (omega arith),
        record_at-numbers none-there (result f cs) (suc i) l,
      )
      (ascending-at _ none-there (result f cs) (result-ascending f cs laid) i (suc i) (omega arith) l)
    where
      none-there : Record
      none-there = record_at [] 0

  pub result-region : length (result f cs) ≤ limit → Region (numbers (result f cs))
  result-region few = record {
    whole = numbers-whole (result f cs);
    few = rw (numbers-count (result f cs)) few;
    ordered = λ i l. ordered i (rw (numbers-count (result f cs)) at l);
    sound = rw (records-numbers (result f cs)) result-sound;
  }

  -- ---- its marks

  -- by a count over the kept ones
  mark-by : (n : ℕ) (s : Segment) → n ≡ count (counted_for s) ks → s ∈ us
      → cond (odd n) marked unmarked ≡ cond (f (upper_sides cs s)) marked unmarked
  mark-by n s e m =
      ap (λ b. cond b marked unmarked) (ap odd e ∙ kept-upper (unit W) (unit-scale W) over f none s m)

  pub result-mark : (r : Record) → r ∈ result f cs → r.mark ≡ cond (f (upper_sides cs (segment r))) marked unmarked
  result-mark r m =
      result-marked f cs r m
      ∙ mark-by (mark_count (result f cs) (segment r)) (segment r) (result_count f cs (counted_for (segment r)))
      (keep-mem (keeps f cs) us (segment r) (result-kept r m)).0

  kept-us : (r : Record) → r ∈ kept f cs → segment r ∈ us
  kept-us r m =
      let k = (keep-mem (λ r. keeps f cs (segment r)) (either cs) r m).0 in
      let h = left-half (either cs) (either-proper cs laid) (either-halves cs laid) r k in
      rw h.3 at (mem-segments (either cs) h.0 h.1 h.2)

  pub sides-marked : map (λ r. with_mark (cond (f (upper_sides cs (segment r))) marked unmarked) r)
      (in_order (kept f cs))
      ≡ result f cs
  sides-marked =
      map-ext _ _ (in_order (kept f cs))
      (λ r m. ap (λ k. with_mark k r)
      (sym (mark-by (mark_count (in_order (kept f cs)) (segment r)) (segment r)
      (ordered-count f cs (counted_for (segment r))) (kept-us r (in_order-mem (kept f cs) r m)))))
