-- The verdict accepts exactly the regions: what the refusal table leaves is what specs/Regions.antt says.
--     accepted-is         both ways, for every array of numbers
--     accepted_ok, accepted_region, accepted_short    the same of an array of which only the test `accepted` is known
--     answered-refusal    a question about a chart is refused as its verdict says
-- Assumes nothing.
use mathlib.Core.Path.{◌≡◌, refl, sym}
use mathlib.Core.Logic.{◌↔◌}
use mathlib.Core.Bool.{true, true≢false}
use mathlib.Core.List.{List}
use Prim.Native.Nat.{◌≤◌}
use lib.IntN.{ℤ}
use Rattle.std.specs.Prelude.{Ok, Err}
use Rattle.counts.specs.Count.{◌∈◌}
use Rattle.record.specs.declared.Record.{Record}
use Rattle.record.specs.Records.{record_count, records}
use Rattle.record.specs.Order.{other_half, Proper}
use Rattle.chart.specs.Verdicts.{limit, Verdict, refusal_of, verdict, is_accepted, accepted, answered}
use Rattle.chart.specs.Regions.{Sound, Region}
use Rattle.chart.proofs.RowLaws.{equal_ends-off, bad_mark-off, not_after-off, no_other_half-off, wrong_mark-off}
use Rattle.chart.proofs.HalvesLaws.{touching-off, odd_end-off}
use Rattle.chart.proofs.VerdictLaws.{Faultless, verdict-accepted}

module _ (s : List ℤ) where
  faultless-region : Faultless s → Region s
  faultless-region f =
      let halves : (r : Record) → r ∈ records s → other_half r ∈ records s =
      λ r m. (no_other_half-off (records s) r).0 (f.halves r m)
      in
      record {
        whole = f.whole;
        few = f.few;
        ordered = (not_after-off s).0 f.order;
        sound = record {
          ends = λ r m. (equal_ends-off r).0 (f.ends r m);
          marks = λ r m. (bad_mark-off r).0 (f.marks r m);
          halves = halves;
          apart = (touching-off (records s) f.ends halves).0 f.apart;
          even = (odd_end-off (records s) f.ends halves).0 f.even;
          counted = λ r m. (wrong_mark-off (records s) r).0 (f.counted r m);
        };
      }

  region-faultless : Region s → Faultless s
  region-faultless g =
      let sound : Sound (records s) = g.sound in
      let ends : (r : Record) → r ∈ records s → Proper r = λ r m. (equal_ends-off r).1 (sound.ends r m) in
      record {
        whole = g.whole;
        few = g.few;
        ends = ends;
        marks = λ r m. (bad_mark-off r).1 (sound.marks r m);
        order = (not_after-off s).1 g.ordered;
        halves = λ r m. (no_other_half-off (records s) r).1 (sound.halves r m);
        apart = (touching-off (records s) ends sound.halves).1 sound.apart;
        even = (odd_end-off (records s) ends sound.halves).1 sound.even;
        counted = λ r m. (wrong_mark-off (records s) r).1 (sound.counted r m);
      }

  pub accepted-is : (verdict s ≡ Ok tt) ↔ Region s
  accepted-is =
      let h = verdict-accepted s in
      ((λ e. faultless-region (h.0 e)), (λ g. h.1 (region-faultless g)))

  pub accepted_ok : accepted s ≡ true → verdict s ≡ Ok tt
  accepted_ok = go (verdict s)
    where
      go : (v : Verdict) → is_accepted v ≡ true → v ≡ Ok tt
      go (Ok u) e = refl
      go (Err r) e = absurd (true≢false (sym e))

  pub accepted_region : accepted s ≡ true → Region s
  accepted_region e = accepted-is.0 (accepted_ok e)

  pub accepted_short : accepted s ≡ true → record_count s ≤ limit
  accepted_short e = (accepted_region e).few

pub answered-refusal : {A : Type 0} (v : Verdict) (a : A) → refusal_of (answered v a) ≡ refusal_of v
answered-refusal (Ok u) a = refl
answered-refusal (Err r) a = refl
