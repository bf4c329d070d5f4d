-- When the verdict accepts: no row of document 01's refusal table finds anything.
--     Faultless s         what rows 1 to 9 leave. A device of the proofs: what an accepted chart is, is `Region` of
--                         specs/Regions.antt
--     verdict-accepted    the verdict accepts exactly what is faultless
-- Assumes nothing.
use mathlib.Core.Path.{◌≡◌, refl, sym, ap, ◌∙◌}
use mathlib.Core.Logic.{◌↔◌}
use mathlib.Core.Bool.{Bool, true, false, cond, true≢false}
use mathlib.Core.List.{List}
use Prim.Native.Nat.{ℕ, ◌%◌, ◌<◌, ◌≤◌, zero-le}
use lib.IntN.{ℤ}
use lib.ListN.{length}
use borrow.Author.Tests.{eqb-true, eq-eqb, ltb-false, le-ltb, not-false}
use Rattle.counts.specs.Count.{◌∈◌}
use Rattle.std.specs.Prelude.{Option, Some, None, Ok, Err}
use Rattle.counts.specs.Scan.{first_place}
use Rattle.counts.proofs.HighestLaws.{any_none}
use Rattle.counts.proofs.ScanLaws.{first_from-none, any-first}
use Rattle.counts.proofs.PlaceLaws.{first_place_none}
use Rattle.record.specs.declared.Record.{Record}
use Rattle.record.specs.Records.{width, record_at, record_count, records}
use Rattle.chart.specs.declared.ChartRefusal.{ChartRefusal}
use Rattle.chart.specs.Rows.{equal_ends, bad_mark, not_after, no_other_half, touching, odd_end, wrong_mark}
use Rattle.chart.specs.Verdicts.{limit, Verdict, unless, judged, verdict, is_accepted}

pub record Faultless (s : List ℤ) : Type 0 where
  pub whole : length s % width ≡ 0
  pub few : record_count s ≤ limit
  pub ends : (r : Record) → r ∈ records s → equal_ends r ≡ false
  pub marks : (r : Record) → r ∈ records s → bad_mark r ≡ false
  pub order : (i : ℕ) → i < record_count s → not_after s i ≡ false
  pub halves : (r : Record) → r ∈ records s → no_other_half (records s) r ≡ false
  pub apart : (r : Record) → r ∈ records s → touching (records s) r ≡ false
  pub even : (r : Record) → r ∈ records s → odd_end (records s) r ≡ false
  pub counted : (r : Record) → r ∈ records s → wrong_mark (records s) r ≡ false

-- a row that finds something refuses; so where the verdict accepts it found nothing, and the rows after it accept
size : (b : Bool) (r : ChartRefusal) (v : Verdict) → cond b (Err r) v ≡ Ok tt → (b ≡ false) × (v ≡ Ok tt)
size true r v e = absurd (true≢false (sym (ap is_accepted e)))
size false r v e = (refl, e)

row : (why : ℕ → ChartRefusal) (o : Option ℕ) (v : Verdict) → unless why o v ≡ Ok tt → (o ≡ None) × (v ≡ Ok tt)
row why None v e = (refl, e)
row why (Some i) v e = absurd (true≢false (sym (ap is_accepted e)))

pub verdict-accepted : (s : List ℤ) → (verdict s ≡ Ok tt) ↔ Faultless s
unfolding verdict judged
verdict-accepted s = (there, back)
  where
    none : (p : Record → Bool)
        → (first_place p (record_at s) (record_count s) ≡ None) ↔ ((r : Record) → r ∈ records s → p r ≡ false)
    none p =
        let e = any-first p (record_at s) (record_count s) in
        let h = any_none p (records s) in
        let g = first_place_none p (record_at s) (record_count s) in
        ((λ f. h.0 (e ∙ g.0 f)), (λ f. g.1 (sym e ∙ h.1 f)))

    placed : (first_place (not_after s) (λ i. i) (record_count s) ≡ None)
        ↔ ((i : ℕ) → 0 ≤ i → i < record_count s → not_after s i ≡ false)
    placed =
        let g = first_place_none (not_after s) (λ i. i) (record_count s) in
        let h = first_from-none (not_after s) (λ i. i) 0 (record_count s) zero-le in
        ((λ e. h.0 (g.0 e)), (λ f. g.1 (h.1 f)))

    there : verdict s ≡ Ok tt → Faultless s
    there e =
        let whole = size _ _ _ e in
        let few = size _ _ _ whole.1 in
        let ends = row _ _ _ few.1 in
        let marks = row _ _ _ ends.1 in
        let order = row _ _ _ marks.1 in
        let halves = row _ _ _ order.1 in
        let apart = row _ _ _ halves.1 in
        let even = row _ _ _ apart.1 in
        let counted = row _ _ _ even.1 in
        record {
          whole = eqb-true _ _ (not-false _ whole.0);
          few = ltb-false limit (record_count s) few.0;
          ends = (none equal_ends).0 ends.0;
          marks = (none bad_mark).0 marks.0;
          order = λ i l. placed.0 order.0 i zero-le l;
          halves = (none (no_other_half (records s))).0 halves.0;
          apart = (none (touching (records s))).0 apart.0;
          even = (none (odd_end (records s))).0 even.0;
          counted = (none (wrong_mark (records s))).0 counted.0;
        }

    back : Faultless s → verdict s ≡ Ok tt
    back f =
        rw (
          eq-eqb (length s % width) 0 f.whole,
          le-ltb limit (record_count s) f.few,
          (none equal_ends).1 f.ends,
          (none bad_mark).1 f.marks,
          placed.1 (λ i h l. f.order i l),
          (none (no_other_half (records s))).1 f.halves,
          (none (touching (records s))).1 f.apart,
          (none (odd_end (records s))).1 f.even,
          (none (wrong_mark (records s))).1 f.counted,
        )
