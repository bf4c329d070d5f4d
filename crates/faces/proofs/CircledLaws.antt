-- What the walks of an accepted chart come to (cycles' specs/Circles.antt), as the functions here want it.
--     circled-accepted, circled-refused      the answer, by the chart's verdict
--     known-circled     the two arrays have the start and the first record of each record
-- Assumes nothing.
use mathlib.Core.Path.{◌≡◌, refl, sym, ap, ◌∙◌}
use mathlib.Core.List.{List}
use Prim.Native.Nat.{ℕ, ◌-◌, ◌<◌, ◌≤◌}
use native.Mathlib.Nat.{zero-add}
use native.Mathlib.Omega.{arith}
use lib.IntN.{ℤ}
use lib.ListN.{length, get_or, length-append, get_or-append}
use Rattle.std.specs.Prelude.{Result, Ok, Err}
use Rattle.counts.specs.Count.{listed}
use Rattle.counts.proofs.ListedLaws.{listed-length, listed_at}
use Rattle.record.specs.Records.{record_count}
use Rattle.chart.specs.declared.ChartRefusal.{ChartRefusal}
use Rattle.chart.specs.Verdicts.{limit, Verdict, verdict, is_accepted, answered}
use Rattle.walks.specs.Cycles.{start_of, first_of}
use Rattle.cycles.specs.declared.Cycles.{Cycles}
use Rattle.cycles.specs.Circles.{filled, arrays_of, Circled}
use Rattle.faces.specs.Known.{Known}

one-answer : {a b : Cycles} → ◌≡◌ {A = Result Cycles ChartRefusal} (Ok a) (Ok b) → a ≡ b
one-answer e = cc

one-refusal : {r q : ChartRefusal} → ◌≡◌ {A = Result Cycles ChartRefusal} (Err r) (Err q) → r ≡ q
one-refusal e = cc

no_answer : {a : Cycles} {r : ChartRefusal} → ◌≡◌ {A = Result Cycles ChartRefusal} (Ok a) (Err r) → ⊥
no_answer e = let o : ◌≡◌ {A = ℕ} 0 1 = cc in omega arith

module _ (f : ℕ → ℕ) (n : ℕ) where
  filled-room : n ≤ length (filled f n)
  unfolding filled
  filled-room =
      omega (arith, length-append (listed f 0 n) (listed (λ i. 0) n (limit - n)), listed-length f 0 n)

  filled_at : (i : ℕ) → i < n → get_or (filled f n) i 0 ≡ f i
  unfolding filled
  filled_at i l =
      get_or-append (listed f 0 n) (listed (λ i. 0) n (limit - n)) 0 i (omega (arith, listed-length f 0 n))
      ∙ listed_at f 0 0 n i l
      ∙ ap f (zero-add i)

module _ (s : List ℤ) {c : Result Cycles ChartRefusal} (circled : Circled s c) where
  pub circled-accepted : {a : Cycles} → c ≡ Ok a → (verdict s ≡ Ok tt) × (a ≡ arrays_of s)
  circled-accepted {a} e = go (verdict s) refl (sym circled ∙ e)
    where
      go : (v : Verdict) → verdict s ≡ v → answered v (arrays_of s) ≡ Ok a → (verdict s ≡ Ok tt) × (a ≡ arrays_of s)
      go (Ok u) h g = (h, sym (one-answer g))
      go (Err r) h g = absurd (no_answer (sym g))

  pub circled-refused : {r : ChartRefusal} → c ≡ Err r → verdict s ≡ Err r
  circled-refused {r} e = go (verdict s) refl (sym circled ∙ e)
    where
      go : (v : Verdict) → verdict s ≡ v → answered v (arrays_of s) ≡ Err r → verdict s ≡ Err r
      go (Ok u) h g = absurd (no_answer g)
      go (Err q) h g = h ∙ ap Err (one-refusal g)

  pub known-circled : {a : Cycles} → c ≡ Ok a → Known s a.starts a.firsts
  unfolding arrays_of
  known-circled {a} e = record {
    sound = ap is_accepted is.0;
    start-room = omega (arith, ap length starts, filled-room (start_of s) (record_count s));
    first-room = omega (arith, ap length firsts, filled-room (first_of s) (record_count s));
    start = λ i l. ap (λ t. get_or t i 0) starts ∙ filled_at (start_of s) (record_count s) i l;
    first = λ i l. ap (λ t. get_or t i 0) firsts ∙ filled_at (first_of s) (record_count s) i l;
  }
    where
      is : (verdict s ≡ Ok tt) × (a ≡ arrays_of s)
      is = circled-accepted e

      starts : a.starts ≡ filled (start_of s) (record_count s)
      starts = ap (λ a. a.starts) is.1

      firsts : a.firsts ≡ filled (first_of s) (record_count s)
      firsts = ap (λ a. a.firsts) is.1
