-- The steps of a loop that looks for the first, counts or sums, in the form that a function's tactic line finds: what a
-- law concludes shows all that it speaks of.
--     first_hit, first_more      looking for the first
--     first_on, first_high       looking on from a place: what is passed over is not the first; the first is at most n
--     sum_none                   summing and counting, with `sum_more` of LoopLaws.antt
--     looking, summing    for a function's tactic line: what closes such a loop
-- Assumes nothing.
use Rattle.std.specs.Prelude.{◌≡◌, Bool, true, false, ℕ, ◌+◌, ◌<◌, ◌≤◌}
use mathlib.Core.Path.{refl, sym, ap, ◌∙◌}
use native.Mathlib.Numerals.{add-one}
use native.Mathlib.Omega.{arith}
use Rattle.counts.specs.Count.{sum, listed}
use Rattle.counts.specs.Scan.{first_from, Found}
use Rattle.counts.proofs.ScanLaws.{first_from-miss, first_from-high}
use Rattle.counts.proofs.LoopLaws.{Seen, seen_none, seen-hit, seen_more, seen_all, sum_more}

module _ {A : Type 0} (p : A → Bool) (f : ℕ → A) {a n i : ℕ} where
  pub first_hit : Seen p f a n i → i < n → p (f i) ≡ true → Found p f a n i
  first_hit s l t = seen-hit p f s l refl t

  pub first_more : Seen p f a n i → i < n → p (f i) ≡ false → Seen p f a n (i + 1)
  first_more s l t = seen_more p f s l refl t

module _ {A : Type 0} (p : A → Bool) (f : ℕ → A) where
  pub first_on : {n i : ℕ} {b : Bool} → i < n → b ≡ p (f i) → b ≡ false → first_from p f (i + 1) n ≡ first_from p f i n
  first_on {n} {i} l e t =
      ap (λ j. first_from p f j n) (add-one i) ∙ sym (first_from-miss p f i n l (sym e ∙ t))

  pub first_high : {a n : ℕ} → a < n → first_from p f a n ≤ n
  first_high {a} {n} l = first_from-high p f a n (omega arith)

pub sum_none : {A : Type 0} (v : A → ℕ) (f : ℕ → A) → sum v (listed f 0 0) ≡ 0
unfolding sum listed
sum_none v f = refl

pub ruleset looking = (seen_none, first_hit, first_more, seen_all)

pub ruleset summing = (sum_none, sum_more)
