-- The first record of a cycle.
--     first-half, first-least    it is one of the cycle's, and none of those comes before it
--     first-less                 it is a record of the chart
--     first-first                it is the first of its own cycle
--     first-same, same-cycle     records of one cycle have one first record, and only those
-- Assumes nothing.
use mathlib.Core.Path.{◌≡◌, sym, ap, ◌∙◌, subst}
use mathlib.Core.Logic.{⊎_elim}
use mathlib.Core.List.Memᴰ
use mathlib.Core.List.{List}
use Prim.Native.Nat.{ℕ, ◌<◌, ◌≤◌}
use native.Mathlib.Omega.{arith}
use lib.IntN.{ℤ}
use Rattle.counts.specs.Count.{◌∈◌}
use Rattle.record.specs.Records.{record_count}
use Rattle.chart.specs.Regions.{Region}
use Rattle.walks.specs.Cycles.{cycle_of, halves, first_of}
use Rattle.walks.proofs.StartLaws.{least-mem, least-low}
use Rattle.walks.proofs.CycleLaws.{halves-self, halves-less, halves-same}

module _ {s : List ℤ} (region : Region s) where
  pub first-half : (i : ℕ) → i < record_count s → first_of s i ∈ halves s (cycle_of s i)
  unfolding first_of
  first-half i l =
      ⊎_elim (λ e. Memᴰ.cast e (halves-self region i l)) (λ m. m) (least-mem i (halves s (cycle_of s i)))

  pub first-least : (i j : ℕ) → i < record_count s → j ∈ halves s (cycle_of s i) → first_of s i ≤ j
  unfolding first_of
  first-least i j l m = (least-low i (halves s (cycle_of s i))).1 j m

  pub first-less : (i : ℕ) → i < record_count s → first_of s i < record_count s
  first-less i l = halves-less region i (first_of s i) l (first-half i l)

  pub first-same : (i j : ℕ) → i < record_count s → j < record_count s → cycle_of s j ≡ cycle_of s i
      → first_of s j ≡ first_of s i
  first-same i j l g e =
      let up = first-least i (first_of s j) l (subst (λ c. first_of s j ∈ halves s c) e (first-half j g)) in
      let down = first-least j (first_of s i) g (subst (λ c. first_of s i ∈ halves s c) (sym e) (first-half i l)) in
      omega (arith, up, down)

  pub same-cycle : (i j : ℕ) → i < record_count s → j < record_count s → first_of s j ≡ first_of s i
      → cycle_of s j ≡ cycle_of s i
  same-cycle i j l g e =
      sym (halves-same region j (first_of s j) g (first-half j g))
      ∙ ap (cycle_of s) e
      ∙ halves-same region i (first_of s i) l (first-half i l)

  pub first-first : (i : ℕ) → i < record_count s → first_of s (first_of s i) ≡ first_of s i
  first-first i l =
      first-same i (first_of s i) l (first-less i l) (halves-same region i (first_of s i) l (first-half i l))
