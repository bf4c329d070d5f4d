-- A walk of a region, step by step: it leads back to where it started, over different records.
--     goes s i k        the record after k steps of the walk that starts with record i
--     steps s i         how many steps it takes to come round
--     goes_at, goes-on  equal steps lead to one record; steps after steps
--     goes-less         all are records of the chart
--     round, fresh      it comes round in as many, no more than there are records; until then no record comes twice
--     walk-listed       the walk of specs/Walks.antt is those records
-- Assumes nothing.
use mathlib.Core.Path.{◌≡◌, sym, ap, ◌∙◌}
use mathlib.Core.Bool.{Bool, cond, true≢false}
use mathlib.Core.List.{List, [], ◌∷◌}
use Prim.Native.Nat.{ℕ, zero, suc, ◌+◌, ◌-◌, ◌<◌, ◌≤◌, zero-le}
use native.Mathlib.Omega.{arith}
use lib.Dec.{eqb}
use lib.IntN.{ℤ}
use borrow.Author.Tests.{eqb-true, eq-eqb}
use Rattle.counts.specs.Count.{listed}
use Rattle.counts.specs.Scan.{first_from}
use Rattle.counts.proofs.TestLaws.{is_false}
use Rattle.counts.proofs.ScanLaws.{first_from-passes, first_from-fails, first_from-least}
use Rattle.record.specs.Records.{record_count}
use Rattle.chart.specs.Regions.{Region}
use Rattle.walks.specs.Ways.{next}
use Rattle.walks.specs.Walks.{onward, walk}
use Rattle.walks.proofs.NextLaws.{next-less, next_one}
use Rattle.counts.proofs.RepeatLaws.{repeated}

unfoldable pub goes : List ℤ → ℕ → ℕ → ℕ
goes s i zero = i
goes s i (suc k) = next s (goes s i k)

-- it is back after one step more than k
abbrev comes_back : List ℤ → ℕ → ℕ → Bool
comes_back s i k = eqb (goes s i (suc k)) i

pub steps : List ℤ → ℕ → ℕ
steps s i = suc (first_from (comes_back s i) (λ k. k) 0 (record_count s))

pub goes_at : (s : List ℤ) (i j k : ℕ) → j ≡ k → goes s i j ≡ goes s i k
goes_at s i j k e = ap (goes s i) e

pub goes-on : (s : List ℤ) (i a b : ℕ) → goes s (goes s i a) b ≡ goes s i (b + a)
unfolding goes
goes-on s i a zero = goes_at s i a (0 + a) (omega arith)
goes-on s i a (suc b) = ap (next s) (goes-on s i a b) ∙ goes_at s i (suc (b + a)) (suc b + a) (omega arith)

module _ {s : List ℤ} (region : Region s) (i : ℕ) (l : i < record_count s) where
  pub goes-less : (k : ℕ) → goes s i k < record_count s
  unfolding goes
  goes-less zero = l
  goes-less (suc k) = next-less region (goes s i k) (goes-less k)

  -- where a record comes twice the walk comes round in the steps between
  repeats : (j d : ℕ) → goes s i j ≡ goes s i (d + j) → goes s i d ≡ i
  unfolding goes
  repeats zero d e = goes_at s i d (d + 0) (omega arith) ∙ sym e
  repeats (suc j) d e =
      repeats j d
      (next_one region (goes s i j) (goes s i (d + j)) (goes-less j) (goes-less (d + j))
      (e ∙ goes_at s i (d + suc j) (suc (d + j)) (omega arith)))

  comes : (k : ℕ) × (k < record_count s) × (goes s i (suc k) ≡ i)
  comes = go (repeated (record_count s) (goes s i) (λ k h. goes-less k))
    where
      go : (j : ℕ) × (k : ℕ) × (j < k) × (k ≤ record_count s) × (goes s i j ≡ goes s i k)
          → (k : ℕ) × (k < record_count s) × (goes s i (suc k) ≡ i)
      go (j, k, h, g, e) =
          let d : ℕ = k - suc j in
          (d, omega arith, repeats j (suc d) (e ∙ goes_at s i k (suc d + j) (omega arith)))

  pub round : (0 < steps s i) × (steps s i ≤ record_count s) × (goes s i (steps s i) ≡ i)
  unfolding steps
  round =
      let n : ℕ = record_count s in
      let there = eq-eqb _ i comes.2 in
      let least = first_from-least (comes_back s i) (λ k. k) 0 n zero-le comes.0 zero-le there in
      let h : first_from (comes_back s i) (λ k. k) 0 n < n = omega (arith, least, comes.1) in
      (omega arith, omega arith, eqb-true _ i (first_from-passes (comes_back s i) (λ k. k) 0 n zero-le h))

  not_yet : (k : ℕ) → suc k < steps s i → goes s i (suc k) ≡ i → ⊥
  unfolding steps
  not_yet k h e =
      true≢false
      (sym (eq-eqb (goes s i (suc k)) i e)
      ∙ first_from-fails (comes_back s i) (λ k. k) 0 (record_count s) zero-le k zero-le (omega arith))

  pub fresh : (j k : ℕ) → j < k → k < j + steps s i → goes s i j ≡ goes s i k → ⊥
  fresh j k h g e =
      let d : ℕ = k - suc j in
      not_yet d (omega arith) (repeats j (suc d) (e ∙ goes_at s i k (suc d + j) (omega arith)))

  -- from any step on
  onward-listed : (k a m : ℕ) → a + suc m ≡ steps s i → suc m ≤ k
      → onward s i (goes s i a) k ≡ listed (goes s i) a (suc m)
  unfolding onward listed goes
  onward-listed zero a m e h = absurd (omega arith)
  onward-listed (suc k) a zero e h =
      ap (λ b. goes s i a ∷ cond b [] (onward s i (goes s i (suc a)) k))
      (eq-eqb (goes s i (suc a)) i (goes_at s i (suc a) (steps s i) (omega arith) ∙ round.2))
  onward-listed (suc k) a (suc m) e h =
      ap (λ b. goes s i a ∷ cond b [] (onward s i (goes s i (suc a)) k))
      (is_false _ (λ t. not_yet a (omega arith) (eqb-true _ _ t)))
      ∙ ap (λ js. goes s i a ∷ js) (onward-listed k (suc a) m (omega arith) (omega arith))

  pub walk-listed : walk s i ≡ listed (goes s i) 0 (steps s i)
  unfolding goes
  walk-listed =
      let m : ℕ = steps s i - 1 in
      onward-listed (record_count s) 0 m (omega (arith, round.0)) (omega (arith, round.0, round.1))
      ∙ ap (listed (goes s i) 0) (omega (arith, round.0))
