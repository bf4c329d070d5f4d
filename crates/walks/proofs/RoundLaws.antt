-- Which records are in a walk of a region. It comes round, so all of them have one walk.
--     walk_step         each is met after some step
--     walk-less         they are records of the chart
--     walk-self, walk-next, walk-sym, walk-trans    the first is one; what comes next is; two are in each other's walk;
--                       what is in the walk of one is in that of the other
--     walk-departs      all of them are walked from their dominating ends if the first is
--     walk-once         each is in it once
-- Its steps: StepLaws.antt. Assumes nothing.
use mathlib.Core.Path.{◌≡◌, sym, ap, ◌∙◌}
use mathlib.Core.Logic.{◌⊎◌, inl, inr}
use mathlib.Core.Bool.{true}
use mathlib.Core.List.{List}
use Prim.Native.Nat.{ℕ, zero, suc, ◌+◌, ◌-◌, ◌<◌, ◌≤◌, zero-le}
use native.Mathlib.Omega.{arith}
use lib.Dec.{eqb}
use lib.IntN.{ℤ}
use borrow.Author.Tests.{eqb-true}
use Rattle.counts.specs.Count.{◌∈◌, count}
use Rattle.counts.proofs.TestLaws.{lt-or-le}
use Rattle.counts.proofs.ListedLaws.{listed-mem, mem-listed}
use Rattle.record.specs.Records.{record_at, record_count}
use Rattle.chart.specs.Regions.{Region}
use Rattle.around.specs.Departing.{departs}
use Rattle.walks.specs.Ways.{next}
use Rattle.walks.specs.Walks.{walk}
use Rattle.walks.proofs.NextLaws.{next-leaves}
use Rattle.counts.proofs.RepeatLaws.{listed-once}
use Rattle.walks.proofs.StepLaws.{goes_at, goes-on, goes, steps, goes-less, round, fresh, walk-listed}

module _ {s : List ℤ} (region : Region s) (i : ℕ) (l : i < record_count s) where
  in-walk : (k : ℕ) → k < steps s i → goes s i k ∈ walk s i
  in-walk k h = rw (walk-listed region i l) (mem-listed (goes s i) 0 (steps s i) k zero-le (omega arith))

  pub walk_step : (j : ℕ) → j ∈ walk s i → (k : ℕ) × (k < steps s i) × (j ≡ goes s i k)
  walk_step j m =
      let w = listed-mem (goes s i) 0 (steps s i) j (rw (walk-listed region i l) at m) in
      (w.0, omega (arith, w.2), w.3)

  pub walk-less : (j : ℕ) → j ∈ walk s i → j < record_count s
  walk-less j m = let w = walk_step j m in rw w.2 (goes-less region i l w.0)

  pub walk-self : i ∈ walk s i
  unfolding goes
  walk-self = in-walk 0 (round region i l).0

  -- from the last, the first comes next
  pub walk-next : (j : ℕ) → j ∈ walk s i → next s j ∈ walk s i
  unfolding goes
  walk-next j m = let w = walk_step j m in rw w.2 (go w.0 w.1 (lt-or-le (suc w.0) (steps s i)))
    where
      go : (k : ℕ) → k < steps s i → (suc k < steps s i) ⊎ (steps s i ≤ suc k) → goes s i (suc k) ∈ walk s i
      go k h (inl g) = in-walk (suc k) g
      go k h (inr g) = rw (goes_at s i (suc k) (steps s i) (omega arith) ∙ (round region i l).2) walk-self

  goes-walk : (k : ℕ) → goes s i k ∈ walk s i
  unfolding goes
  goes-walk zero = walk-self
  goes-walk (suc k) = walk-next (goes s i k) (goes-walk k)

  pub walk-departs : departs (record_at s i) ≡ true → (j : ℕ) → j ∈ walk s i → departs (record_at s j) ≡ true
  unfolding goes
  walk-departs t j m = let w = walk_step j m in ap (λ k. departs (record_at s k)) w.2 ∙ go w.0
    where
      go : (k : ℕ) → departs (record_at s (goes s i k)) ≡ true
      go zero = t
      go (suc k) = next-leaves region (goes s i k) (goes-less region i l k) ∙ go k

  pub walk-once : (j : ℕ) → count (eqb j) (walk s i) ≤ 1
  walk-once j =
      rw (walk-listed region i l)
      (listed-once (eqb j) (goes s i) 0 (steps s i)
      (λ a b x y z p q.
      fresh region i l a b y (omega arith) (sym (eqb-true j (goes s i a) p) ∙ eqb-true j (goes s i b) q)))

module _ {s : List ℤ} (region : Region s) (i : ℕ) (l : i < record_count s) where
  pub walk-sym : (j : ℕ) → j ∈ walk s i → i ∈ walk s j
  walk-sym j m =
      let w = walk_step region i l j m in
      let d : ℕ = steps s i - w.0 in
      let on = ap (λ k. goes s k d) w.2 ∙ goes-on s i w.0 d in
      let back = goes_at s i (d + w.0) (steps s i) (omega (arith, w.1)) ∙ (round region i l).2 in
      rw (on ∙ back) at (goes-walk region j (walk-less region i l j m) d)

  pub walk-trans : (j k : ℕ) → j ∈ walk s i → k ∈ walk s j → k ∈ walk s i
  walk-trans j k m h =
      let w = walk_step region i l j m in
      let v = walk_step region j (walk-less region i l j m) k h in
      rw (v.2 ∙ ap (λ q. goes s q v.0) w.2 ∙ goes-on s i w.0 v.0)
      (goes-walk region i l (v.0 + w.0))
