-- The start of a walk makes no difference: cut from any of its records, a walk falls into the same cycles.
--     steps-same     the walks from two of its records have as many steps
--     start-free     two records are in one cycle of the walk from i exactly if they are in one of the walk from k
-- Assumes nothing.
use mathlib.Core.Path.{◌≡◌, refl, sym, ap, ap₂, ◌∙◌}
use mathlib.Core.Logic.{◌↔◌}
use mathlib.Core.Bool.{true}
use mathlib.Core.List.{List, ◌∷◌}
use Prim.Native.Nat.{ℕ, zero, suc, ◌+◌, ◌<◌, ◌≤◌}
use native.Mathlib.Omega.{arith}
use lib.IntN.{ℤ}
use Rattle.counts.specs.Count.{◌∈◌, listed}
use Rattle.counts.proofs.TestLaws.{Side, less, equal, more, side}
use Rattle.record.specs.Records.{record_at, record_count, records}
use Rattle.chart.specs.Regions.{Region}
use Rattle.chart.proofs.OnceLaws.{region-place}
use Rattle.around.specs.Departing.{departs}
use Rattle.walks.specs.Walks.{walk, cycles_of, cycles_in}
use Rattle.around.proofs.Parts.{Next}
use Rattle.walks.specs.Circuits.{Together}
use Rattle.walks.proofs.PlaceLaws.{rank_in, ranked-region, member-at}
use Rattle.walks.proofs.NextLaws.{next-is, next-leaves}
use Rattle.walks.proofs.StepLaws.{goes, goes_at, goes-on, goes-less, fresh, walk-listed, steps, round}
use Rattle.walks.proofs.RoundLaws.{walk_step}
use Rattle.around.proofs.VisitLaws.{nested}
use Rattle.walks.proofs.AnyStartLaws.{any-start}

listed-shift : (f g : ℕ → ℕ) (a b n : ℕ) → ((k : ℕ) → f (a + k) ≡ g (b + k)) → listed f a n ≡ listed g b n
unfolding listed
listed-shift f g a b zero h = refl
listed-shift f g a b (suc n) h =
    ap₂ ◌∷◌ (ap f (omega arith) ∙ h 0 ∙ ap g (omega arith))
    (listed-shift f g (suc a) (suc b) n (λ k. ap f (omega arith) ∙ h (suc k) ∙ ap g (omega arith)))

module _ {s : List ℤ} (region : Region s) (i : ℕ) (l : i < record_count s) where
  around : (k : ℕ) → goes s i (k + steps s i) ≡ goes s i k
  around k = sym (goes-on s i (steps s i) k) ∙ ap (λ j. goes s j k) (round region i l).2

  leaves : departs (record_at s i) ≡ true → (k : ℕ) → departs (record_at s (goes s i k)) ≡ true
  unfolding goes
  leaves d zero = d
  leaves d (suc k) = next-leaves region (goes s i k) (goes-less region i l k) ∙ leaves d k

  onward : (k : ℕ)
      → Next (records s) (rank_in s) (record_at s (goes s i k)) (record_at s (goes s i (suc k)))
  unfolding goes
  onward k = next-is region (goes s i k) (goes-less region i l k)

  -- a walk comes round from each of its records after as many steps
  module _ (t : ℕ) where
    later : (k : ℕ) → goes s (goes s i t) k ≡ goes s i (t + k)
    later k = goes-on s i t k ∙ goes_at s i (k + t) (t + k) (omega arith)

    pub steps-same : steps s (goes s i t) ≡ steps s i
    steps-same = go (side (steps s (goes s i t)) (steps s i))
      where
        k : ℕ
        k = goes s i t

        m : k < record_count s
        m = goes-less region i l t

        go : Side (steps s k) (steps s i) → steps s k ≡ steps s i
        go (less h) =
            absurd (fresh region i l t (t + steps s k) (omega (arith, (round region k m).0)) (omega arith)
            (sym (round region k m).2 ∙ later (steps s k)))
        go (equal h) = h
        go (more h) =
            absurd (fresh region k m 0 (steps s i) (round region i l).0 (omega arith)
            (later 0 ∙ sym (around (t + 0)) ∙ goes_at s i (t + 0 + steps s i) (t + steps s i) (omega arith)
            ∙ sym (later (steps s i))))

  -- so its cycles from record t of it are those of the steps from t on
  cycles-from : (t : ℕ) → cycles_of s (goes s i t) ≡ cycles_in s (goes s i t) (listed (goes s i) t (steps s i))
  unfolding cycles_of
  cycles-from t =
      ap (cycles_in s (goes s i t)) (walk-listed region (goes s i t) (goes-less region i l t)
      ∙ ap (listed (goes s (goes s i t)) 0) (steps-same t)
      ∙ listed-shift (goes s (goes s i t)) (goes s i) 0 t (steps s i)
      (λ k. goes_at s (goes s i t) (0 + k) k (omega arith) ∙ later t k))

  module _ (d : departs (record_at s i) ≡ true) where
    no-turns : (j k m n : ℕ) → j < k → k < m → m < n → n ≤ j + steps s i
        → (record_at s (goes s i j)).dom ≡ (record_at s (goes s i m)).dom
        → (record_at s (goes s i k)).dom ≡ (record_at s (goes s i n)).dom
        → (record_at s (goes s i j)).dom ≡ (record_at s (goes s i k)).dom
    no-turns =
        nested (ranked-region region) (λ k. record_at s (goes s i k))
        (λ k. member-at region (goes s i k) (goes-less region i l k)) (leaves d) onward (steps s i)
        (λ k. ap (record_at s) (around k))
        (λ j k g h e. fresh region i l j k g h
        (region-place region (goes s i j) (goes s i k) (goes-less region i l j) (goes-less region i l k) e))

    pub start-free : (k : ℕ) → k ∈ walk s i → (a b : ℕ)
        → Together (cycles_of s i) a b ↔ Together (cycles_of s k) a b
    unfolding goes
    start-free k m a b =
        let at = walk_step region i l k m in
        let t = at.0 in
        let same : cycles_of s k ≡ cycles_in s (goes s i t) (listed (goes s i) t (steps s i)) =
        ap (cycles_of s) at.2 ∙ cycles-from t
        in
        rw (same, cycles-from 0) (any-start s (goes s i) (steps s i) around (fresh region i l) no-turns t a b)
