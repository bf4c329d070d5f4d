-- Chains of records, named by their places in the chart s.
--     Chain s p js q     js leads from p to q: the first departs from p, each of the others from where the one before
--                        ends, the last ends at q; where there is none, p is q
--     Loop s c           c leads from a point back to it, has a record, and no two that depart from one point
--     chain-append       one chain after another is a chain
--     chain-take, chain-drop     a chain cut in two at a place
--     chain-even         of any number of a point: over the ends, with that of p, it is as much as over the points that
--                        are departed from, with that of q
--     chain_first, chain-step, chain-last    what a chain says, by places
-- Assumes nothing.
use mathlib.Core.Path.{◌≡◌, refl, sym, ap}
use mathlib.Core.List.{List, [], ◌∷◌, ◌++◌}
use Prim.Native.Nat.{ℕ, zero, suc, ◌+◌, ◌<◌, ◌≤◌}
use native.Mathlib.Omega.{arith}
use lib.IntN.{ℤ}
use lib.ListN.{length, get_or, take, drop}
use Rattle.counts.specs.Count.{sum, count}
use Rattle.plane.specs.declared.Point.{Point}
use Rattle.record.specs.Records.{record_at}
use Rattle.walks.specs.Walks.{from}

abbrev pub Chain : List ℤ → Point → List ℕ → Point → Type 0
Chain s p [] q = p ≡ q
Chain s p (j ∷ js) q = ((record_at s j).dom ≡ p) × Chain s (record_at s j).other js q

pub record Loop (s : List ℤ) (c : List ℕ) : Type 0 where
  pub start : Point
  pub some : 0 < length c
  pub round : Chain s start c start
  pub simple : (p : Point) → count (from s p) c ≤ 1

module _ (s : List ℤ) where
  pub chain-append : (p m q : Point) (js ks : List ℕ) → Chain s p js m → Chain s m ks q → Chain s p (js ++ ks) q
  chain-append p m q [] ks h g = rw h g
  chain-append p m q (j ∷ js) ks h g = (h.0, chain-append (record_at s j).other m q js ks h.1 g)

  -- ---- cut in two

  pub chain-take : (k : ℕ) (p q : Point) (js : List ℕ) → Chain s p js q → k < length js
      → Chain s p (take k js) (record_at s (get_or js k 0)).dom
  chain-take k p q [] h l = absurd (omega arith)
  chain-take zero p q (j ∷ js) h l = sym h.0
  chain-take (suc k) p q (j ∷ js) h l = (h.0, chain-take k (record_at s j).other q js h.1 (omega arith))

  pub chain-drop : (k : ℕ) (p q : Point) (js : List ℕ) → Chain s p js q → k < length js
      → Chain s (record_at s (get_or js k 0)).dom (drop k js) q
  chain-drop k p q [] h l = absurd (omega arith)
  chain-drop zero p q (j ∷ js) h l = (refl, h.1)
  chain-drop (suc k) p q (j ∷ js) h l = chain-drop k (record_at s j).other q js h.1 (omega arith)

  -- ---- sums along it

  pub chain-even : (f : Point → ℕ) (p q : Point) (js : List ℕ) → Chain s p js q
      → f p + sum (λ j. f (record_at s j).other) js ≡ sum (λ j. f (record_at s j).dom) js + f q
  unfolding sum
  chain-even f p q [] h = omega (arith, ap f h)
  chain-even f p q (j ∷ js) h = omega (arith, ap f h.0, chain-even f (record_at s j).other q js h.1)

  -- ---- by places

  pub chain_first : (p q : Point) (js : List ℕ) → Chain s p js q → 0 < length js → (record_at s (get_or js 0 0)).dom ≡ p
  chain_first p q [] h l = absurd (omega arith)
  chain_first p q (j ∷ js) h l = h.0

  pub chain-step : (p q : Point) (js : List ℕ) → Chain s p js q → (k : ℕ) → suc k < length js
      → (record_at s (get_or js k 0)).other ≡ (record_at s (get_or js (suc k) 0)).dom
  chain-step p q [] h k l = absurd (omega arith)
  chain-step p q (j ∷ js) h zero l = sym (chain_first (record_at s j).other q js h.1 (omega arith))
  chain-step p q (j ∷ js) h (suc k) l = chain-step (record_at s j).other q js h.1 k (omega arith)

  pub chain-last : (p q : Point) (js : List ℕ) → Chain s p js q → (k : ℕ) → suc k ≡ length js
      → (record_at s (get_or js k 0)).other ≡ q
  chain-last p q [] h k e = absurd (omega arith)
  chain-last p q (j ∷ []) h zero e = h.1
  chain-last p q (j ∷ []) h (suc k) e = absurd (omega arith)
  chain-last p q (j ∷ i ∷ js) h zero e = absurd (omega arith)
  chain-last p q (j ∷ i ∷ js) h (suc k) e =
      chain-last (record_at s j).other q (i ∷ js) h.1 k (omega arith)
