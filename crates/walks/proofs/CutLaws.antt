-- The cycles that a walk is cut into.
--     cycle-loop, cycle-closed      each of a walk's cycles is one, as a chain and by its places
--     shared-out         the cycles of a walk share it out, for any number v of a record
--     cycle-walk, walk-cycle        a record of such a cycle is walked, and a record that is walked is in such a cycle
--     cycle-one          in one only
-- Assumes nothing.
use mathlib.Core.Path.{◌≡◌, refl, sym, ap, ◌∙◌, subst}
use mathlib.Core.List.Memᴰ
use mathlib.Core.List.{List}
use Prim.Native.Nat.{ℕ, zero, suc, ◌+◌, ◌-◌, ◌<◌}
use native.Mathlib.Omega.{arith}
use lib.Dec.{eqb}
use lib.IntN.{ℤ}
use lib.ListN.{length, get_or}
use Rattle.counts.specs.Count.{◌∈◌, ind, sum, count, listed}
use Rattle.counts.proofs.SumLaws.{sum-member}
use Rattle.plane.specs.declared.Point.{Point}
use Rattle.plane.specs.Points.{same}
use Rattle.plane.proofs.PointLaws.{same_refl}
use Rattle.record.specs.Records.{record_at, record_count}
use Rattle.chart.specs.Regions.{Region}
use Rattle.walks.specs.Walks.{walk, from, walk_all, uncut, cycles_of, cycles_in}
use Rattle.walks.specs.Circuits.{Closed}
use Rattle.walks.proofs.NextLaws.{next-from}
use Rattle.walks.proofs.StepLaws.{goes, walk-listed, goes-less, steps, round}
use Rattle.walks.proofs.ChainLaws.{Chain, Loop, chain_first, chain-step, chain-last}
use Rattle.walks.proofs.RoundLaws.{walk-once}
use Rattle.counts.proofs.ShareLaws.{sum-some, sum_one, count-two, mem-counted, counted-mem}
use Rattle.walks.proofs.MachineLaws.{Holding, held_cut, held_all, all_back, shared-cut, shared-all}

loop-closed : (s : List ℤ) (c : List ℕ) → Loop s c → Closed s c
loop-closed s c h = record {
  some = h.some;
  chain = chain-step s h.start h.start c h.round;
  ends = chain-last s h.start h.start c h.round (length c - 1) (omega (arith, h.some))
      ∙ sym (chain_first s h.start h.start c h.round h.some);
  simple = λ j k l g e. let p = (record_at s (get_or c k 0)).dom in
      omega (arith, h.simple p, count-two (from s p) 0 c j k l g (ap (λ q. same q p) e ∙ same_refl p) (same_refl p));
}

-- ---- of any records that are walked in a chain and come round

module _ (s : List ℤ) (i : ℕ) (js : List ℕ) (comes : Chain s (record_at s i).dom js (record_at s i).dom) where
  all_held : Holding s (record_at s i).dom (record_at s i).dom (walk_all s uncut js)
  unfolding sum
  all_held =
      let p = (record_at s i).dom in
      held_all s p p p js uncut comes
      (record { chain = refl; simple = λ o. omega arith; loops = λ d m. absurd (Memᴰ.not-nil m) })

  loop-in : (c : List ℕ) → c ∈ cycles_in s i js → Loop s c
  loop-in c m =
      let p = (record_at s i).dom in
      (held_cut s p p (walk_all s uncut js) all_held).0.loops c m

  shared-in : (v : ℕ → ℕ) → sum (λ c. sum v c) (cycles_in s i js) ≡ sum v js
  unfolding sum
  shared-in v =
      let p = (record_at s i).dom in
      let d = walk_all s uncut js in
      omega (arith, ap (sum v) (all_back s p d all_held), shared-cut s v p d, shared-all s v js uncut)

module _ {s : List ℤ} (region : Region s) (i : ℕ) (l : i < record_count s) where
  -- ---- a walk is a chain that comes round

  goes-chain : (a k b : ℕ) (p q : Point) → a + k ≡ b → (record_at s (goes s i a)).dom ≡ p
      → (record_at s (goes s i b)).dom ≡ q → Chain s p (listed (goes s i) a k) q
  unfolding listed goes
  goes-chain a zero b p q n e g =
      let same_place : a ≡ b = omega arith in
      sym e ∙ ap (λ m. (record_at s (goes s i m)).dom) same_place ∙ g
  goes-chain a (suc k) b p q n e g = (
    e,
    goes-chain (suc a) k b (record_at s (goes s i a)).other q (omega arith)
        (next-from region (goes s i a) (goes-less region i l a)) g,
  )

  walk-chain : Chain s (record_at s i).dom (walk s i) (record_at s i).dom
  unfolding goes
  walk-chain =
      let p = (record_at s i).dom in
      subst (λ js. Chain s p js p) (sym (walk-listed region i l))
      (goes-chain 0 (steps s i) (steps s i) p p (omega arith) refl
      (ap (λ j. (record_at s j).dom) (round region i l).2))

  pub cycle-loop : (c : List ℕ) → c ∈ cycles_of s i → Loop s c
  unfolding cycles_of
  cycle-loop = loop-in s i (walk s i) walk-chain

  pub cycle-closed : (c : List ℕ) → c ∈ cycles_of s i → Closed s c
  cycle-closed c m = loop-closed s c (cycle-loop c m)

  -- ---- its cycles share it out

  pub shared-out : (v : ℕ → ℕ) → sum (λ c. sum v c) (cycles_of s i) ≡ sum v (walk s i)
  unfolding cycles_of
  shared-out = shared-in s i (walk s i) walk-chain

  pub cycle-walk : (c : List ℕ) → c ∈ cycles_of s i → (j : ℕ) → j ∈ c → j ∈ walk s i
  cycle-walk c m j k =
      counted-mem j (walk s i) (omega (
        arith,
        mem-counted j c k,
        sum-member (λ d. count (eqb j) d) (cycles_of s i) c m,
        shared-out (λ n. ind (eqb j n)),
      ))

  pub walk-cycle : (j : ℕ) → j ∈ walk s i → (c : List ℕ) × (c ∈ cycles_of s i) × (j ∈ c)
  walk-cycle j m =
      let w = sum-some (λ d. count (eqb j) d) (cycles_of s i)
      (omega (arith, mem-counted j (walk s i) m, shared-out (λ n. ind (eqb j n))))
      in
      (w.0, w.1, counted-mem j w.0 w.2)

  pub cycle-one : (c d : List ℕ) → c ∈ cycles_of s i → d ∈ cycles_of s i → (j : ℕ) → j ∈ c → j ∈ d → c ≡ d
  cycle-one c d m n j k h =
      sum_one (λ e. count (eqb j) e) (cycles_of s i)
      (omega (arith, walk-once region i l j, shared-out (λ n. ind (eqb j n)))) c d m n (mem-counted j c k)
      (mem-counted j d h)
