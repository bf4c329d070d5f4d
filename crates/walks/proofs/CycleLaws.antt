-- The cycle of each record, and the cycle's two halves of each segment.
--     cycle_has         a segment is walked in the cycle of each of its records
--     cycle-of          which is one of those that the walk is cut into, from its start
--     cycle-walked      the records of it are walked as they are
--     cycle-same, cycle-back     a cycle's records have it for theirs, and so has the other half of each
--     halves-self       a record is one of its own cycle's
--     halves-less, halves-same, cycle_start    those are records of the chart, of that cycle, and of one walk
-- Assumes nothing.
use mathlib.Core.Path.{◌≡◌, refl, sym, ap, ap₂, ◌∙◌, subst}
use mathlib.Core.Logic.{◌⊎◌, inl, inr, ⊎_elim}
use mathlib.Core.Bool.{Bool, true, false, cond, true≢false}
use mathlib.Core.List.Memᴰ
use mathlib.Core.List.{List, ◌∷◌, map}
use Prim.Native.Nat.{ℕ, ◌<◌}
use lib.IntN.{ℤ}
use Rattle.counts.specs.Count.{◌∈◌}
use Rattle.counts.proofs.MapLaws.{map-mem, mem-map}
use Rattle.record.specs.Records.{record_at, record_count}
use Rattle.chart.specs.Regions.{Region}
use Rattle.around.specs.Departing.{departs}
use Rattle.walks.specs.Ways.{way_back, walked}
use Rattle.walks.specs.Walks.{cycles_of}
use Rattle.walks.specs.Cycles.{start_of, has_record, first_that, cycle_of, halves}
use Rattle.walks.proofs.PlaceLaws.{back-less, back-back}
use Rattle.walks.proofs.NextLaws.{walked-less, walked-half, walked-back}
use Rattle.walks.proofs.RoundLaws.{walk-less, walk-sym, walk-trans, walk-departs}
use Rattle.walks.proofs.StartLaws.{start-walk, start-less, start-departs, start-same, start_back}
use Rattle.counts.proofs.ShareLaws.{mem-any, any-mem}
use Rattle.walks.proofs.CutLaws.{cycle-walk, walk-cycle, cycle-one}

-- where one passes, the first that does is found
first_found : (p : List ℕ → Bool) (cs : List (List ℕ)) (c : List ℕ) → c ∈ cs → p c ≡ true
    → (first_that p cs ∈ cs) × (p (first_that p cs) ≡ true)
unfolding first_that
first_found p (d ∷ ds) c m t = go (p d) refl (Memᴰ.cases_cons m) (λ k. first_found p ds c k t)
  where
    go : (b : Bool) → p d ≡ b → (c ≡ d) ⊎ (c ∈ ds) → (c ∈ ds → (first_that p ds ∈ ds) × (p (first_that p ds) ≡ true))
        → (cond b d (first_that p ds) ∈ d ∷ ds) × (p (cond b d (first_that p ds)) ≡ true)
    go true e k ih = (Memᴰ.head refl, e)
    go false e (inl g) ih = absurd (true≢false (sym t ∙ ap p g ∙ e))
    go false e (inr k) ih = let w = ih k in (Memᴰ.tail w.0, w.1)
first_found p mathlib.Core.List.[] c m t = elim m [ ]

module _ {s : List ℤ} (region : Region s) where
  -- ---- a record's cycle is there, and has its segment

  cycle-found : (i : ℕ) → i < record_count s
      → (cycle_of s i ∈ cycles_of s (start_of s i)) × (has_record (walked s i) (cycle_of s i) ≡ true)
  unfolding cycle_of
  cycle-found i l =
      let own = walk-sym region (walked s i) (walked-less region i l) (start_of s i) (start-walk region i l) in
      let w = walk-cycle region (start_of s i) (start-less region i l) (walked s i) own in
      first_found (has_record (walked s i)) (cycles_of s (start_of s i)) w.0 w.1 (mem-any (walked s i) w.0 w.2)

  pub cycle-of : (i : ℕ) → i < record_count s → cycle_of s i ∈ cycles_of s (start_of s i)
  cycle-of i l = (cycle-found i l).0

  pub cycle_has : (i : ℕ) → i < record_count s → walked s i ∈ cycle_of s i
  cycle_has i l = any-mem (walked s i) (cycle_of s i) (cycle-found i l).1

  -- ---- the records of a cycle, as they are walked

  walked-self : (j : ℕ) → departs (record_at s j) ≡ true → walked s j ≡ j
  unfolding walked
  walked-self j e = ap (λ b. cond b j (way_back s j)) e

  pub cycle-walked : (i j : ℕ) → i < record_count s → j ∈ cycle_of s i
      → (j < record_count s) × (departs (record_at s j) ≡ true)
  cycle-walked i j l m =
      let w = start_of s i in
      let k = cycle-walk region w (start-less region i l) (cycle_of s i) (cycle-of i l) j m in (
        walk-less region w (start-less region i l) j k,
        walk-departs region w (start-less region i l) (start-departs region i l) j k,
      )

  walked_start : (i j : ℕ) → i < record_count s → j ∈ cycle_of s i → start_of s j ≡ start_of s i
  walked_start i j l m =
      let h = cycle-walked i j l m in
      start-same region i j l h.0 (Memᴰ.cast (walked-self j h.1) (walk-trans region (walked s i)
      (walked-less region i l) (start_of s i) j (start-walk region i l)
      (cycle-walk region (start_of s i) (start-less region i l) (cycle_of s i) (cycle-of i l) j m)))

  pub cycle-same : (i j : ℕ) → i < record_count s → j ∈ cycle_of s i → cycle_of s j ≡ cycle_of s i
  cycle-same i j l m =
      let h = cycle-walked i j l m in
      cycle-one region (start_of s i) (start-less region i l) (cycle_of s j) (cycle_of s i)
      (subst (λ w. cycle_of s j ∈ cycles_of s w) (walked_start i j l m) (cycle-of j h.0)) (cycle-of i l) j
      (Memᴰ.cast (sym (walked-self j h.1)) (cycle_has j h.0)) m

  pub cycle-back : (i : ℕ) → i < record_count s → cycle_of s (way_back s i) ≡ cycle_of s i
  unfolding cycle_of
  cycle-back i l =
      ap₂ (λ j w. first_that (has_record j) (cycles_of s w)) (walked-back region i l) (start_back region i l)

  -- ---- both halves of its segments

  -- what holds of the records walked, and of the other half of each, holds of all
  on-halves : (Q : ℕ → Type 0) (c : List ℕ) → ((j : ℕ) → j ∈ c → Q j) → ((j : ℕ) → j ∈ c → Q (way_back s j))
      → (j : ℕ) → j ∈ halves s c → Q j
  on-halves Q c f g j m =
      ⊎_elim (f j) (λ k. let w = map-mem (way_back s) c j k in subst Q (sym w.2) (g w.0 w.1))
      (Memᴰ.append_cases c m)

  pub halves-self : (i : ℕ) → i < record_count s → i ∈ halves s (cycle_of s i)
  halves-self i l = go (walked-half region i l)
    where
      go : (walked s i ≡ i) ⊎ (walked s i ≡ way_back s i) → i ∈ halves s (cycle_of s i)
      go (inl e) = Memᴰ.append_left (map (way_back s) (cycle_of s i)) (Memᴰ.cast (sym e) (cycle_has i l))
      go (inr e) =
          Memᴰ.append_right (cycle_of s i) (Memᴰ.cast (sym (ap (way_back s) e ∙ back-back region i l))
          (mem-map (way_back s) (cycle_of s i) (walked s i) (cycle_has i l)))

  pub halves-less : (i j : ℕ) → i < record_count s → j ∈ halves s (cycle_of s i) → j < record_count s
  halves-less i j l =
      on-halves (λ k. k < record_count s) (cycle_of s i) (λ k m. (cycle-walked i k l m).0)
      (λ k m. back-less region k (cycle-walked i k l m).0) j

  pub halves-same : (i j : ℕ) → i < record_count s → j ∈ halves s (cycle_of s i) → cycle_of s j ≡ cycle_of s i
  halves-same i j l =
      on-halves (λ k. cycle_of s k ≡ cycle_of s i) (cycle_of s i) (λ k. cycle-same i k l)
      (λ k m. cycle-back k (cycle-walked i k l m).0 ∙ cycle-same i k l m) j

  pub cycle_start : (i j : ℕ) → i < record_count s → j ∈ halves s (cycle_of s i) → start_of s j ≡ start_of s i
  cycle_start i j l =
      on-halves (λ k. start_of s k ≡ start_of s i) (cycle_of s i) (λ k. walked_start i k l)
      (λ k m. start_back region k (cycle-walked i k l m).0 ∙ walked_start i k l m) j
