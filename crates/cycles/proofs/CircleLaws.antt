-- What is written for one walk: for a start w, the least record of its walk, the cycles of the walk have exactly the
-- records whose walk starts at w, each in one cycle.
--     walked-self         a record that departs is walked by itself
--     written-starts, written-firsts     at each record whose walk starts at w, w and the first record of its cycle; at
--                         each other record what was there
--     behind-starts, behind-firsts       behind the records what was there
-- Assumes nothing.
use mathlib.Core.Path.{◌≡◌, refl, sym, ap, subst, ◌∙◌}
use mathlib.Core.Logic.{◌⊎◌, inl, inr, ⊎_elim}
use mathlib.Core.Bool.{true, false, cond, true≢false}
use mathlib.Core.List.Memᴰ
use mathlib.Core.List.{List}
use Prim.Native.Nat.{ℕ, ◌≤◌, ◌<◌}
use native.Mathlib.Omega.{arith}
use lib.Dec.{eqb}
use lib.IntN.{ℤ}
use lib.ListN.{length, get_or}
use borrow.Author.Tests.{eqb-true, eq-eqb}
use Rattle.counts.specs.Count.{◌∈◌, any}
use Rattle.counts.proofs.TestLaws.{or-true, or_left, or_right, is_false, same_test}
use Rattle.counts.proofs.HighestLaws.{any-member, any_none}
use Rattle.record.specs.Records.{record_at, record_count}
use Rattle.chart.specs.Regions.{Region}
use Rattle.around.specs.Departing.{departs}
use Rattle.walks.specs.Ways.{way_back, walked}
use Rattle.walks.specs.Walks.{walk, cycles_of}
use Rattle.walks.specs.Cycles.{start_of, cycle_of, halves, first_of}
use Rattle.cycles.specs.Steps.{firsts_of, starts_of}
use Rattle.walks.proofs.PlaceLaws.{back-less, back-back}
use Rattle.walks.proofs.NextLaws.{walked-half, walked-back}
use Rattle.walks.proofs.RoundLaws.{walk-less, walk-departs}
use Rattle.walks.proofs.StartLaws.{start-same, same_start}
use Rattle.walks.proofs.CycleLaws.{cycle_has, cycle-of}
use Rattle.walks.proofs.FirstRecordLaws.{first-half, first-least}
use Rattle.walks.proofs.CutLaws.{cycle-walk, walk-cycle, cycle-one}
use Rattle.cycles.proofs.NameLaws.{halved, halved_in, least_half, starts_of-at, firsts_of-at}
use Rattle.cycles.proofs.LeastLaws.{least-half, least-low}

module _ {s : List ℤ} (region : Region s) where
  pub walked-self : (j : ℕ) → departs (record_at s j) ≡ true → walked s j ≡ j
  unfolding walked
  walked-self j d = rw d refl

  -- ---- the halves of a record that is walked

  halved-walked : (i : ℕ) → i < record_count s → halved s i (walked s i) ≡ true
  halved-walked i l =
      ⊎_elim (λ e. or_left _ (eq-eqb (walked s i) i e))
      (λ e. or_right (eqb (walked s i) i)
      (eq-eqb (way_back s (walked s i)) i (ap (way_back s) e ∙ back-back region i l))) (walked-half region i l)

  walked-halved : (i j : ℕ) → j < record_count s → departs (record_at s j) ≡ true → halved s i j ≡ true → walked s i ≡ j
  walked-halved i j l d t =
      ⊎_elim (λ e. ap (walked s) (sym (eqb-true j i e)) ∙ walked-self j d)
      (λ e. ap (walked s) (sym (eqb-true (way_back s j) i e)) ∙ walked-back region j l ∙ walked-self j d)
      (or-true (eqb j i) (eqb (way_back s j) i) t)

  module _ (w : ℕ) (l : w < record_count s) (d : departs (record_at s w) ≡ true) where
    -- ---- the records of the walk from w

    cycle-less : (c : List ℕ) → c ∈ cycles_of s w → (j : ℕ) → j ∈ c → j < record_count s
    cycle-less c m j h = walk-less region w l j (cycle-walk region w l c m j h)

    halved-in : (i : ℕ) (c : List ℕ) → c ∈ cycles_of s w → any (halved s i) c ≡ true → walked s i ∈ c
    halved-in i c m t =
        let h = (any-member (halved s i) c).0 t in
        let d' = walk-departs region w l d h.0 (cycle-walk region w l c m h.0 h.1) in
        Memᴰ.cast (walked-halved i h.0 (cycle-less c m h.0 h.1) d' h.2) h.1

    none-halved : (i : ℕ) → record_count s ≤ i → (c : List ℕ) → c ∈ cycles_of s w → any (halved s i) c ≡ false
    none-halved i h c m =
        (any_none (halved s i) c).1 (λ j k. is_false (halved s i j) (λ t. off j (cycle-less c m j k) (or-true _ _ t)))
      where
        off : (j : ℕ) → j < record_count s → (eqb j i ≡ true) ⊎ (eqb (way_back s j) i ≡ true) → ⊥
        off j l (inl e) = omega (arith, eqb-true j i e)
        off j l (inr e) = omega (arith, eqb-true (way_back s j) i e, back-less region j l)

    none-behind : (i : ℕ) → record_count s ≤ i → halved_in s i (cycles_of s w) ≡ false
    none-behind i h = (any_none (λ c. any (halved s i) c) (cycles_of s w)).1 (none-halved i h)

    pub behind-starts : (to : List ℕ) (i : ℕ) → record_count s ≤ i
        → get_or (starts_of s w (cycles_of s w) to) i 0 ≡ get_or to i 0
    behind-starts to i h =
        starts_of-at s i w (cycles_of s w) to (λ t. absurd (true≢false (sym t ∙ none-behind i h)))
        ∙ ap (λ b. cond b w (get_or to i 0)) (none-behind i h)

    pub behind-firsts : (to : List ℕ) (i : ℕ) → record_count s ≤ i
        → get_or (firsts_of s (cycles_of s w) to) i 0 ≡ get_or to i 0
    behind-firsts to i h =
        firsts_of-at s i 0 (cycles_of s w) to (λ t. absurd (true≢false (sym t ∙ none-behind i h)))
        (λ c m t. absurd (true≢false (sym t ∙ none-halved i h c m)))
        ∙ ap (λ b. cond b 0 (get_or to i 0)) (none-behind i h)

    -- ---- where w is the start of its walk

    module _ (start : start_of s w ≡ w) (i : ℕ) (k : i < record_count s) where
      starts-at : walked s i ∈ walk s w → start_of s i ≡ w
      starts-at m =
          start-same region w i l k (subst (λ j. walked s i ∈ walk s j) (sym (walked-self w d)) m) ∙ start

      in-walk : start_of s i ≡ w → walked s i ∈ walk s w
      in-walk e =
          subst (λ j. walked s i ∈ walk s j) (walked-self w d) (same_start region w i l k (e ∙ sym start))

      halved_is : halved_in s i (cycles_of s w) ≡ eqb (start_of s i) w
      halved_is = same_test _ _ there back
        where
          there : halved_in s i (cycles_of s w) ≡ true → eqb (start_of s i) w ≡ true
          there t =
              let h = (any-member (λ c. any (halved s i) c) (cycles_of s w)).0 t in
              eq-eqb (start_of s i) w
              (starts-at (cycle-walk region w l h.0 h.1 (walked s i) (halved-in i h.0 h.1 h.2)))

          back : eqb (start_of s i) w ≡ true → halved_in s i (cycles_of s w) ≡ true
          back t =
              let h = walk-cycle region w l (walked s i) (in-walk (eqb-true (start_of s i) w t)) in
              (any-member (λ c. any (halved s i) c) (cycles_of s w)).1
              (h.0, h.1, (any-member (halved s i) h.0).1 (walked s i, h.2, halved-walked i k))

      least-is : (c : List ℕ) → c ∈ cycles_of s w → any (halved s i) c ≡ true → least_half s c ≡ first_of s i
      least-is c m t =
          let h : walked s i ∈ c = halved-in i c m t in
          let e : start_of s i ≡ w = starts-at (cycle-walk region w l c m (walked s i) h) in
          let own : cycle_of s i ∈ cycles_of s w = subst (λ v. cycle_of s i ∈ cycles_of s v) e (cycle-of region i k) in
          let one : cycle_of s i ≡ c =
          cycle-one region w l (cycle_of s i) c own m (walked s i) (cycle_has region i k) h in
          let first : first_of s i ∈ halves s c = subst (λ c. first_of s i ∈ halves s c) one (first-half region i k) in
          let low : first_of s i ≤ least_half s c = first-least region i (least_half s c) k
          (subst (λ c'. least_half s c ∈ halves s c') (sym one) (least-half s c h))
          in
          omega (arith, low, least-low s c first)

      module _ (to : List ℕ) (room : record_count s ≤ length to) where
        pub written-starts : get_or (starts_of s w (cycles_of s w) to) i 0
            ≡ cond (eqb (start_of s i) w) w (get_or to i 0)
        written-starts =
            starts_of-at s i w (cycles_of s w) to (λ t. omega arith) ∙ ap (λ b. cond b w (get_or to i 0)) halved_is

        pub written-firsts : get_or (firsts_of s (cycles_of s w) to) i 0
            ≡ cond (eqb (start_of s i) w) (first_of s i) (get_or to i 0)
        written-firsts =
            firsts_of-at s i (first_of s i) (cycles_of s w) to (λ t. omega arith) least-is
            ∙ ap (λ b. cond b (first_of s i) (get_or to i 0)) halved_is
