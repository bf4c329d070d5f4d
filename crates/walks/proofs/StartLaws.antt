-- Where the walk of a record of a region is taken to start: at its least record.
--     least-mem, least-low      the least of some numbers is one of them, and none is less
--     start-walk, start-less, start-departs    the start is in the walk, so a record of the chart, and is walked from
--                               its dominating end
--     start-least               no record of the walk comes before it
--     start-same, same_start    two records have one start just if they are walked in one walk
--     start-start, start_back   the start's own start is itself; both halves of a segment have one
--     start-point               the smallest point of the walk is where its start departs
-- Assumes nothing.
use mathlib.Core.Path.{◌≡◌, refl}
use mathlib.Core.Logic.{◌⊎◌, inl, inr}
use mathlib.Core.Bool.{Bool, true, false, cond}
use mathlib.Core.List.{List, [], ◌∷◌, map}
use mathlib.Core.List.Memᴰ
use Prim.Native.Nat.{ℕ, ◌<◌, ◌≤◌}
use native.Mathlib.Omega.{arith}
use lib.Dec.{ltb}
use lib.IntN.{ℤ}
use borrow.Author.Tests.{ltb-true, ltb-false}
use Rattle.counts.specs.Count.{◌∈◌}
use Rattle.counts.proofs.MapLaws.{map-mem}
use Rattle.plane.specs.declared.Point.{Point}
use Rattle.plane.specs.Points.{before}
use Rattle.record.specs.Records.{record_at, record_count}
use Rattle.parts.proofs.RunLaws.{doms-rise}
use Rattle.chart.specs.Regions.{Region}
use Rattle.around.specs.Departing.{departs}
use Rattle.walks.specs.Ways.{way_back, walked}
use Rattle.walks.specs.Walks.{walk}
use Rattle.walks.specs.Cycles.{least, start_of}
use Rattle.walks.specs.Faces.{smallest, smallest_point}
use Rattle.walks.proofs.PlaceLaws.{back-less}
use Rattle.walks.proofs.NextLaws.{walked-less, walked-departs, walked-self, walked-back}
use Rattle.walks.proofs.RoundLaws.{walk-less, walk-self, walk-sym, walk-trans, walk-departs}

-- ---- the least

pub least-mem : (i : ℕ) (js : List ℕ) → (least i js ≡ i) ⊎ (least i js ∈ js)
unfolding least
least-mem i [] = inl refl
least-mem i (j ∷ js) = go (ltb j i) (least-mem (cond (ltb j i) j i) js)
  where
    go : (b : Bool) → (least (cond b j i) js ≡ cond b j i) ⊎ (least (cond b j i) js ∈ js)
        → (least (cond b j i) js ≡ i) ⊎ (least (cond b j i) js ∈ j ∷ js)
    go true (inl e) = inr (Memᴰ.head e)
    go false (inl e) = inl e
    go b (inr m) = inr (Memᴰ.tail m)

pub least-low : (i : ℕ) (js : List ℕ) → (least i js ≤ i) × ((j : ℕ) → j ∈ js → least i js ≤ j)
unfolding least
least-low i [] = (omega arith, λ j m. absurd (Memᴰ.not-nil m))
least-low i (j ∷ js) = go (ltb j i) refl (least-low (cond (ltb j i) j i) js)
  where
    with_first : (k : ℕ) → k ≤ j → ((h : ℕ) → h ∈ js → k ≤ h) → (h : ℕ) → (h ≡ j) ⊎ (h ∈ js) → k ≤ h
    with_first k l low h (inl e) = omega arith
    with_first k l low h (inr m) = low h m

    go : (b : Bool) → ltb j i ≡ b
        → (least (cond b j i) js ≤ cond b j i) × ((h : ℕ) → h ∈ js → least (cond b j i) js ≤ h)
        → (least (cond b j i) js ≤ i) × ((h : ℕ) → h ∈ j ∷ js → least (cond b j i) js ≤ h)
    go true t (l, low) = (omega (arith, ltb-true j i t), λ h m. with_first _ l low h (Memᴰ.cases_cons m))
    go false t (l, low) =
        (l, λ h m. with_first _ (omega (arith, ltb-false j i t)) low h (Memᴰ.cases_cons m))

-- ---- the start

module _ {s : List ℤ} (region : Region s) where
  module _ (i : ℕ) (l : i < record_count s) where
    pub start-walk : start_of s i ∈ walk s (walked s i)
    unfolding start_of
    start-walk = go (least-mem (walked s i) (walk s (walked s i)))
      where
        go : (start_of s i ≡ walked s i) ⊎ (start_of s i ∈ walk s (walked s i)) → start_of s i ∈ walk s (walked s i)
        go (inl e) = rw e (walk-self region (walked s i) (walked-less region i l))
        go (inr m) = m

    pub start-less : start_of s i < record_count s
    start-less = walk-less region (walked s i) (walked-less region i l) (start_of s i) start-walk

    pub start-departs : departs (record_at s (start_of s i)) ≡ true
    start-departs =
        walk-departs region (walked s i) (walked-less region i l) (walked-departs region i l) (start_of s i) start-walk

    pub start-least : (j : ℕ) → j ∈ walk s (walked s i) → start_of s i ≤ j
    unfolding start_of
    start-least = (least-low (walked s i) (walk s (walked s i))).1

    start-walked : walked s (start_of s i) ≡ start_of s i
    start-walked = walked-self region (start_of s i) start-departs

  in-walk : (i j k : ℕ) → i < record_count s → walked s j ∈ walk s (walked s i) → k ∈ walk s (walked s j)
      → k ∈ walk s (walked s i)
  in-walk i j k l = walk-trans region (walked s i) (walked-less region i l) (walked s j) k

  pub start-same : (i j : ℕ) → i < record_count s → j < record_count s → walked s j ∈ walk s (walked s i)
      → start_of s j ≡ start_of s i
  start-same i j l h m =
      let back = walk-sym region (walked s i) (walked-less region i l) (walked s j) m in
      omega (
        arith,
        start-least i l (start_of s j) (in-walk i j (start_of s j) l m (start-walk j h)),
        start-least j h (start_of s i) (in-walk j i (start_of s i) h back (start-walk i l)),
      )

  pub same_start : (i j : ℕ) → i < record_count s → j < record_count s → start_of s j ≡ start_of s i
      → walked s j ∈ walk s (walked s i)
  same_start i j l h e =
      let back = walk-sym region (walked s j) (walked-less region j h) (start_of s j) (start-walk j h) in
      walk-trans region (walked s i) (walked-less region i l) (start_of s i) (walked s j) (start-walk i l)
      (rw e at back)

  pub start-start : (i : ℕ) → i < record_count s → start_of s (start_of s i) ≡ start_of s i
  start-start i l = start-same i (start_of s i) l (start-less i l) (rw (start-walked i l) (start-walk i l))

  pub start_back : (i : ℕ) → i < record_count s → start_of s (way_back s i) ≡ start_of s i
  start_back i l =
      start-same i (way_back s i) l (back-less region i l)
      (rw (walked-back region i l) (walk-self region (walked s i) (walked-less region i l)))

  -- ---- records stand in order of where they depart

  pub start-point : (i : ℕ) → i < record_count s → smallest_point s (start_of s i) ≡ (record_at s (start_of s i)).dom
  unfolding smallest
  start-point i l = go (map (λ j. (record_at s j).dom) (walk s (start_of s i))) (λ q m. above q (map-mem _ _ q m))
    where
      go : (qs : List Point) → ((q : Point) → q ∈ qs → before q (record_at s (start_of s i)).dom ≡ false)
          → smallest (record_at s (start_of s i)).dom qs ≡ (record_at s (start_of s i)).dom
      go [] h = refl
      go (q ∷ qs) h = rw (h q (Memᴰ.head refl)) (go qs (λ p m. h p (Memᴰ.tail m)))

      above : (q : Point) → (j : ℕ) × (j ∈ walk s (start_of s i)) × (q ≡ (record_at s j).dom)
          → before q (record_at s (start_of s i)).dom ≡ false
      above q (j, m, e) =
          rw e
          (doms-rise s region.ordered (start_of s i) j
          (omega (arith, start-least (start_of s i) (start-less i l) j (rw (start-walked i l) m), start-start i l))
          (walk-less region (start_of s i) (start-less i l) j m))
