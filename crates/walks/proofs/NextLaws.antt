-- What comes next in a walk, and by which half a segment is walked, in a region: by the places of its records.
--     next-less, next-is, next-from     after a record is walked comes one of the chart, just before its other half
--                                       around their corner, which departs where it ended
--     next_one, next-onto               after one record only, and each record comes after one
--     next-leaves                       what comes next is walked from its dominating end just if the record was
--     walked-less, walked-departs       the half by which a segment is walked is one of the chart's, walked from its
--                                       dominating end
--     walked-half, walked-self          it is the record or its other half; a record that is walked itself
--     walked-back                       and is one for both halves
-- The places themselves: PlaceLaws.antt. Assumes nothing.
use mathlib.Core.Path.{◌≡◌, refl, sym, ap, ◌∙◌}
use mathlib.Core.Logic.{◌⊎◌, inl, inr}
use mathlib.Core.Bool.{Bool, true, false, not, cond}
use mathlib.Core.List.{List}
use Prim.Native.Nat.{ℕ, suc, ◌<◌, ◌≤◌}
use native.Mathlib.Omega.{arith}
use lib.IntN.{ℤ}
use Rattle.counts.specs.Count.{◌∈◌}
use Rattle.counts.proofs.TestLaws.{lt-or-le}
use Rattle.record.specs.declared.Record.{Record}
use Rattle.record.specs.Records.{record_at, record_count, records}
use Rattle.chart.specs.Regions.{Region}
use Rattle.around.specs.Departing.{departs}
use Rattle.walks.specs.Ways.{way_back, clockwise, next, walked}
use Rattle.around.proofs.Parts.{Before, Next}
use Rattle.around.proofs.PartLaws.{one_way}
use Rattle.around.proofs.WedgeLaws.{next-departs}
use Rattle.walks.proofs.TurnLaws.{Turned, clockwise-is}
use Rattle.walks.proofs.TurnOnceLaws.{clockwise-one, clockwise-onto}
use Rattle.walks.proofs.PlaceLaws.{place_of, rank_in, member-at, rank-at, ranked-region}
use Rattle.walks.proofs.PlaceLaws.{back-less, back_is, back-back}

module _ {s : List ℤ} (region : Region s) where
  -- ---- around a corner

  before_at : (e j : ℕ) → j < record_count s → Turned s e j
      → Before (records s) (rank_in s) (record_at s e) (record_at s j)
  before_at e j l t =
      record { at = t.at; none = rw (rank-at region e t.less, rank-at region j l) (go t.just) }
    where
      rank : (r : Record) → r ∈ records s
          → (k : ℕ) × (k < record_count s) × (rank_in s r ≡ k) × ((record_at s k).dom ≡ r.dom)
      rank r m =
          let w = place_of region r m in
          (w.0, w.1, ap (rank_in s) w.2 ∙ rank-at region w.0 w.1, ap (λ q. q.dom) (sym w.2))

      outside : (k : ℕ) → suc e ≡ j → (k ≤ e) ⊎ (j ≤ k)
      outside k h = by_side (lt-or-le k j)
        where
          by_side : (k < j) ⊎ (j ≤ k) → (k ≤ e) ⊎ (j ≤ k)
          by_side (inl g) = inl (omega arith)
          by_side (inr g) = inr g

      go : (suc e ≡ j)
          ⊎ ((i : ℕ) → i < record_count s → (record_at s i).dom ≡ (record_at s j).dom → (j ≤ i) × (i ≤ e))
          → ((e < j)
          × ((r : Record) → r ∈ records s → r.dom ≡ (record_at s j).dom → (rank_in s r ≤ e) ⊎ (j ≤ rank_in s r)))
          ⊎ ((r : Record) → r ∈ records s → r.dom ≡ (record_at s j).dom → (j ≤ rank_in s r) × (rank_in s r ≤ e))
      go (inl h) = inl (omega arith, λ r m d. outside (rank_in s r) h)
      go (inr h) = inr (λ r m d. let w = rank r m in rw w.2 (h w.0 w.1 (w.3 ∙ d)))

  module _ (i : ℕ) (l : i < record_count s) where
    turned : Turned s (next s i) (way_back s i)
    turned = clockwise-is region (way_back s i) (back-less region i l)

    pub next-less : next s i < record_count s
    next-less = turned.less

    pub next-is : Next (records s) (rank_in s) (record_at s i) (record_at s (next s i))
    next-is =
        rw (back_is region i l) at (before_at (next s i) (way_back s i) (back-less region i l) turned)

    pub next-from : (record_at s (next s i)).dom ≡ (record_at s i).other
    next-from = turned.at ∙ ap (λ r. r.dom) (back_is region i l)

    pub next-leaves : departs (record_at s (next s i)) ≡ departs (record_at s i)
    next-leaves =
        next-departs (ranked-region region) (record_at s i) (record_at s (next s i)) (member-at region i l)
        (member-at region (next s i) next-less) next-is

  back_one : (i j : ℕ) → i < record_count s → j < record_count s → way_back s i ≡ way_back s j → i ≡ j
  back_one i j l h e = sym (back-back region i l) ∙ ap (way_back s) e ∙ back-back region j h

  pub next_one : (i j : ℕ) → i < record_count s → j < record_count s → next s i ≡ next s j → i ≡ j
  next_one i j l h e =
      back_one i j l h
      (clockwise-one region (way_back s i) (way_back s j) (back-less region i l) (back-less region j h) e)

  pub next-onto : (j : ℕ) → j < record_count s → (i : ℕ) × (i < record_count s) × (next s i ≡ j)
  next-onto j l =
      let w = clockwise-onto region j l in
      (way_back s w.0, back-less region w.0 w.1, ap (clockwise s) (back-back region w.0 w.1) ∙ w.2)

  -- ---- the half that is walked

  pub walked-self : (i : ℕ) → departs (record_at s i) ≡ true → walked s i ≡ i
  unfolding walked
  walked-self i t = ap (λ b. cond b i (way_back s i)) t

  walked-other : (i : ℕ) → departs (record_at s i) ≡ false → walked s i ≡ way_back s i
  unfolding walked
  walked-other i t = ap (λ b. cond b i (way_back s i)) t

  module _ (i : ℕ) (l : i < record_count s) where
    back-departs : departs (record_at s (way_back s i)) ≡ not (departs (record_at s i))
    back-departs =
        ap (λ r. departs r) (back_is region i l) ∙ one_way (ranked-region region) (record_at s i) (member-at region i l)

    pub walked-half : (walked s i ≡ i) ⊎ (walked s i ≡ way_back s i)
    walked-half = go (departs (record_at s i)) refl
      where
        go : (b : Bool) → departs (record_at s i) ≡ b → (walked s i ≡ i) ⊎ (walked s i ≡ way_back s i)
        go true t = inl (walked-self i t)
        go false t = inr (walked-other i t)

    pub walked-less : walked s i < record_count s
    walked-less = go walked-half
      where
        go : (walked s i ≡ i) ⊎ (walked s i ≡ way_back s i) → walked s i < record_count s
        go (inl e) = omega (arith, l)
        go (inr e) = omega (arith, back-less region i l)

    pub walked-departs : departs (record_at s (walked s i)) ≡ true
    walked-departs = go (departs (record_at s i)) refl
      where
        go : (b : Bool) → departs (record_at s i) ≡ b → departs (record_at s (walked s i)) ≡ true
        go true t = ap (λ j. departs (record_at s j)) (walked-self i t) ∙ t
        go false t = ap (λ j. departs (record_at s j)) (walked-other i t) ∙ back-departs ∙ ap not t

    pub walked-back : walked s (way_back s i) ≡ walked s i
    walked-back = go (departs (record_at s i)) refl
      where
        go : (b : Bool) → departs (record_at s i) ≡ b → walked s (way_back s i) ≡ walked s i
        go true t =
            walked-other (way_back s i) (back-departs ∙ ap not t) ∙ back-back region i l ∙ sym (walked-self i t)
        go false t = walked-self (way_back s i) (back-departs ∙ ap not t) ∙ sym (walked-other i t)
