-- The records of a region in their places, and the half of each.
--     rank_in s r          the place of record r in the chart s
--     member-at, place_of  what stands at a place is a record of the chart, and each of those has a place
--     rank-at              which is its rank
--     ranked-region        so a region with these ranks is what the theory of walks speaks of
--     back-less, back_is   the other half of a record stands where `way_back` says
--     back-back            and the other half of that is the record
-- Assumes nothing.
use mathlib.Core.Path.{◌≡◌, sym, ap, ◌∙◌}
use mathlib.Core.Logic.{◌⊎◌, inl, inr}
use mathlib.Core.Bool.{true}
use mathlib.Core.List.{List}
use Prim.Native.Nat.{ℕ, ◌<◌, ◌≤◌, zero-le}
use native.Mathlib.Omega.{arith}
use lib.Dec.{ltb}
use lib.IntN.{ℤ}
use lib.ListN.{get_or}
use borrow.Author.Tests.{lt-ltb, le-ltb}
use Rattle.counts.specs.Count.{◌∈◌, count, first_index}
use Rattle.counts.proofs.TestLaws.{is_false, lt-or-le, Side, less, equal, more, side}
use Rattle.counts.proofs.CountLaws.{any-is}
use Rattle.counts.proofs.HighestLaws.{any-member}
use Rattle.counts.proofs.ListedLaws.{listed-length, listed_at, listed-mem, mem-listed}
use Rattle.counts.proofs.FirstLaws.{first_index-unique}
use Rattle.counts.proofs.ScanLaws.{first_from-passes, first_from-least}
use Rattle.record.specs.declared.Record.{Record}
use Rattle.record.specs.Records.{record_at, record_count, records}
use Rattle.record.specs.Order.{other_half, precedes}
use Rattle.record.proofs.OrderLaws.{precedes-irrefl, precedes-asym}
use Rattle.segment.specs.Segments.{is_record}
use Rattle.segment.proofs.SegmentLaws.{is_record-true, is_record-refl}
use Rattle.chart.specs.Regions.{Region}
use Rattle.chart.proofs.OnceLaws.{region-rising, region-place, region-once}
use Rattle.walks.specs.Ways.{way_back}
use Rattle.around.proofs.Parts.{Ranked}

abbrev pub rank_in : List ℤ → Record → ℕ
rank_in s r = first_index (is_record r) (records s)

module _ {s : List ℤ} (region : Region s) where
  pub member-at : (i : ℕ) → i < record_count s → record_at s i ∈ records s
  member-at i l = mem-listed (record_at s) 0 (record_count s) i zero-le (omega arith)

  pub place_of : (r : Record) → r ∈ records s → (i : ℕ) × (i < record_count s) × (r ≡ record_at s i)
  place_of r m =
      let w = listed-mem (record_at s) 0 (record_count s) r m in
      (w.0, omega (arith, w.2), w.3)

  pub rank-at : (i : ℕ) → i < record_count s → rank_in s (record_at s i) ≡ i
  rank-at i l =
      sym
      (first_index-unique (is_record r) r (records s) i (omega (arith, listed-length (record_at s) 0 (record_count s)))
      (ap (is_record r) (at i l) ∙ is_record-refl r)
      (λ j h. is_false _ (λ t. not_earlier j h (is_record-true r _ t))))
    where
      r : Record
      r = record_at s i

      at : (j : ℕ) → j < record_count s → get_or (records s) j (record_at s i) ≡ record_at s j
      at j h = listed_at (record_at s) (record_at s i) 0 (record_count s) j h ∙ ap (record_at s) (omega arith)

      not_earlier : (j : ℕ) → j < i → get_or (records s) j (record_at s i) ≡ record_at s i → ⊥
      not_earlier j h e =
          let g = region-place region j i (omega arith) l (sym (at j (omega arith)) ∙ e) in
          omega (arith, h)

  pub ranked-region : Ranked (records s) (rank_in s)
  ranked-region =
      record {
        sound = region.sound;
        once = λ r. at-most r (lt-or-le 1 (count (is_record r) (records s)));
        follows = λ r e m k. go r e (place_of r m) (place_of e k);
      }
    where
      at-most : (r : Record) → (1 < count (is_record r) (records s)) ⊎ (count (is_record r) (records s) ≤ 1)
          → count (is_record r) (records s) ≤ 1
      at-most r (inr h) = h
      at-most r (inl h) =
          there ((any-member (is_record r) (records s)).0 ((any-is (is_record r) (records s)).1 (omega arith)))
        where
          there : (x : Record) × (x ∈ records s) × (is_record r x ≡ true) → count (is_record r) (records s) ≤ 1
          there (x, m, t) = omega (arith, region-once region r (rw (is_record-true r x t) at m))

      by_place : (i j : ℕ) → i < record_count s → j < record_count s → Side i j
          → ltb i j ≡ precedes (record_at s i) (record_at s j)
      by_place i j l h (less g) = lt-ltb i j g ∙ sym (region-rising region i j g h)
      by_place i j l h (equal g) =
          le-ltb i j (omega arith)
          ∙ sym (is_false _ (λ t. precedes-irrefl (record_at s j) (rw g at t)))
      by_place i j l h (more g) = le-ltb i j (omega arith) ∙ sym (precedes-asym _ _ (region-rising region j i g l))

      go : (r e : Record) → (i : ℕ) × (i < record_count s) × (r ≡ record_at s i)
          → (j : ℕ) × (j < record_count s) × (e ≡ record_at s j)
          → ltb (rank_in s r) (rank_in s e) ≡ precedes r e
      go r e (i, l, p) (j, h, q) =
          rw (p, q, rank-at i l, rank-at j h) (by_place i j l h (side i j))

  -- ---- the other half

  module _ (i : ℕ) (l : i < record_count s) where
    half : (k : ℕ) × (k < record_count s) × (other_half (record_at s i) ≡ record_at s k)
    half = place_of (other_half (record_at s i)) (region.sound.halves (record_at s i) (member-at i l))

    pub back-less : way_back s i < record_count s
    unfolding way_back
    back-less = go half
      where
        go : (k : ℕ) × (k < record_count s) × (other_half (record_at s i) ≡ record_at s k)
            → way_back s i < record_count s
        go (k, h, e) =
            let least =
            first_from-least (is_record (other_half (record_at s i))) (record_at s) 0 (record_count s) zero-le k zero-le
            (ap (is_record (other_half (record_at s i))) (sym e) ∙ is_record-refl (other_half (record_at s i))) in
            omega (arith, least)

    pub back_is : record_at s (way_back s i) ≡ other_half (record_at s i)
    unfolding way_back
    back_is =
        is_record-true _ _
        (first_from-passes (is_record (other_half (record_at s i))) (record_at s) 0 (record_count s) zero-le back-less)

  pub back-back : (i : ℕ) → i < record_count s → way_back s (way_back s i) ≡ i
  back-back i l =
      let h = back-less i l in
      region-place region _ _ (back-less _ h) l (back_is _ h ∙ ap other_half (back_is i l))
