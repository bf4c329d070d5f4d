-- The records of a region, each once: its order is strict, so no record stands twice and each segment has two halves.
--     sound-proper        the two ends of each record differ
--     sound-half          two left halves of one segment are one record; and two right halves
--     region-rising       each record comes after all that stand before it
--     region-place        one record stands at one place
--     region-ascending    the list of records ascends
--     region-once         each record is in it once
-- Assumes nothing.
use mathlib.Core.Path.{◌≡◌, refl, sym, ap, ◌∙◌}
use mathlib.Core.Bool.{Bool, true, false}
use mathlib.Core.List.{List}
use Prim.Native.Nat.{ℕ, ◌<◌, zero-le}
use native.Mathlib.Omega.{arith}
use lib.IntN.{ℤ}
use Rattle.counts.specs.Count.{◌∈◌, count}
use Rattle.counts.proofs.TestLaws.{Side, less, equal, more, side}
use Rattle.counts.proofs.ListedLaws.{mem-listed}
use Rattle.counts.proofs.AscendingLaws.{Ascending, rising, listed-ascending, once}
use Rattle.record.specs.declared.Record.{Record}
use Rattle.record.specs.Records.{record_at, record_count, records}
use Rattle.record.specs.Order.{left, Proper, precedes}
use Rattle.record.proofs.OrderLaws.{precedes-irrefl, precedes-trans}
use Rattle.segment.specs.Segments.{segment, is_record}
use Rattle.segment.proofs.SegmentLaws.{segment-left, segment-right, is_record-true, is_record-refl}
use Rattle.among.specs.Among.{counted_mark}
use Rattle.chart.specs.Regions.{Sound, Region}
use Rattle.chart.proofs.RowLaws.{equal_ends-off}

module _ {rs : List Record} (sound : Sound rs) where
  pub sound-proper : (r : Record) → r ∈ rs → Proper r
  sound-proper r m = (equal_ends-off r).1 (sound.ends r m)

  -- the marks are both the counted one
  pub sound-half : (r e : Record) → r ∈ rs → e ∈ rs → left r ≡ left e → segment r ≡ segment e → r ≡ e
  sound-half r e m n h g = one (by-half (left r) refl (sym h))
    where
      by-half : (b : Bool) → left r ≡ b → left e ≡ b → (r.dom ≡ e.dom) × (r.other ≡ e.other)
      by-half true p q =
          let k = sym (segment-left r p) ∙ g ∙ segment-left e q in
          (ap (λ s. s.a) k, ap (λ s. s.b) k)
      by-half false p q =
          let k = sym (segment-right r p) ∙ g ∙ segment-right e q in
          (ap (λ s. s.b) k, ap (λ s. s.a) k)

      mark : r.mark ≡ e.mark
      mark = sound.counted r m ∙ ap (counted_mark rs) g ∙ sym (sound.counted e n)

      one : (r.dom ≡ e.dom) × (r.other ≡ e.other) → r ≡ e
      one k = λ i. record { dom = k.0 i; other = k.1 i; mark = mark i }

module _ {s : List ℤ} (region : Region s) where
  proper : (i : ℕ) → i < record_count s → Proper (record_at s i)
  proper i l = sound-proper region.sound _ (mem-listed (record_at s) 0 (record_count s) i zero-le (omega arith))

  pub region-rising : (i j : ℕ) → i < j → j < record_count s → precedes (record_at s i) (record_at s j) ≡ true
  region-rising =
      rising (λ r e. precedes r e ≡ true) (record_at s) (record_count s)
      (λ i j k l h g. precedes-trans _ _ _ (proper i l) (proper j h) (proper k g)) region.ordered

  pub region-place : (i j : ℕ) → i < record_count s → j < record_count s → record_at s i ≡ record_at s j → i ≡ j
  region-place i j l h e = by_side (side i j)
    where
      by_side : Side i j → i ≡ j
      by_side (less g) = absurd (precedes-irrefl _ (rw e at (region-rising i j g h)))
      by_side (equal g) = g
      by_side (more g) = absurd (precedes-irrefl _ (rw e at (region-rising j i g l)))

  pub region-ascending : Ascending (λ r e. precedes r e ≡ true) (records s)
  region-ascending =
      listed-ascending (λ r e. precedes r e ≡ true) (record_at s) 0 (record_count s)
      (λ i j a l h. region-rising i j l (omega arith))

  pub region-once : (r : Record) → r ∈ records s → count (is_record r) (records s) ≡ 1
  region-once =
      once (λ r e. precedes r e ≡ true) precedes-irrefl (λ e r. is_record r e) (λ e r. is_record-true r e)
      is_record-refl
      (λ r. r) (records s) region-ascending (λ r m. m)
