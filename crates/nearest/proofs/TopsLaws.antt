-- The search for the nearest below in one pass: the highest so far, kept from record to record. In a sound chart which
-- of two segments is higher is an order, by their peaks (region's MarkLaws.antt), so one comparison a record is enough.
--     Tops s n p i b           what it holds on its way: of the first i records that are counted below p, the first of
--                              the highest stands at b
--     tops-take, tops-keep     from step to step, as the program finds record i higher or not (at its first step:
--                              `topmost-start` of counts' TopmostLaws.antt)
--     tops-nearest             at its end: the first that is nearest
-- Assumes nothing.
use mathlib.Core.Path.{◌≡◌, sym, ap, ap₂, ◌∙◌}
use mathlib.Core.Bool.{Bool, true, false, not, ◌&&◌, true≢false}
use mathlib.Core.List.{List}
use Prim.Native.Nat.{ℕ, ◌+◌, ◌<◌, ◌≤◌, zero-le}
use native.Mathlib.Omega.{arith}
use lib.Dec.{ltb}
use lib.IntN.{ℤ}
use borrow.Author.Tests.{ltb-true, ltb-false, lt-ltb, le-ltb}
use Rattle.counts.specs.Count.{◌∈◌}
use Rattle.counts.specs.Scan.{Found}
use Rattle.counts.proofs.TestLaws.{and-true, and_intro, is_false, not-true}
use Rattle.counts.proofs.ListedLaws.{listed-mem, mem-listed}
use Rattle.counts.proofs.HighestLaws.{any_none}
use Rattle.counts.proofs.ScanLaws.{first_from-unique}
use Rattle.counts.proofs.TopmostLaws.{Topmost, topmost-keep, topmost-take}
use Rattle.plane.specs.declared.Point.{Point}
use Rattle.plane.specs.declared.Segment.{Segment}
use Rattle.record.specs.declared.Record.{Record}
use Rattle.record.specs.Records.{record_at, first_records}
use Rattle.segment.specs.Segments.{segment}
use Rattle.chart.specs.Regions.{Sound}
use Rattle.region.specs.Boundaries.{counted, higher_below, nearest}
use Rattle.region.proofs.MarkLaws.{peak, higher_below-peak}

module _ (s : List ℤ) (n : ℕ) (p : Point) where
  abbrev counted_at : ℕ → Bool
  counted_at i = counted p (record_at s i)

  abbrev peak_at : ℕ → ℕ
  peak_at i = peak (first_records s n) p (record_at s i)

  abbrev is_higher : ℕ → ℕ → Bool
  is_higher b i = higher_below p (segment (record_at s b)) (record_at s i)

  abbrev pub Tops : ℕ → ℕ → Type 0
  Tops i b = Topmost (counted p) (peak (first_records s n) p) (record_at s) n i b

  module _ (sound : Sound (first_records s n)) where
    member : (i : ℕ) → i < n → record_at s i ∈ first_records s n
    member i l = mem-listed (record_at s) 0 n i zero-le (omega arith)

    by-peak : (b i : ℕ) → b < n → i < n → counted_at b ≡ true
        → is_higher b i ≡ counted_at i && ltb (peak_at b) (peak_at i)
    by-peak b i k l = higher_below-peak sound p (record_at s b) (record_at s i) (member b k) (member i l)

    -- ---- one record more

    module _ {i b : ℕ} {u e : Record} {t : Segment} {c : Bool} (top : Tops i b) (l : i < n)
        (hu : u ≡ record_at s b) (ht : t ≡ segment u) (he : e ≡ record_at s i) (hc : c ≡ higher_below p t e) where
      test : c ≡ counted_at i && ltb (peak_at b) (peak_at i)
      test =
          let k : b < n = omega (arith, top.reached) in
          hc ∙ ap₂ (higher_below p) (ht ∙ ap segment hu) he ∙ by-peak b i k l (top.passes k)

      pub tops-take : {k : ℕ} → c ≡ true → k ≡ i → Tops (i + 1) k
      tops-take y d = let h = and-true _ _ (sym test ∙ y) in rw d (topmost-take top l h.0 (ltb-true _ _ h.1))

      pub tops-keep : {k : ℕ} → c ≡ false → k ≡ b → Tops (i + 1) k
      tops-keep y d = rw d (topmost-keep top l low)
        where
          low : counted_at i ≡ true → peak_at i ≤ peak_at b
          low h = ltb-false _ _ (sym (ap (λ a. a && ltb (peak_at b) (peak_at i)) h) ∙ sym test ∙ y)

    -- ---- all of them

    module _ {i b : ℕ} (top : Tops i b) (l : n ≤ i) where
      -- none is higher than the one at b,
      here : b < n → nearest (first_records s n) p (record_at s b) ≡ true
      here k =
          and_intro (top.passes k)
          (ap not ((any_none (higher_below p (segment (record_at s b))) (first_records s n)).1 none))
        where
          lower : (j : ℕ) → j < n → counted_at j ≡ true → ltb (peak_at b) (peak_at j) ≡ false
          lower j g h = le-ltb _ _ (top.greatest j (omega arith) h)

          none : (e : Record) → e ∈ first_records s n → higher_below p (segment (record_at s b)) e ≡ false
          none e m =
              let at = listed-mem (record_at s) 0 n e m in
              let g : at.0 < n = omega (arith, at.2) in
              rw at.3 (by-peak b at.0 k g (top.passes k) ∙ is_false _ (λ t.
              let h = and-true _ _ t in true≢false (sym h.1 ∙ lower at.0 g h.0)))

      -- and it is higher than any before it
      earlier : (j : ℕ) → j < b → nearest (first_records s n) p (record_at s j) ≡ false
      earlier j k = is_false _ (λ t.
          let h = and-true (counted_at j) _ t in
          let less = top.first j k h.0 in
          let higher = by-peak j b (omega arith) less.0 h.0 in
          let none = (any_none (higher_below p (segment (record_at s j))) (first_records s n)).0 (not-true _ h.1) in
          true≢false (sym (higher ∙ and_intro (top.passes less.0) (lt-ltb _ _ less.1))
          ∙ none (record_at s b) (member b less.0)))

      pub tops-nearest : Found (nearest (first_records s n) p) (record_at s) 0 n b
      tops-nearest =
          let high : b ≤ n = omega (arith, top.reached, top.within) in
          record {
            is = first_from-unique (nearest (first_records s n) p) (record_at s) 0 n zero-le b zero-le high here
                (λ j a h. earlier j h);
            low = zero-le;
            high = high;
          }
