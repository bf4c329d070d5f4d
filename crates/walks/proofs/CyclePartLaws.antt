-- A cycle is an even chart of its own.
--     cycle-part      its records, both halves of each segment, are a part of the chart
--     cycle-level     as it is walked it departs from columns that add up to those it comes to
-- Assumes nothing.
use mathlib.Core.Path.{◌≡◌, sym, ap, ◌∙◌, subst}
use mathlib.Core.Bool.{Bool, true, false, not}
use mathlib.Core.List.{List, ◌++◌, map, map-append, map-map}
use Prim.Native.Nat.{ℕ, ◌*◌, ◌<◌, ◌≤◌}
use native.Mathlib.Omega.{arith}
use lib.IntN.{ℤ}
use Rattle.counts.specs.Count.{◌∈◌, ind, sum, count}
use Rattle.counts.proofs.SumLaws.{sum-ext, sum-zero, sum-append}
use Rattle.counts.proofs.CountLaws.{count-le}
use Rattle.counts.proofs.MapLaws.{count_map, map-mem, map-ext}
use Rattle.plane.specs.declared.Point.{Point}
use Rattle.plane.specs.Points.{same}
use Rattle.plane.proofs.PointLaws.{same_refl}
use Rattle.record.specs.declared.Record.{Record}
use Rattle.record.specs.Records.{record_at, record_count, records}
use Rattle.record.specs.Order.{other_half}
use Rattle.segment.specs.Segments.{is_record}
use Rattle.segment.proofs.SegmentLaws.{is_record-true}
use Rattle.chart.specs.Regions.{Region}
use Rattle.around.specs.Departing.{departs}
use Rattle.walks.specs.Ways.{way_back}
use Rattle.walks.specs.Walks.{from}
use Rattle.walks.specs.Cycles.{start_of, cycle_of, halves}
use Rattle.around.proofs.Parts.{Part}
use Rattle.around.proofs.PartLaws.{one_way}
use Rattle.around.proofs.StretchLaws.{loop-part}
use Rattle.walks.proofs.PlaceLaws.{ranked-region, member-at, back_is}
use Rattle.walks.proofs.StartLaws.{start-less}
use Rattle.counts.proofs.ShareLaws.{sum-map}
use Rattle.walks.proofs.ChainLaws.{Loop, chain-even}
use Rattle.walks.proofs.CutLaws.{cycle-loop}
use Rattle.walks.proofs.CycleLaws.{cycle-of, cycle-walked}

module _ {s : List ℤ} (region : Region s) (i : ℕ) (l : i < record_count s) where
  -- the records walked
  abbrev way : List Record
  way = map (record_at s) (cycle_of s i)

  loop : Loop s (cycle_of s i)
  loop = cycle-loop region (start_of s i) (start-less region i l) (cycle_of s i) (cycle-of region i l)

  -- any number of a point: as much over where they depart from as over where they come to
  balanced : (f : Point → ℕ) → sum (λ r. f r.dom) way ≡ sum (λ r. f r.other) way
  balanced f =
      omega (
        arith,
        chain-even s f loop.start loop.start (cycle_of s i) loop.round,
        sum-map (record_at s) (λ r. f r.dom) (cycle_of s i),
        sum-map (record_at s) (λ r. f r.other) (cycle_of s i),
      )

  both_halves : map (record_at s) (halves s (cycle_of s i)) ≡ way ++ map other_half way
  both_halves =
      map-append (record_at s) (cycle_of s i) (map (way_back s) (cycle_of s i))
      ∙ ap (λ rs. way ++ rs) (map-map (record_at s) (way_back s) (cycle_of s i)
      ∙ map-ext (λ j. record_at s (way_back s j)) (λ j. other_half (record_at s j)) (cycle_of s i)
      (λ j m. back_is region j (cycle-walked region i j l m).0)
      ∙ sym (map-map other_half (record_at s) (cycle_of s i)))

  way-sub : (r : Record) → r ∈ way → (r ∈ records s) × (departs r ≡ true)
  way-sub r m =
      let w = map-mem (record_at s) (cycle_of s i) r m in
      let h = cycle-walked region i w.0 l w.1 in
      (subst (λ e. e ∈ records s) (sym w.2) (member-at region w.0 h.0), ap (λ e. departs e) w.2 ∙ h.1)

  way-once : (r : Record) → count (is_record r) way ≤ 1
  way-once r =
      omega (
        arith,
        loop.simple r.dom,
        count_map (record_at s) (is_record r) (cycle_of s i),
        count-le (λ j. is_record r (record_at s j)) (from s r.dom) (cycle_of s i)
            (λ j m t. ap (λ e. same e.dom r.dom) (is_record-true r (record_at s j) t) ∙ same_refl r.dom),
      )

  pub cycle-part : Part (records s) (map (record_at s) (halves s (cycle_of s i)))
  cycle-part =
      subst (Part (records s)) (sym both_halves)
      (loop-part (ranked-region region) way (λ r m. (way-sub r m).0) (λ r m. (way-sub r m).1) way-once
      (λ p. balanced (λ q. ind (same q p))))

  -- of the two halves of a segment the one that is walked departs
  of-departing : (v : Record → ℕ)
      → sum (λ r. ind (departs r) * v r) (map (record_at s) (halves s (cycle_of s i))) ≡ sum v way
  of-departing v =
      omega (
        arith,
        ap (sum (λ r. ind (departs r) * v r)) both_halves,
        sum-append (λ r. ind (departs r) * v r) way (map other_half way),
        sum-map other_half (λ r. ind (departs r) * v r) way,
        sum-ext (λ r. ind (departs r) * v r) v way (λ r m. walked r (departs r) (way-sub r m).1),
        sum-ext (λ r. ind (departs (other_half r)) * v (other_half r)) (λ r. 0) way
            (λ r m. back r (departs (other_half r))
            (one_way (ranked-region region) r (way-sub r m).0 ∙ ap not (way-sub r m).1)),
        sum-zero way,
      )
    where
      walked : (r : Record) (b : Bool) → b ≡ true → ind b * v r ≡ v r
      walked r b e = omega (arith, ap (λ d. ind d * v r) e)

      back : (r : Record) (b : Bool) → b ≡ false → ind b * v (other_half r) ≡ 0
      back r b e = omega (arith, ap (λ d. ind d * v (other_half r)) e)

  pub cycle-level : sum (λ r. ind (departs r) * r.dom.x) (map (record_at s) (halves s (cycle_of s i)))
      ≡ sum (λ r. ind (departs r) * r.other.x) (map (record_at s) (halves s (cycle_of s i)))
  cycle-level = of-departing (λ r. r.dom.x) ∙ balanced (λ p. p.x) ∙ sym (of-departing (λ r. r.other.x))
