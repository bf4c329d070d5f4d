-- Where a point lies, told by the mark of the nearest segment below it (specs/Nearests.antt), in a sound chart.
--     below-named, below-nothing    the parity of the number below, by the first record that is nearest: its mark; even
--                                   where there is none
--     by_mark-by_count              so the mark says what the count says, or Outside where there is nothing below
-- Assumes nothing.
use mathlib.Core.Path.{◌≡◌, refl, sym, ap, ◌∙◌}
use mathlib.Core.Bool.{Bool, true, false, cond}
use mathlib.Core.List.{List}
use Prim.Native.Nat.{ℕ, ◌<◌, ◌≤◌, zero-le}
use native.Mathlib.Omega.{arith}
use lib.Dec.{ltb, eqb}
use lib.IntN.{ℤ}
use borrow.Author.Tests.{ltb-true, ltb-false, le-ltb}
use Rattle.counts.specs.Count.{any, odd}
use Rattle.counts.specs.Scan.{first_from, Found}
use Rattle.counts.proofs.ListedLaws.{mem-listed}
use Rattle.counts.proofs.HighestLaws.{any_none}
use Rattle.counts.proofs.ScanLaws.{first_from-high}
use Rattle.counts.proofs.ReadLaws.{found-passes, found-any}
use Rattle.plane.specs.declared.Point.{Point}
use Rattle.record.specs.declared.Record.{Record}
use Rattle.record.specs.Records.{record_at, first_records, marked}
use Rattle.chart.specs.Regions.{Sound}
use Rattle.region.specs.Boundaries.{below, nearest}
use Rattle.region.proofs.MarkLaws.{nearest-mark, nearest-none}
use Rattle.question.specs.declared.Place.TheVariants as place
use Rattle.std.specs.Prelude.{Some, None, Ok}
use Rattle.question.specs.Places.{by_count}
use Rattle.nearest.specs.Nearests.{nearest_of, by_mark}

module _ (s : List ℤ) (n : ℕ) (p : Point) (sound : Sound (first_records s n)) where
  module _ {k : ℕ} (near : Found (nearest (first_records s n) p) (record_at s) 0 n k) where
    pub below-named : (k ≡ n → ⊥) → {r : Record} → r ≡ record_at s k
        → eqb r.mark marked ≡ odd (below (first_records s n) p)
    below-named there e =
        let l : k < n = omega (arith, near.high) in
        ap (λ r. eqb r.mark marked) e
        ∙ sym (nearest-mark sound p (record_at s k) (mem-listed (record_at s) 0 n k zero-le (omega arith))
        (found-passes (nearest (first_records s n) p) (record_at s) near l))

    pub below-nothing : k ≡ n → false ≡ odd (below (first_records s n) p)
    below-nothing e = sym (ap odd (nearest-none sound p ((any_none _ (first_records s n)).0 none)))
      where
        none : any (nearest (first_records s n) p) (first_records s n) ≡ false
        none = sym (found-any _ (record_at s) near) ∙ le-ltb k n (omega arith)

  pub by_mark-by_count : by_mark s (Ok (nearest_of s n p)) ≡ Ok (by_count (first_records s n) p)
  unfolding nearest_of
  by_mark-by_count = by_place (ltb k n) refl
    where
      k : ℕ
      k = first_from (nearest (first_records s n) p) (record_at s) 0 n

      high : k ≤ n
      high = first_from-high (nearest (first_records s n) p) (record_at s) 0 n zero-le

      found : Found (nearest (first_records s n) p) (record_at s) 0 n k
      found = record { is = refl; low = zero-le; high = high }

      by_place : (b : Bool) → ltb k n ≡ b → by_mark s (Ok (cond b (Some k) None)) ≡ Ok (by_count (first_records s n) p)
      by_place true e =
          let l : k < n = ltb-true k n e in
          ap (λ b. Ok (cond b place.Inside place.Outside)) (below-named found (omega arith) refl)
      by_place false e =
          let l : n ≤ k = ltb-false k n e in
          ap (λ b. Ok (cond b place.Inside place.Outside)) (below-nothing found (omega (arith, high)))
