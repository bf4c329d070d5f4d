-- The records of a walk of a region, taken from its start.
--     of_walk s w       the records of the walk that starts with record w
--     start-self        the start is walked itself
--     walk-place        each stands at a place in the walk
--     walk-known, walk-leaves     they are records of the chart, walked from their dominating ends
--     walk-onward       with a record, what comes next is one of them
--     walk_start        the walk of each has that start
--     walk-either       a record whose walk has that start is one of them, or its other half is
-- Assumes nothing.
use mathlib.Core.Path.{◌≡◌, sym, ap, ◌∙◌}
use mathlib.Core.Logic.{◌⊎◌, inl, inr}
use mathlib.Core.Bool.{true}
use mathlib.Core.List.{List, map}
use Prim.Native.Nat.{ℕ, ◌<◌, ◌≤◌}
use native.Mathlib.Omega.{arith}
use lib.IntN.{ℤ}
use Rattle.counts.specs.Count.{◌∈◌}
use Rattle.counts.proofs.MapLaws.{map-mem, mem-map}
use Rattle.record.specs.declared.Record.{Record}
use Rattle.record.specs.Records.{record_at, record_count, records}
use Rattle.record.specs.Order.{other_half}
use Rattle.chart.specs.Regions.{Region}
use Rattle.around.specs.Departing.{departs}
use Rattle.walks.specs.Ways.{way_back, next, walked}
use Rattle.walks.specs.Walks.{walk}
use Rattle.walks.specs.Cycles.{start_of}
use Rattle.around.proofs.Parts.{Before, Next}
use Rattle.around.proofs.PartLaws.{rank-one}
use Rattle.walks.proofs.PlaceLaws.{rank_in, member-at, ranked-region, back_is}
use Rattle.walks.proofs.NextLaws.{next-less, next-is, walked-self, walked-half}
use Rattle.walks.proofs.RoundLaws.{walk-less, walk-next, walk-departs}
use Rattle.walks.proofs.StartLaws.{start-less, start-departs, start-start, start-same, same_start}

abbrev pub of_walk : List ℤ → ℕ → List Record
of_walk s w = map (record_at s) (walk s w)

-- one record only is just before another around their corner
before-one : {rs : List Record} {rank : Record → ℕ} (e f j : Record) → e ∈ rs → f ∈ rs → Before rs rank e j
    → Before rs rank f j → rank e ≡ rank f
before-one {rs} {rank} e f j m n a b = go a.none b.none
  where
    both : rank e < rank j → rank f < rank j → (rank f ≤ rank e) ⊎ (rank j ≤ rank f)
        → (rank e ≤ rank f) ⊎ (rank j ≤ rank e) → rank e ≡ rank f
    both l h (inl x) (inl y) = omega arith
    both l h (inl x) (inr y) = absurd (omega arith)
    both l h (inr x) y = absurd (omega arith)

    go : ((rank e < rank j) × ((r : Record) → r ∈ rs → r.dom ≡ j.dom → (rank r ≤ rank e) ⊎ (rank j ≤ rank r)))
        ⊎ ((r : Record) → r ∈ rs → r.dom ≡ j.dom → (rank j ≤ rank r) × (rank r ≤ rank e))
        → ((rank f < rank j) × ((r : Record) → r ∈ rs → r.dom ≡ j.dom → (rank r ≤ rank f) ⊎ (rank j ≤ rank r)))
        ⊎ ((r : Record) → r ∈ rs → r.dom ≡ j.dom → (rank j ≤ rank r) × (rank r ≤ rank f))
        → rank e ≡ rank f
    go (inl x) (inl y) = both x.0 y.0 (x.1 f n b.at) (y.1 e m a.at)
    go (inl x) (inr y) = absurd (omega (arith, x.0, y e m a.at))
    go (inr x) (inl y) = absurd (omega (arith, y.0, x f n b.at))
    go (inr x) (inr y) = omega (arith, x f n b.at, y e m a.at)

module _ {s : List ℤ} (region : Region s) (i : ℕ) (l : i < record_count s) where
  abbrev start : ℕ
  start = start_of s i

  short : start < record_count s
  short = start-less region i l

  pub start-self : walked s start ≡ start
  start-self = walked-self region start (start-departs region i l)

  pub walk-place : (r : Record) → r ∈ of_walk s start
      → (j : ℕ) × (j ∈ walk s start) × (j < record_count s) × (r ≡ record_at s j)
  walk-place r m =
      let w = map-mem (record_at s) (walk s start) r m in
      (w.0, w.1, walk-less region start short w.0 w.1, w.2)

  leaves : (j : ℕ) → j ∈ walk s start → departs (record_at s j) ≡ true
  leaves = walk-departs region start short (start-departs region i l)

  pub walk-known : (r : Record) → r ∈ of_walk s start → r ∈ records s
  walk-known r m = let w = walk-place r m in rw w.3 (member-at region w.0 w.2)

  pub walk-leaves : (r : Record) → r ∈ of_walk s start → departs r ≡ true
  walk-leaves r m = let w = walk-place r m in ap (λ q. departs q) w.3 ∙ leaves w.0 w.1

  pub walk-onward : (r e : Record) → r ∈ of_walk s start → e ∈ records s → Next (records s) (rank_in s) r e
      → e ∈ of_walk s start
  walk-onward r e m k h =
      let w = walk-place r m in
      let j : ℕ = w.0 in
      let there = member-at region (next s j) (next-less region j w.2) in
      let one = before-one e (record_at s (next s j)) (other_half (record_at s j)) k there (rw w.3 at h)
      (next-is region j w.2) in
      rw (rank-one (ranked-region region) e (record_at s (next s j)) k there one)
      (mem-map (record_at s) (walk s start) (next s j) (walk-next region start short j w.1))

  pub walk_start : (j : ℕ) → j ∈ walk s start → start_of s j ≡ start
  walk_start j m =
      start-same region start j short (walk-less region start short j m)
      (rw (start-self, walked-self region j (leaves j m)) m)
      ∙ start-start region i l

  pub walk-either : (k : ℕ) → k < record_count s → start_of s k ≡ start
      → (record_at s k ∈ of_walk s start) ⊎ (other_half (record_at s k) ∈ of_walk s start)
  walk-either k h e = go (walked-half region k h)
    where
      there : record_at s (walked s k) ∈ of_walk s start
      there =
          mem-map (record_at s) (walk s start) (walked s k)
          (rw start-self at (same_start region start k short h (e ∙ sym (start-start region i l))))

      go : (walked s k ≡ k) ⊎ (walked s k ≡ way_back s k)
          → (record_at s k ∈ of_walk s start) ⊎ (other_half (record_at s k) ∈ of_walk s start)
      go (inl f) = inl (rw (ap (record_at s) f) at there)
      go (inr f) = inr (rw (ap (record_at s) f ∙ back_is region k h) at there)
