-- The highest below a point, in one pass (specs/Passes.antt).
--     Climbing s p b i             what its loop holds: the highest of the first i records stands at b
--     climb_first                  it holds where the first that is counted below stands, or past the end
--     climb-start, -take, -keep, -end    from step to step, as the program finds record i higher or not
--     highest-nearest              in a sound chart it comes to the first that is nearest
--     highest-found                so what the program finds is that
-- Assumes nothing.
use mathlib.Core.Path.{◌≡◌, refl, sym, ap, ap₂, ◌∙◌}
use mathlib.Core.Bool.{Bool, true, false, cond}
use mathlib.Core.List.{List}
use Prim.Native.Nat.{ℕ, zero, suc, ◌+◌, ◌-◌, ◌<◌, ◌≤◌, zero-le}
use native.Mathlib.Numerals.{add-one}
use native.Mathlib.Omega.{arith}
use lib.IntN.{ℤ}
use Rattle.std.specs.Prelude.{Option}
use Rattle.std.specs.Option.{unwrap_or}
use Rattle.counts.specs.Scan.{first_from, Found, first_place}
use Rattle.counts.proofs.PlaceLaws.{first_place_found}
use Rattle.counts.proofs.ScanLaws.{first_from-high}
use Rattle.counts.proofs.TopmostLaws.{topmost-start}
use Rattle.plane.specs.declared.Point.{Point}
use Rattle.plane.specs.declared.Segment.{Segment}
use Rattle.record.specs.declared.Record.{Record}
use Rattle.record.specs.Records.{record_at, record_count, records}
use Rattle.segment.specs.Segments.{segment}
use Rattle.chart.specs.Regions.{Sound}
use Rattle.region.specs.Boundaries.{counted, higher_below, nearest}
use Rattle.nearest.specs.Passes.{climb, highest_below, Highest}
use Rattle.nearest.proofs.TopsLaws.{Tops, tops-take, tops-keep, tops-nearest}

pub record Climbing (s : List ℤ) (p : Point) (b i : ℕ) : Type 0 where
  pub reached : b ≤ i
  pub within : i ≤ record_count s
  pub rest : climb s p b i (record_count s - i) ≡ highest_below s p

module _ (s : List ℤ) (p : Point) where
  abbrev is_higher : ℕ → ℕ → Bool
  is_higher b i = higher_below p (segment (record_at s b)) (record_at s i)

  -- ---- the loop

  pub climb-start : {b : ℕ} → Found (counted p) (record_at s) 0 (record_count s) b → Climbing s p b b
  unfolding highest_below
  climb-start h = record {
    reached = omega arith;
    within = h.high;
    rest = ap (λ f. climb s p f f (record_count s - f)) h.is;
  }

  pub climb_first : {o : Option ℕ} {n b : ℕ} → n ≡ record_count s
      → o ≡ first_place (counted p) (record_at s) (record_count s) → b ≡ unwrap_or o n → Climbing s p b b
  climb_first h e g =
      climb-start (rw (g, e, h) (first_place_found (counted p) (record_at s) (record_count s)))

  module _ {b i : ℕ} (so_far : Climbing s p b i) where
    climb-next : i < record_count s
        → climb s p (cond (is_higher b i) i b) (i + 1) (record_count s - (i + 1)) ≡ highest_below s p
    unfolding climb
    climb-next l = go (record_count s - i) (record_count s - (i + 1)) (omega arith) so_far.rest
      where
        go : (k j : ℕ) → k ≡ suc j → climb s p b i k ≡ highest_below s p
            → climb s p (cond (is_higher b i) i b) (i + 1) j ≡ highest_below s p
        go k j e h = rw add-one (rw e at h)

    module _ {u e : Record} {t : Segment} {c : Bool} (l : i < record_count s)
        (hu : u ≡ record_at s b) (ht : t ≡ segment u) (he : e ≡ record_at s i) (hc : c ≡ higher_below p t e) where
      found : c ≡ is_higher b i
      found = hc ∙ ap₂ (higher_below p) (ht ∙ ap segment hu) he

      pub climb-take : {k : ℕ} → c ≡ true → k ≡ i → Climbing s p k (i + 1)
      climb-take y d = rw d (record {
        reached = omega arith;
        within = omega arith;
        rest = ap (λ c. climb s p (cond c i b) (i + 1) (record_count s - (i + 1))) (sym y ∙ found) ∙ climb-next l;
      })

      pub climb-keep : {k : ℕ} → c ≡ false → k ≡ b → Climbing s p k (i + 1)
      climb-keep y d = rw d (record {
        reached = omega (arith, so_far.reached);
        within = omega arith;
        rest = ap (λ c. climb s p (cond c i b) (i + 1) (record_count s - (i + 1))) (sym y ∙ found) ∙ climb-next l;
      })

    pub climb-end : record_count s ≤ i → Highest s p b
    unfolding climb
    climb-end l = record {
      is = go (record_count s - i) (omega arith) so_far.rest;
      most = omega (arith, so_far.reached, so_far.within);
    }
      where
        go : (k : ℕ) → k ≡ 0 → climb s p b i k ≡ highest_below s p → b ≡ highest_below s p
        go k e h = rw e at h

  -- ---- what it comes to

  module _ (sound : Sound (records s)) where
    climbs : (k b i : ℕ) → i + k ≡ record_count s → Tops s (record_count s) p i b
        → Tops s (record_count s) p (record_count s) (climb s p b i k)
    unfolding climb
    climbs zero b i e top = let same : i ≡ record_count s = omega arith in rw same at top
    climbs (suc k) b i e top = climbs k (cond (is_higher b i) i b) (suc i) (omega arith) (go (is_higher b i) refl)
      where
        go : (c : Bool) → is_higher b i ≡ c → Tops s (record_count s) p (suc i) (cond c i b)
        go true h =
            rw add-one at (tops-take s (record_count s) p sound top (omega arith) refl refl refl refl h refl)
        go false h =
            rw add-one at (tops-keep s (record_count s) p sound top (omega arith) refl refl refl refl h refl)

    pub highest-nearest : highest_below s p ≡ first_from (nearest (records s) p) (record_at s) 0 (record_count s)
    unfolding highest_below
    highest-nearest =
        let n = record_count s in
        let f = first_from (counted p) (record_at s) 0 n in
        let high = first_from-high (counted p) (record_at s) 0 n zero-le in
        let first : Found (counted p) (record_at s) 0 n f = record { is = refl; low = zero-le; high = high } in
        (tops-nearest s n p sound (climbs (n - f) f f (omega arith) (topmost-start first)) (omega arith)).is

    pub highest-found : {b : ℕ} → Highest s p b → Found (nearest (records s) p) (record_at s) 0 (record_count s) b
    highest-found h = record { is = h.is ∙ highest-nearest; low = zero-le; high = h.most }
