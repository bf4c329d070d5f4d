-- Demand 3, second part: what comes out of a combination answers point by point as the charts do. The charts ss are any
-- number of arrays, f any function of their answers that is false where all are false.
--     result-held     a point on none of the charts' boundaries is on none of the result's
--     result-below    at every point: an odd number of the result's segments lies below it exactly if f holds of the
--                     charts' parities there
--     result-place    so at every point on none of the charts' boundaries the result says Inside exactly where f of the
--                     charts' answers holds, and else Outside
-- Assumes nothing.
use mathlib.Core.Path.{◌≡◌, refl, sym, ap, ◌∙◌}
use mathlib.Core.Bool.{Bool, true, false, cond}
use mathlib.Core.List.{List, map, map-map}
use Prim.Native.Nat.{◌≤◌}
use lib.IntN.{ℤ}
use lib.ListN.{length}
use Rattle.counts.specs.Count.{◌∈◌, odd}
use Rattle.counts.proofs.CountLaws.{keep-mem}
use Rattle.counts.proofs.HighestLaws.{any_none}
use Rattle.counts.proofs.MapLaws.{map-ext, map-mem}
use Rattle.plane.specs.declared.Point.{Point}
use Rattle.plane.specs.Columns.{holds, below_point}
use Rattle.plane.proofs.ScaleLaws.{unit, unit-scale}
use Rattle.record.specs.declared.Record.{Record}
use Rattle.record.specs.Records.{records}
use Rattle.std.specs.Prelude.{Ok}
use Rattle.chart.specs.Verdicts.{limit, answered}
use Rattle.chart.specs.Regions.{Region}
use Rattle.chart.proofs.RegionLaws.{accepted-is}
use Rattle.region.specs.Boundaries.{held, below}
use Rattle.region.proofs.ChartLaws.{segments, of_segment-any}
use Rattle.question.specs.declared.Place.TheVariants.{Inside, Outside}
use Rattle.question.specs.Places.{is_inside, place_by, place_of, placed}
use Rattle.combined.specs.Kept.{keeps, either}
use Rattle.combined.specs.Results.{result, numbers}
use Rattle.combined.specs.Together.{Together}
use Rattle.combined.proofs.OutlineLaws.{kept-below}
use Rattle.combined.proofs.OverlayLaws.{overlay}
use Rattle.combined.proofs.KeptLaws.{kept_segments, result_count, result-any}
use Rattle.combined.proofs.NumberLaws.{records-numbers}
use Rattle.combined.proofs.SoundLaws.{result-region}

-- where a point off its boundary lies to a region
off-place : (s : List ℤ) (p : Point) → Region s → held (records s) p ≡ false
    → placed s p ≡ Ok (cond (odd (below (records s) p)) Inside Outside)
unfolding placed place_of
off-place s p region off =
    ap (λ v. answered v (place_of (records s) p)) ((accepted-is s).1 region)
    ∙ ap (λ e. Ok (place_by e (odd (below (records s) p)))) off

module _ {ss : List (List ℤ)} (together : Together ss) (f : List Bool → Bool)
    (none : f (map (λ c. false) (map records ss)) ≡ false) (p : Point) where
  abbrev cs : List (List Record)
  cs = map records ss

  pub result-held : ((s : List ℤ) → s ∈ ss → held (records s) p ≡ false) → held (result f cs) p ≡ false
  result-held off =
      result-any f cs (holds p)
      ∙ (any_none (holds p) (kept_segments f cs)).1 (λ t m.
      let o = (overlay together).1.owner t (keep-mem (keeps f cs) (segments (either cs)) t m).0 in
      let s = map-mem records ss o.0 o.1 in
      (any_none (holds p) (segments o.0)).0
      (sym (of_segment-any (holds p) o.0) ∙ ap (λ c. held c p) s.2 ∙ off s.0 s.1) t o.2)

  pub result-below : odd (below (result f cs) p) ≡ f (map (λ c. odd (below c p)) cs)
  result-below =
      let over = overlay together in
      ap odd (result_count f cs (below_point p))
      ∙ kept-below (unit over.0) (unit-scale over.0) over.1 f none p

  pub result-place : ((s : List ℤ) → s ∈ ss → held (records s) p ≡ false) → length (result f cs) ≤ limit
      → placed (numbers (result f cs)) p ≡ Ok (cond (f (map (λ s. is_inside (placed s p)) ss)) Inside Outside)
  result-place off few =
      off-place (numbers (result f cs)) p (result-region together f none few)
      (ap (λ rs. held rs p) (records-numbers (result f cs)) ∙ result-held off)
      ∙ ap (λ b. Ok (cond b Inside Outside))
      (ap (λ rs. odd (below rs p)) (records-numbers (result f cs)) ∙ result-below ∙ ap f answers)
    where
      by-parity : (b : Bool) → b ≡ is_inside (Ok (cond b Inside Outside))
      by-parity true = refl
      by-parity false = refl

      answers : map (λ c. odd (below c p)) (map records ss) ≡ map (λ s. is_inside (placed s p)) ss
      answers =
          map-map (λ c. odd (below c p)) records ss
          ∙ map-ext _ _ ss (λ s m. by-parity (odd (below (records s) p))
          ∙ ap is_inside (sym (off-place s p (together.regions s m) (off s m))))
