-- The kept segments of charts laid over each other are a chart, and the upper side of each segment over it is known.
--     kept-charted      the kept segments are a sound chart
--     kept-upper        the upper side of a segment of the charts, over the kept ones, is what f makes of its upper
--                       sides over the charts
-- f is any function that is false where all are false. Assumes nothing.
use mathlib.Core.Path.{◌≡◌, refl, ◌∙◌}
use mathlib.Core.Logic.{inl, inr}
use mathlib.Core.Bool.{Bool, true, false}
use mathlib.Core.List.{List, map}
use Prim.Native.Nat.{ℕ, ◌<◌}
use native.Mathlib.Omega.{arith}
use borrow.Author.Tests.{eqb-false}
use Rattle.counts.specs.Count.{◌∈◌}
use Rattle.counts.proofs.CountLaws.{keep-mem}
use Rattle.plane.specs.declared.Segment.{Segment}
use Rattle.plane.specs.Columns.{vertical, covers}
use Rattle.plane.proofs.Heights.{Scale}
use Rattle.plane.proofs.ColumnLaws.{covers-is}
use Rattle.plane.proofs.PointLaws.{Before, before-true}
use Rattle.record.specs.declared.Record.{Record}
use Rattle.region.proofs.Charts.{SoundChart, upper}
use Rattle.region.proofs.SlantLaws.{upper-strip}
use Rattle.combined.specs.Kept.{keeps, upper_sides}
use Rattle.combined.proofs.Overlay.{Overlay, kept_in}
use Rattle.combined.proofs.OwnLaws.{own-forward, own-small}
use Rattle.combined.proofs.OutlineLaws.{kept-up_to, kept-right, kept-left}
use Rattle.combined.proofs.EvenLaws.{kept-sound, kept-upright}

module _ {W : ℕ} (M : ℕ) (scale : Scale W M) {cs : List (List Record)} {us : List Segment} (over : Overlay W cs us)
    (f : List Bool → Bool) (none : f (map (λ c. false) cs) ≡ false) where
  pub kept-charted : SoundChart W (kept_in f cs us)
  kept-charted = kept-sound M scale over f (kept-right M scale over f none) (kept-left M scale over f none)

  pub kept-upper : (s : Segment) → s ∈ us → upper (kept_in f cs us) s ≡ f (upper_sides cs s)
  kept-upper s m = go (vertical s) refl
    where
      onward : (s.a.x ≡ s.b.x → ⊥) → Before s.a s.b → s.a.x < s.b.x
      onward differ (inl h) = omega arith
      onward differ (inr h) = absurd (differ h.0)

      first : vertical s ≡ false → covers s.a.x s ≡ true
      first e =
          let ends = before-true s.a s.b (own-forward over s m) in
          (covers-is s.a.x s).1 (omega (arith, onward (eqb-false s.a.x s.b.x e) ends))

      go : (b : Bool) → vertical s ≡ b → upper (kept_in f cs us) s ≡ f (upper_sides cs s)
      go true e = kept-upright M scale over f (kept-right M scale over f none) (kept-left M scale over f none) s m e
      go false e =
          upper-strip M scale kept-charted.chart s (own-small over s m)
          (λ t n. over.clear s m t (keep-mem (keeps f cs) us t n).0) s.a.x (first e)
          ∙ kept-up_to M scale over f none s m s.a.x (first e)
