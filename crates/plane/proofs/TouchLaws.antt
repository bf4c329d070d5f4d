-- The test for touching decides what touching means, both ways.
--     touches-is    of segments with the smaller end first: `touches` passes exactly if they are distinct and touch
-- Assumes nothing.
use mathlib.Core.Path.{◌≡◌, sym, ◌∙◌}
use mathlib.Core.Logic.{◌↔◌, ◌⊎◌, inl, inr}
use mathlib.Core.Bool.{true}
use Prim.Native.Nat.{◌<◌}
use Rattle.plane.specs.declared.Segment.{Segment}
use Rattle.plane.specs.Points.{Forward}
use Rattle.plane.specs.Touching.{Touch, touches}
use Rattle.plane.proofs.ContactLaws.{touch-sym, touches-sym, touches-true, touches-intro}
use Rattle.plane.proofs.CrossLaws.{contact-touch, contact-distinct}
use Rattle.plane.proofs.SharedLaws.{touch-contact}

pub touches-is : (s t : Segment) → Forward s → Forward t → (touches s t ≡ true) ↔ ((s ≡ t → ⊥) × Touch s t)
unfolding touch-sym
touches-is s t f g = (there, λ h. back h.0 h.1 h.1.inner)
  where
    there : touches s t ≡ true → (s ≡ t → ⊥) × Touch s t
    there e = let w = touches-true s t e in (contact-distinct s t w, contact-touch s t w)

    back : (s ≡ t → ⊥) → (T : Touch s t) → ((0 < T.α) × (0 < T.β)) ⊎ ((0 < T.γ) × (0 < T.δ)) → touches s t ≡ true
    back differ T (inl h) = touches-intro s t (touch-contact s t T f g h.0 h.1 differ)
    back differ T (inr h) =
        touches-sym s t
        ∙ touches-intro t s (touch-contact t s (touch-sym T) g f h.0 h.1 (λ e. differ (sym e)))
