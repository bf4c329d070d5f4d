-- Records of a sound chart at one corner.
--     aligned-one     two of one half and in line are one record: else one would end within the other
-- Assumes nothing.
use mathlib.Core.Path.{◌≡◌, refl, sym, ap, ◌∙◌, subst}
use mathlib.Core.Logic.{◌⊎◌, inl, inr}
use mathlib.Core.Bool.{Bool, true, false}
use mathlib.Core.List.{List}
use native.Mathlib.Omega.{arith}
use Rattle.counts.specs.Count.{◌∈◌}
use Rattle.plane.specs.declared.Point.{Point}
use Rattle.plane.specs.Points.{before}
use Rattle.plane.proofs.PointLaws.{trichotomy}
use Rattle.plane.proofs.SideLaws.{Level, within-intro}
use Rattle.plane.proofs.ContactLaws.{Contact, a-within-s, b-within-t}
use Rattle.plane.proofs.CrossLaws.{contact-touch, contact-distinct}
use Rattle.record.specs.declared.Record.{Record}
use Rattle.record.specs.Order.{left, Proper}
use Rattle.record.proofs.HalfLaws.{backward}
use Rattle.segment.specs.Segments.{segment}
use Rattle.segment.proofs.SegmentLaws.{segment-left, segment-right}
use Rattle.chart.specs.Regions.{Sound}
use Rattle.chart.proofs.OnceLaws.{sound-proper, sound-half}

level-swap : (p o q t : Point) → p ≡ o → Level p q t → Level o t q
level-swap p o q t d l = subst (λ o. Level o t q) d (omega arith)

-- the end of r that comes first lies within e, of right halves the end of e that comes later within r
overlap : (r e : Record) → Proper r → Proper e → (h : Bool) → left r ≡ h → left e ≡ h → r.dom ≡ e.dom
    → Level r.dom r.other e.other → before r.other e.other ≡ true → Contact (segment r) (segment e)
overlap r e pr pe true x y d l b =
    rw (segment-left r x, segment-left e y)
    (b-within-t
    (within-intro _ _ (ap (λ p. before p r.other) (sym d) ∙ x) b (level-swap _ _ r.other e.other d l)))
overlap r e pr pe false x y d l b =
    rw (segment-right r x, segment-right e y)
    (a-within-s (within-intro _ _ b (ap (before e.other) d ∙ backward e pe y) (omega arith)))

module _ {rs : List Record} (sound : Sound rs) (r e : Record) (m : r ∈ rs) (n : e ∈ rs) where
  pub aligned-one : r.dom ≡ e.dom → left r ≡ left e → Level r.dom r.other e.other → r ≡ e
  aligned-one d h l = by_order (trichotomy r.other e.other)
    where
      pr : Proper r
      pr = sound-proper sound r m

      pe : Proper e
      pe = sound-proper sound e n

      one-segment : (b : Bool) → left r ≡ b → left e ≡ b → r.other ≡ e.other → segment r ≡ segment e
      one-segment true x y o = segment-left r x ∙ (λ i. record { a = d i; b = o i }) ∙ sym (segment-left e y)
      one-segment false x y o = segment-right r x ∙ (λ i. record { a = o i; b = d i }) ∙ sym (segment-right e y)

      clash : (r e : Record) → r ∈ rs → e ∈ rs → Contact (segment r) (segment e) → ⊥
      clash r e m n c = sound.apart r e m n (contact-distinct _ _ c) (contact-touch _ _ c)

      by_order : (before r.other e.other ≡ true) ⊎ ((r.other ≡ e.other) ⊎ (before e.other r.other ≡ true))
          → r ≡ e
      by_order (inl b) = absurd (clash r e m n (overlap r e pr pe (left e) h refl d l b))
      by_order (inr (inl o)) = sound-half sound r e m n h (one-segment (left e) h refl o)
      by_order (inr (inr b)) =
          absurd (clash e r n m (overlap e r pe pr (left e) refl h (sym d) (level-swap _ _ _ _ d l) b))
