-- What lies across a height at a column: a vertical segment, and over a sound chart at most one.
--     across-is        the test, both ways
--     across-one       what lies across η where s does, with s clear of it, is s
--     across-most      so over a sound chart that has each of its segments once, at most one does
-- Assumes nothing.
use mathlib.Core.Path.{◌≡◌, refl, sym, ◌∙◌}
use mathlib.Core.Logic.{◌⊎◌, inl, inr, ◌↔◌}
use mathlib.Core.Bool.{true}
use mathlib.Core.List.{List}
use Prim.Native.Nat.{ℕ, ◌*◌, ◌<◌, ◌≤◌}
use native.Mathlib.Nat.{lt_of_mul-lt-mul_left}
use native.Mathlib.Omega.{arith}
use Rattle.counts.specs.Count.{◌∈◌, count}
use Rattle.counts.proofs.TestLaws.{and_is, ltb-is, leb-is, eqb_is, Side, less, equal, more, side}
use Rattle.counts.proofs.HighestLaws.{at_most_one}
use Rattle.plane.specs.declared.Segment.{Segment}
use Rattle.plane.specs.Points.{is_segment}
use Rattle.plane.specs.Touching.{Touch}
use Rattle.plane.proofs.PointLaws.{is_segment-refl}
use Rattle.plane.proofs.ContactLaws.{touch-sym}
use Rattle.plane.proofs.CrossLaws.{between-touch}
use Rattle.plane.proofs.VerticalLaws.{upright-between}
use Rattle.region.proofs.Charts.{Clear, SoundChart, across}

-- two vertical segments on one column that share more than an end: an end of one lies between the ends of the other,
-- or both ends are common
overlap : (s t : Segment) (c : ℕ) → (s.a.x ≡ c) × (s.b.x ≡ c) → (t.a.x ≡ c) × (t.b.x ≡ c)
    → s.a.y < t.b.y → t.a.y < s.b.y → (t ≡ s) ⊎ Touch s t
overlap s t c (sa, sb) (ta, tb) lo hi = go (side s.a.y t.a.y) (side s.b.y t.b.y)
  where
    go : Side s.a.y t.a.y → Side s.b.y t.b.y → (t ≡ s) ⊎ Touch s t
    go (less l) r =
        let inner = upright-between s t.a (sa ∙ sym ta) (sb ∙ sym ta) l hi in
        inr (between-touch s t t.a inner (inl refl))
    go (more l) r =
        let inner = upright-between t s.a (ta ∙ sym sa) (tb ∙ sym sa) l lo in
        inr (touch-sym (between-touch t s s.a inner (inl refl)))
    go (equal l) (less r) =
        let inner = upright-between t s.b (ta ∙ sym sb) (tb ∙ sym sb) hi r in
        inr (touch-sym (between-touch t s s.b inner (inr refl)))
    go (equal l) (more r) =
        let inner = upright-between s t.b (sa ∙ sym tb) (sb ∙ sym tb) lo r in
        inr (between-touch s t t.b inner (inr refl))
    go (equal l) (equal r) =
        let xa = ta ∙ sym sa in
        let xb = tb ∙ sym sb in
        inl (λ i. record { a = record { x = xa i; y = sym l i }; b = record { x = xb i; y = sym r i } })

module _ (M c η : ℕ) where
  pub across-is : (t : Segment) → (across M c η t ≡ true)
      ↔ ((t.a.x ≡ c) × (t.b.x ≡ c) × (2 * M * t.a.y < η) × (η ≤ 2 * M * t.b.y))
  across-is t =
      let is = and_is _ _ (and_is _ _ (and_is _ _ (eqb_is refl) (λ _. eqb_is refl)) (λ _. ltb-is refl))
      (λ _. leb-is refl) in
      ((λ e. let h = is.0 e in (h.0.0.0, h.0.0.1, h.0.1, h.1)), (λ h. is.1 (((h.0, h.1), h.2), h.3)))

  pub across-one : {ss : List Segment} (s t : Segment) → Clear ss s → t ∈ ss
      → across M c η s ≡ true → across M c η t ≡ true → t ≡ s
  across-one s t clear m e g =
      let h = (across-is s).0 e in
      let k = (across-is t).0 g in
      go (clear t m)
      (overlap s t c (h.0, h.1) (k.0, k.1) (lt_of_mul-lt-mul_left (2 * M) (omega arith))
      (lt_of_mul-lt-mul_left (2 * M) (omega arith)))
    where
      go : (t ≡ s) ⊎ (¬ (Touch s t)) → (t ≡ s) ⊎ Touch s t → t ≡ s
      go (inl same) r = same
      go (inr free) (inl same) = same
      go (inr free) (inr touch) = absurd (free touch)

  pub across-most : {W : ℕ} {ss : List Segment} → SoundChart W ss
      → ((t : Segment) → t ∈ ss → count (is_segment t) ss ≤ 1) → count (across M c η) ss ≤ 1
  across-most {W} {ss} sound single =
      at_most_one (across M c η) (λ t s. is_segment s t) is_segment-refl ss single
      (λ t s m k e g. across-one s t (sound.clear s k) m g e)
