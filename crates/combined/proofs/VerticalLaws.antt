-- The vertical segments of charts laid over each other, beside what comes to their column and goes on from it.
--     upright-upper     the left sides of a vertical segment, one for each chart, are the charts' parities left of its
--                       column, below any height of it above its lower end
--     upright-lower     its right sides are the parities right of the column
--     across-kept       at a column and a height, one kept segment lies across exactly if f of the parities left of the
--                       column and f of those right of it differ
-- Assumes nothing.
use mathlib.Core.Path.{◌≡◌, sym, ap, ap₂, ◌∙◌}
use mathlib.Core.Logic.{◌⊎◌, inl, inr}
use mathlib.Core.Bool.{Bool, true, false, ◌&&◌}
use mathlib.Core.List.{List}
use Prim.Native.Nat.{ℕ, ◌*◌, ◌<◌, ◌≤◌}
use native.Mathlib.Omega.{arith}
use Rattle.counts.specs.Count.{◌∈◌, count, any, odd, ◌⊕◌}
use Rattle.counts.proofs.TestLaws.{and-true, and_intro, same_test, xor_self}
use Rattle.counts.proofs.CountLaws.{count-off, count-le, count-keep, any-keep, keep-mem}
use Rattle.counts.proofs.ParityLaws.{odd-same, odd-any}
use Rattle.counts.proofs.HighestLaws.{Top, highest, any-member, at_most_one}
use Rattle.counts.proofs.MapLaws.{map-ext}
use Rattle.plane.specs.declared.Segment.{Segment}
use Rattle.plane.specs.Points.{is_segment}
use Rattle.plane.proofs.Heights.{Scale}
use Rattle.plane.proofs.PointLaws.{is_segment-refl}
use Rattle.record.specs.declared.Record.{Record}
use Rattle.region.proofs.Charts.{from_left, to_right, across}
use Rattle.region.proofs.ChartLaws.{segments, upper_side-is, lower_side-is}
use Rattle.region.proofs.ColumnLemma.{column}
use Rattle.region.proofs.AcrossLaws.{across-is, across-one}
use Rattle.region.proofs.UprightLaws.{upper-left, lower-right}
use Rattle.combined.specs.Kept.{upper_sides, lower_sides, keeps}
use Rattle.combined.proofs.Overlay.{Overlay, odd_in, kept_in}
use Rattle.combined.proofs.OwnLaws.{clear_of}

module _ {W : ℕ} (M : ℕ) (scale : Scale W M) {cs : List (List Record)} {us : List Segment}
    (over : Overlay W cs us) where
  -- ---- the sides of one

  module _ (s : Segment) (m : s ∈ us) (upright : s.a.x ≡ s.b.x) (η : ℕ) (lo : 2 * M * s.a.y < η)
      (hi : η ≤ 2 * M * s.b.y) where
    pub upright-upper : upper_sides cs s ≡ odd_in (from_left M s.a.x η) cs
    upright-upper =
        map-ext _ _ cs (λ c k. upper_side-is c s
        ∙ upper-left M scale (over.sound c k).chart s upright (clear_of over s m c k) η lo hi)

    pub upright-lower : lower_sides cs s ≡ odd_in (to_right M s.a.x η) cs
    upright-lower =
        map-ext _ _ cs (λ c k. lower_side-is c s
        ∙ lower-right M scale (over.sound c k).chart s upright (clear_of over s m c k) η lo hi (over.single c k s))

  -- ---- those that are kept

  module _ (f : List Bool → Bool) (x η : ℕ) where
    across-once : count (across M x η) (kept_in f cs us) ≤ 1
    across-once =
        omega (
          arith,
          count-keep (keeps f cs) (across M x η) us,
          count-le (λ t. keeps f cs t && across M x η t) (across M x η) us (λ t m e. (and-true (keeps f cs t) _ e).1),
          at_most_one (across M x η) (λ t s. is_segment s t) is_segment-refl us (λ t m. over.once t)
              (λ t s m k e g. across-one M x η s t (over.clear s k) m g e),
        )

    -- where s lies across, nothing else does
    across-keeps : (s : Segment) → s ∈ us → across M x η s ≡ true → any (across M x η) (kept_in f cs us) ≡ keeps f cs s
    across-keeps s m e = any-keep (keeps f cs) (across M x η) us ∙ same_test _ _ to from
      where
        to : any (λ t. keeps f cs t && across M x η t) us ≡ true → keeps f cs s ≡ true
        to h =
            let w = (any-member (λ t. keeps f cs t && across M x η t) us).0 h in
            let k = and-true (keeps f cs w.0) (across M x η w.0) w.2 in
            ap (keeps f cs) (sym (across-one M x η s w.0 (over.clear s m) w.1 e k.1)) ∙ k.0

        from : keeps f cs s ≡ true → any (λ t. keeps f cs t && across M x η t) us ≡ true
        from h = (any-member (λ t. keeps f cs t && across M x η t) us).1 (s, m, and_intro h e)

    -- where nothing lies across, a chart has one parity left and right of the column
    same_beside : ((t : Segment) → t ∈ us → across M x η t ≡ false) → (c : List Record) → c ∈ cs
        → odd (count (from_left M x η) (segments c)) ≡ odd (count (to_right M x η) (segments c))
    same_beside none c k =
        odd-same (count (from_left M x η) (segments c)) (count (to_right M x η) (segments c)) (omega (
          arith,
          column M scale (over.sound c k).chart x η,
          count-off (across M x η) (segments c) (λ t m. none t (over.all c k t m)),
        ))

    pub across-kept : odd (count (across M x η) (kept_in f cs us))
        ≡ f (odd_in (from_left M x η) cs) ⊕ f (odd_in (to_right M x η) cs)
    across-kept = go (highest (across M x η) (λ t. 0) us)
      where
        go : ((t : Segment) → t ∈ us → across M x η t ≡ false) ⊎ Top (across M x η) (λ t. 0) us
            → odd (count (across M x η) (kept_in f cs us))
            ≡ f (odd_in (from_left M x η) cs) ⊕ f (odd_in (to_right M x η) cs)
        go (inl none) =
            ap odd (count-off (across M x η) (kept_in f cs us) (λ t m. none t (keep-mem (keeps f cs) us t m).0))
            ∙ sym (xor_self (f (odd_in (from_left M x η) cs)) (f (odd_in (to_right M x η) cs))
            (ap f (map-ext _ _ cs (same_beside none))))
        go (inr top) =
            let s = top.it in
            let m = top.member in
            let h = (across-is M x η s).0 top.passes in
            let upright : s.a.x ≡ s.b.x = h.0 ∙ sym h.1 in
            odd-any (across M x η) (kept_in f cs us) across-once
            ∙ across-keeps s m top.passes
            ∙ ap₂ (λ l r. f l ⊕ f r)
            (upright-upper s m upright η h.2 h.3 ∙ ap (λ z. odd_in (from_left M z η) cs) h.0)
            (upright-lower s m upright η h.2 h.3 ∙ ap (λ z. odd_in (to_right M z η) cs) h.0)
