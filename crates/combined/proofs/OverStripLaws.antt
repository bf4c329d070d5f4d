-- Charts laid over each other, in the strip right of a column x.
--     strip-distinct       at most one of their segments over the strip has a given key
--     strip-order          the one of no greater key is no higher, at both columns of the strip
--     upper_sides-strip, lower_sides-strip   the sides of a segment over all the charts, as each counts them in the
--                          strip
-- Assumes nothing.
use mathlib.Core.Path.{◌≡◌, sym, ◌∙◌}
use mathlib.Core.Logic.{◌⊎◌, inl, inr}
use mathlib.Core.Bool.{true, ◌&&◌}
use mathlib.Core.List.{List}
use Prim.Native.Nat.{ℕ, suc, ◌+◌, ◌*◌, ◌≤◌}
use native.Mathlib.Omega.{arith}
use lib.Dec.{eqb}
use borrow.Author.Tests.{eqb-true}
use Rattle.counts.specs.Count.{◌∈◌, count}
use Rattle.counts.proofs.TestLaws.{and-true}
use Rattle.counts.proofs.MapLaws.{map-ext}
use Rattle.counts.proofs.HighestLaws.{at_most_one}
use Rattle.plane.specs.declared.Segment.{Segment}
use Rattle.plane.specs.Points.{is_segment}
use Rattle.plane.specs.Touching.{Touch}
use Rattle.plane.specs.Columns.{covers}
use Rattle.plane.proofs.Heights.{Scale, Spans, height, key}
use Rattle.plane.proofs.PointLaws.{is_segment-refl}
use Rattle.plane.proofs.OrderLaws.{keys-differ, key-order}
use Rattle.plane.proofs.ColumnLaws.{covers-spans}
use Rattle.record.specs.declared.Record.{Record}
use Rattle.region.proofs.Charts.{under, up_to}
use Rattle.region.proofs.ChartLaws.{upper_side-is, lower_side-is}
use Rattle.region.proofs.SlantLaws.{upper-strip, lower-strip}
use Rattle.combined.specs.Kept.{upper_sides, lower_sides}
use Rattle.combined.proofs.Overlay.{Overlay, odd_in}
use Rattle.combined.proofs.OwnLaws.{own-small, clear_of}

module _ {W : ℕ} (M : ℕ) (scale : Scale W M) {cs : List (List Record)} {us : List Segment} (over : Overlay W cs us)
    (x : ℕ) where
  -- ---- two segments over the strip

  middle : (t : Segment) → t ∈ us → covers x t ≡ true → Spans W t (2 * x + 1)
  middle t m h = (covers-spans x t (own-small over t m) h).1

  one_key : (s t : Segment) → s ∈ us → t ∈ us → covers x s ≡ true → covers x t ≡ true → key M s x ≡ key M t x
      → t ≡ s
  one_key s t sm tm sc tc e = go (over.clear s sm t tm)
    where
      go : (t ≡ s) ⊎ (¬ (Touch s t)) → t ≡ s
      go (inl g) = g
      go (inr free) = absurd (keys-differ M scale s t free x (middle s sm sc) (middle t tm tc) e)

  pub strip-distinct : (k : ℕ) → count (λ t. covers x t && eqb (key M t x) k) us ≤ 1
  strip-distinct k =
      at_most_one (λ t. covers x t && eqb (key M t x) k) (λ t s. is_segment s t) is_segment-refl us
      (λ s m. over.once s)
      (λ s t sm tm sp tp.
      let h = and-true _ _ sp in
      let g = and-true _ _ tp in
      one_key t s tm sm g.0 h.0 (eqb-true _ _ g.1 ∙ sym (eqb-true _ _ h.1)))

  pub strip-order : (s t : Segment) → s ∈ us → t ∈ us → covers x s ≡ true → covers x t ≡ true → key M s x ≤ key M t x
      → (height M s (2 * x) ≤ height M t (2 * x)) × (height M s (2 * suc x) ≤ height M t (2 * suc x))
  strip-order s t sm tm sc tc l = go (over.clear t tm s sm)
    where
      go : (s ≡ t) ⊎ (¬ (Touch t s))
          → (height M s (2 * x) ≤ height M t (2 * x)) × (height M s (2 * suc x) ≤ height M t (2 * suc x))
      go (inl e) = rw e (omega arith)
      go (inr free) =
          let apart = keys-differ M scale t s free x (middle t tm tc) (middle s sm sc) in
          key-order M scale t s free x (middle t tm tc) (middle s sm sc) (omega arith)

  -- ---- the sides of one segment

  module _ (s : Segment) (member : s ∈ us) (covered : covers x s ≡ true) where
    pub upper_sides-strip : upper_sides cs s ≡ odd_in (up_to M s x) cs
    upper_sides-strip =
        map-ext _ _ cs
        (λ c m. upper_side-is c s ∙ upper-strip M scale (over.sound c m).chart s (own-small over s member)
        (clear_of over s member c m) x covered)

    pub lower_sides-strip : lower_sides cs s ≡ odd_in (under M s x) cs
    lower_sides-strip =
        map-ext _ _ cs
        (λ c m. lower_side-is c s ∙ lower-strip M scale (over.sound c m).chart s (own-small over s member)
        (clear_of over s member c m) (over.single c m s) x covered)
