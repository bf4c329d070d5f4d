-- Two segments of a sound chart over the strip right of column x: their keys order them as document 01 does,
-- by "the highest counted there; if several start at one point, the highest just to the right".
--     column-order     the one of no greater key is no higher at the column, and level there only if both start there
--     higher-key       the higher one by document 01's rule is the one of the greater key
-- Of one segment twice both hold too. Assumes nothing.
use mathlib.Core.Path.{◌≡◌, sym, ap}
use mathlib.Core.Logic.{◌⊎◌, inl, inr}
use mathlib.Core.Bool.{true}
use mathlib.Core.List.{List}
use Prim.Native.Nat.{ℕ, ◌*◌, ◌<◌, ◌≤◌}
use native.Mathlib.Omega.{arith}
use lib.Dec.{ltb}
use borrow.Author.Tests.{ltb-true, lt-ltb}
use Rattle.counts.specs.Count.{◌∈◌}
use Rattle.counts.proofs.TestLaws.{same_test, lt-or-le}
use Rattle.plane.specs.declared.Segment.{Segment}
use Rattle.plane.specs.Touching.{Touch}
use Rattle.plane.specs.Columns.{covers, higher}
use Rattle.plane.proofs.Heights.{Scale, height, key}
use Rattle.plane.proofs.ColumnLaws.{covers-spans, higher-is}
use Rattle.plane.proofs.OrderLaws.{keys-differ, order-left}
use Rattle.region.proofs.Charts.{SoundChart}

module _ {W : ℕ} (M : ℕ) (scale : Scale W M) {ss : List Segment} (sound : SoundChart W ss) (x : ℕ) where
  pub column-order : (s t : Segment) → s ∈ ss → t ∈ ss → covers x s ≡ true → covers x t ≡ true
      → key M t x ≤ key M s x
      → (height M t (2 * x) ≤ height M s (2 * x))
      × (height M t (2 * x) ≡ height M s (2 * x) → s.a ≡ t.a)
  column-order s t sm tm sc tc l = go (sound.clear s sm t tm)
    where
      go : (t ≡ s) ⊎ (¬ (Touch s t))
          → (height M t (2 * x) ≤ height M s (2 * x))
          × (height M t (2 * x) ≡ height M s (2 * x) → s.a ≡ t.a)
      go (inl e) = (omega (arith, ap (λ u. height M u (2 * x)) e), λ _. ap (λ u. u.a) (sym e))
      go (inr free) =
          let hs = covers-spans x s (sound.chart.small s sm) sc in
          let ht = covers-spans x t (sound.chart.small t tm) tc in
          let apart = keys-differ M scale s t free x hs.1 ht.1 in
          let h = order-left M scale s t free _ _ hs.1 hs.0 ht.1 ht.0 (omega arith) (omega arith) in
          (h.0, λ e. (h.1 e).1)

  pub higher-key : (s t : Segment) → s ∈ ss → t ∈ ss → covers x s ≡ true → covers x t ≡ true
      → higher x s t ≡ ltb (key M t x) (key M s x)
  higher-key s t sm tm sc tc =
      let rule = higher-is M scale x s t (sound.chart.small s sm) (sound.chart.small t tm) sc tc in
      same_test (higher x s t) (ltb (key M t x) (key M s x))
      (λ h. lt-ltb _ _ (to (rule.0 h) (lt-or-le _ _))) (λ h. rule.1 (from (ltb-true _ _ h) (lt-or-le _ _)))
    where
      -- what `higher-is` says of s and t
      Higher : Type 0
      Higher =
          (height M t (2 * x) < height M s (2 * x)) ⊎ ((s.a ≡ t.a) × (key M t x < key M s x))

      to : Higher → (key M t x < key M s x) ⊎ (key M s x ≤ key M t x)
          → key M t x < key M s x
      to h (inl l) = l
      to (inl h) (inr l) = absurd (omega (arith, (column-order t s tm sm tc sc l).0))
      to (inr h) (inr l) = h.1

      from : key M t x < key M s x
          → (height M t (2 * x) < height M s (2 * x)) ⊎ (height M s (2 * x) ≤ height M t (2 * x)) → Higher
      from l (inl h) = inl h
      from l (inr h) = let g = column-order s t sm tm sc tc (omega arith) in inr (g.1 (omega arith), l)
