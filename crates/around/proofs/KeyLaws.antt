-- Two segments in one strip, clear of each other: at one side p of the strip s has the height η, and t may start or end
-- level with it, or not.
--     no-higher     t is no higher than s in the strip: it is lower at p, or level there and no higher in the strip
--     no_lower      t is at or below s at p: it is lower in the strip, or level at p and no lower in the strip
-- Assumes nothing.
use mathlib.Core.Path.{◌≡◌, refl, ap}
use mathlib.Core.Logic.{◌⊎◌, inl, inr}
use mathlib.Core.Bool.{◌&&◌}
use Prim.Native.Nat.{ℕ, suc, ◌+◌, ◌*◌, ◌<◌, ◌≤◌}
use native.Mathlib.Omega.{arith}
use lib.Dec.{ltb, leb, eqb}
use borrow.Author.Tests.{lt-ltb, le-ltb, le-leb, lt-leb, eq-eqb, ne_eqb}
use Rattle.counts.specs.Count.{ind}
use Rattle.counts.proofs.TestLaws.{lt-or-le, Side, less, equal, more, side}
use Rattle.plane.specs.declared.Segment.{Segment}
use Rattle.plane.specs.Touching.{Touch}
use Rattle.plane.proofs.Heights.{Scale, Spans, Inside, height, key}
use Rattle.plane.proofs.OrderLaws.{order_lt, order-gt}

module _ {W : ℕ} (M : ℕ) (scale : Scale W M) (s t : Segment) (clear : (t ≡ s) ⊎ (¬ (Touch s t))) (z p η : ℕ)
    (sp : Spans W s p) (tp : Spans W t p) (sz : Spans W s (2 * z + 1)) (tz : Spans W t (2 * z + 1))
    (at : height M s p ≡ η) where
  inside : Inside s (2 * z + 1)
  inside = omega arith

  lower-key : height M t p < η → key M t z < key M s z
  lower-key l = go clear
    where
      go : (t ≡ s) ⊎ (¬ (Touch s t)) → key M t z < key M s z
      go (inl u) = absurd (omega (arith, ap (λ v. height M v p) u))
      go (inr free) = order_lt M scale s t free p (2 * z + 1) sp sz tp tz (inl inside) (omega arith)

  higher-key : η < height M t p → key M s z < key M t z
  higher-key l = go clear
    where
      go : (t ≡ s) ⊎ (¬ (Touch s t)) → key M s z < key M t z
      go (inl u) = absurd (omega (arith, ap (λ v. height M v p) u))
      go (inr free) = order-gt M scale s t free p (2 * z + 1) sp sz tp tz (inl inside) (omega arith)

  pub no-higher : ind (leb (key M t z) (key M s z))
      ≡ ind (ltb (height M t p) η) + ind (eqb (height M t p) η && leb (key M t z) (key M s z))
  no-higher = go (side (height M t p) η)
    where
      go : Side (height M t p) η → ind (leb (key M t z) (key M s z))
          ≡ ind (ltb (height M t p) η) + ind (eqb (height M t p) η && leb (key M t z) (key M s z))
      go (less l) =
          rw (
            lt-ltb _ _ l,
            ne_eqb (height M t p) η (omega arith),
            le-leb (key M t z) (key M s z) (omega (arith, lower-key l)),
          ) refl
      go (equal l) = rw (le-ltb (height M t p) η (omega arith), eq-eqb _ _ l) (omega arith)
      go (more l) =
          rw (
            le-ltb (height M t p) η (omega arith),
            ne_eqb (height M t p) η (omega arith),
            lt-leb (key M t z) (key M s z) (higher-key l),
          ) refl

  pub no_lower : ind (ltb (key M t z) (key M s z)) + ind (eqb (height M t p) η && leb (key M s z) (key M t z))
      ≡ ind (ltb (height M t p) (suc η))
  no_lower = go (side (height M t p) η)
    where
      part : (m n : ℕ) → ind (ltb m n) + ind (leb n m) ≡ 1
      part m n = cases (lt-or-le m n)
        where
          cases : (m < n) ⊎ (n ≤ m) → ind (ltb m n) + ind (leb n m) ≡ 1
          cases (inl h) = rw (lt-ltb _ _ h, lt-leb _ _ h)
          cases (inr h) = rw (le-ltb _ _ h, le-leb _ _ h)

      go : Side (height M t p) η
          → ind (ltb (key M t z) (key M s z)) + ind (eqb (height M t p) η && leb (key M s z) (key M t z))
          ≡ ind (ltb (height M t p) (suc η))
      go (less l) =
          rw (
            lt-ltb (height M t p) (suc η) (omega arith),
            ne_eqb (height M t p) η (omega arith),
            lt-ltb (key M t z) (key M s z) (lower-key l),
          ) refl
      go (equal l) =
          rw (lt-ltb (height M t p) (suc η) (omega arith), eq-eqb _ _ l) (part (key M t z) (key M s z))
      go (more l) =
          rw (
            le-ltb (height M t p) (suc η) l,
            ne_eqb (height M t p) η (omega arith),
            le-ltb (key M t z) (key M s z) (omega (arith, higher-key l)),
          ) refl
