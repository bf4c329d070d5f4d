-- Points compare and turn as their signed coordinates do: nothing is lost by counting from the grid's lower end.
--     up_one             two coordinates with one count are one
--     before-signed      `before` is document 01's order by x, then y, of the signed coordinates
--     same-signed        and `same` their equality
--     direction-signed   the way between two points is the difference of their signed coordinates
--     turns_left-signed  so a turn is the sign of document 01's determinant over the signed coordinates
-- Assumes nothing.
use mathlib.Core.Path.{◌≡◌, sym, ap, ap₂, ◌∙◌}
use mathlib.Core.Logic.{◌⊎◌, inl, inr, ◌↔◌}
use mathlib.Core.Bool.{true}
use Prim.Native.Nat.{◌<◌}
use lib.IntN.{ℤ, pos, ◌-ℤ◌}
use lib.Signed.{mag, lt_z}
use borrow.Author.Tests.{ltb-true, lt-ltb}
use Rattle.plane.specs.declared.Point.{Point}
use Rattle.plane.specs.Points.{before, same}
use Rattle.plane.specs.Turns.{Direction, direction, determinant, turns_left}
use Rattle.plane.proofs.PointLaws.{Before, before-true, before-intro, same_true, same_refl}
use Rattle.plane.proofs.DeterminantLaws.{turns_left-is}
use Rattle.grid.specs.Coordinates.{up, down, point_of}
use Rattle.grid.proofs.CoordinateLaws.{down-up, up-less, up-difference}

-- two signed coordinates of a point of the grid
pub record GridPoint (x y : ℤ) : Type 0 where
  pub across : mag x < 32768
  pub upward : mag y < 32768

pub up_one : (y z : ℤ) → mag y < 32768 → mag z < 32768 → up y ≡ up z → y ≡ z
up_one y z hy hz e = sym (down-up y hy) ∙ ap down e ∙ down-up z hz

-- the way from (x, y) to (u, v), signed
abbrev pub signed_way : ℤ → ℤ → ℤ → ℤ → Direction
signed_way x y u v = record { across = u -ℤ x; up = v -ℤ y }

module _ (x y u v : ℤ) (p : GridPoint x y) (q : GridPoint u v) where
  pub before-signed : (before (point_of x y) (point_of u v) ≡ true)
      ↔ ((lt_z x u ≡ true) ⊎ ((x ≡ u) × (lt_z y v ≡ true)))
  before-signed = (λ e. to (before-true _ _ e), λ h. before-intro _ _ (from h))
    where
      to : Before (point_of x y) (point_of u v) → (lt_z x u ≡ true) ⊎ ((x ≡ u) × (lt_z y v ≡ true))
      to (inl h) = inl (sym (up-less x u p.across q.across) ∙ lt-ltb _ _ h)
      to (inr h) =
          inr (up_one x u p.across q.across h.0, sym (up-less y v p.upward q.upward) ∙ lt-ltb _ _ h.1)

      from : (lt_z x u ≡ true) ⊎ ((x ≡ u) × (lt_z y v ≡ true)) → Before (point_of x y) (point_of u v)
      from (inl h) = inl (ltb-true _ _ (up-less x u p.across q.across ∙ h))
      from (inr h) = inr (ap up h.0, ltb-true _ _ (up-less y v p.upward q.upward ∙ h.1))

  pub same-signed : (same (point_of x y) (point_of u v) ≡ true) ↔ ((x ≡ u) × (y ≡ v))
  same-signed = (to, from)
    where
      to : same (point_of x y) (point_of u v) ≡ true → (x ≡ u) × (y ≡ v)
      to e =
          let one = same_true (point_of x y) (point_of u v) e in (
            up_one x u p.across q.across (ap (λ (r : Point). r.x) one),
            up_one y v p.upward q.upward (ap (λ (r : Point). r.y) one),
          )

      from : (x ≡ u) × (y ≡ v) → same (point_of x y) (point_of u v) ≡ true
      from h = ap₂ (λ a b. same (point_of x y) (point_of a b)) (sym h.0) (sym h.1) ∙ same_refl (point_of x y)

  pub direction-signed : direction (point_of x y) (point_of u v) ≡ signed_way x y u v
  direction-signed =
      let a = up-difference u x q.across p.across in
      let b = up-difference v y q.upward p.upward in
      λ i. record { across = a i; up = b i }

pub turns_left-signed : (x y u v w z : ℤ) → GridPoint x y → GridPoint u v → GridPoint w z
    → turns_left (point_of x y) (point_of u v) (point_of w z)
    ≡ lt_z (pos 0) (determinant (signed_way x y u v) (signed_way x y w z))
turns_left-signed x y u v w z p q r =
    turns_left-is (point_of x y) (point_of u v) (point_of w z)
    ∙ ap₂ (λ a b. lt_z (pos 0) (determinant a b)) (direction-signed x y u v p q) (direction-signed x y w z p r)
