-- Laws of `turn_of` (specs/Turning.antt).
--     turn_of-left, -right, -straight               its value in each case, from the two sums that a program compares
--     turn_of-says-left, -right, -straight          what each answer says of the tests on turns
-- Assumes nothing.
use mathlib.Core.Path.{◌≡◌, refl}
use mathlib.Core.Bool.{Bool, true, false, cond}
use Prim.Native.Nat.{ℕ, ◌<◌, ◌≤◌}
use native.Mathlib.Omega.{arith}
use lib.Dec.{ltb, eqb}
use borrow.Author.Tests.{ltb-true, ltb-false, lt-ltb, le-ltb, eq-eqb, ne_eqb}
use Rattle.plane.specs.declared.Point.{Point}
use Rattle.plane.specs.Turns.{plus, minus, turns_left, turns_right, straight}
use Rattle.points.specs.Turning.{turn_of}
use Rattle.points.specs.declared.Turn.TheVariants.{Left, Straight, Right}

module _ (p q r : Point) {m n : ℕ} (em : m ≡ minus p q r) (en : n ≡ plus p q r) where
  pub turn_of-left : m < n → Left ≡ turn_of p q r
  unfolding turn_of turns_left turns_right
  turn_of-left l = rw (lt-ltb (minus p q r) (plus p q r) (omega arith))

  pub turn_of-right : n < m → Right ≡ turn_of p q r
  unfolding turn_of turns_left turns_right
  turn_of-right l = rw (
    le-ltb (minus p q r) (plus p q r) (omega arith),
    lt-ltb (plus p q r) (minus p q r) (omega arith),
  )

  pub turn_of-straight : n ≤ m → m ≤ n → Straight ≡ turn_of p q r
  unfolding turn_of turns_left turns_right
  turn_of-straight l h =
      rw (le-ltb (minus p q r) (plus p q r) (omega arith), le-ltb (plus p q r) (minus p q r) (omega arith))

-- ---- what each answer says

module _ (p q r : Point) where
  pub turn_of-says-left : turn_of p q r ≡ Left → turns_left p q r ≡ true
  unfolding turn_of
  turn_of-says-left = go (turns_left p q r) (turns_right p q r)
    where
      go : (a b : Bool) → cond a Left (cond b Right Straight) ≡ Left → a ≡ true
      go true b e = refl
      go false true e = let z : ◌≡◌ {A = ℕ} 0 1 = cc in absurd (omega arith)
      go false false e = let z : ◌≡◌ {A = ℕ} 0 1 = cc in absurd (omega arith)

  pub turn_of-says-right : turn_of p q r ≡ Right → (turns_left p q r ≡ false) × (straight p q r ≡ false)
  unfolding turn_of turns_left turns_right straight
  turn_of-says-right = go (ltb (minus p q r) (plus p q r)) (ltb (plus p q r) (minus p q r)) refl refl
    where
      go : (a b : Bool) → ltb (minus p q r) (plus p q r) ≡ a → ltb (plus p q r) (minus p q r) ≡ b
          → cond a Left (cond b Right Straight) ≡ Right
          → (a ≡ false) × (eqb (minus p q r) (plus p q r) ≡ false)
      go true b h g e = let z : ◌≡◌ {A = ℕ} 0 1 = cc in absurd (omega arith)
      go false true h g e =
          (refl, ne_eqb (minus p q r) (plus p q r) (omega (arith, ltb-true (plus p q r) (minus p q r) g)))
      go false false h g e = let z : ◌≡◌ {A = ℕ} 0 1 = cc in absurd (omega arith)

  pub turn_of-says-straight : turn_of p q r ≡ Straight → (turns_left p q r ≡ false) × (straight p q r ≡ true)
  unfolding turn_of turns_left turns_right straight
  turn_of-says-straight = go (ltb (minus p q r) (plus p q r)) (ltb (plus p q r) (minus p q r)) refl refl
    where
      go : (a b : Bool) → ltb (minus p q r) (plus p q r) ≡ a → ltb (plus p q r) (minus p q r) ≡ b
          → cond a Left (cond b Right Straight) ≡ Straight
          → (a ≡ false) × (eqb (minus p q r) (plus p q r) ≡ true)
      go true b h g e = let z : ◌≡◌ {A = ℕ} 0 1 = cc in absurd (omega arith)
      go false true h g e = let z : ◌≡◌ {A = ℕ} 0 1 = cc in absurd (omega arith)
      go false false h g e = (
        refl,
        eq-eqb (minus p q r) (plus p q r)
            (omega (arith, ltb-false (minus p q r) (plus p q r) h, ltb-false (plus p q r) (minus p q r) g)),
      )
