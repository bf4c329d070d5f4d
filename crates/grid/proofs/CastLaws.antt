-- What the casts, the sum and the difference of `count_of` and `number_at` ask, as the language states them: a signed
-- value goes through its bits, `to_z w (of_z w z)`. Here it is brought back to the number once.
--     widened-fits, sum_fits, count-is              up: a number, widened, and 32,768 more
--     point_of-cast, point_of-passed                two coordinates passed on to a call
--     difference-fits, narrowed-fits, number_is     down: a count, widened, and 32,768 less
--     natural-fits          for any caller: a number of 64 bits that is not below zero can be cast to unsigned
-- The sum and the difference fit at any step k, so that a wrong step is refused for what it answers.
-- Assumes nothing.
use mathlib.Core.Path.{◌≡◌, refl, ap₂, ◌∙◌}
use mathlib.Core.Bool.{Bool, true, false, cond, true≢false}
use Prim.Native.Nat.{ℕ, suc, ◌-◌, ◌<◌}
use native.Mathlib.Omega.{arith}
use lib.Dec.{T, ltb}
use lib.IntN.{ℤ, pos, negsuc, nat_abs, ◌+ℤ◌, ◌-ℤ◌}
use lib.Signed.{mag, non_neg, lt_z}
use mir.Syntax.{w16, w32, w64}
use mir.Val.{Fits, SFits, to_z, of_z}
use mir.ValLaws.{to_z-of_z, to_z_pos}
use Rattle.plane.specs.declared.Point.{Point}
use Rattle.grid.specs.Coordinates.{up, down, point_of}
use Rattle.grid.proofs.CoordinateLaws.{up_small, up-sum, down_fits}

wider : (z : ℤ) → mag z < 32768 → SFits w32 z
wider z h = record { sfits = omega arith }

-- the difference of two numbers is no larger than they are
mag-sub : (m n : ℕ) → m < 65536 → n < 65537 → mag (cond (ltb m n) (negsuc (n - suc m)) (pos (m - n))) < 65537
mag-sub m n h g = go (ltb m n) refl
  where
    go : (b : Bool) → ltb m n ≡ b → mag (cond b (negsuc (n - suc m)) (pos (m - n))) < 65537
    go true e = omega arith
    go false e = omega arith

pub point_of-cast : (x y : ℤ) → SFits w16 x → SFits w16 y
    → point_of (to_z w16 (of_z w16 x)) (to_z w16 (of_z w16 y)) ≡ point_of x y
point_of-cast x y f g = ap₂ point_of (to_z-of_z w16 x f) (to_z-of_z w16 y g)

pub point_of-passed : (x y : ℤ) {p : Point} → SFits w16 x → SFits w16 y
    → p ≡ point_of (to_z w16 (of_z w16 x)) (to_z w16 (of_z w16 y)) → p ≡ point_of x y
point_of-passed x y f g e = e ∙ point_of-cast x y f g

pub natural-fits : (z : ℤ) → SFits w64 z → lt_z z (pos 0) ≡ false → T (non_neg z) × Fits w64 (nat_abs z)
natural-fits (pos n) h e = (tt, record { fits = omega (arith, h.sfits) })
natural-fits (negsuc n) h e = absurd (true≢false e)

-- ---- up

module _ (z : ℤ) (h : SFits w16 z) where
  widened : to_z w32 (of_z w32 (to_z w16 (of_z w16 z))) ≡ z
  widened = rw (to_z-of_z w16 z h) (to_z-of_z w32 z (wider z h.sfits))

  pub widened-fits : SFits w32 (to_z w16 (of_z w16 z))
  widened-fits = rw (to_z-of_z w16 z h) (wider z h.sfits)

  pub sum_fits : (k : ℕ) → k < 65536 → SFits w32 (to_z w32 (of_z w32 (to_z w16 (of_z w16 z))) +ℤ pos k)
  sum_fits k small = rw widened (go z h.sfits)
    where
      go : (z : ℤ) → mag z < 32768 → SFits w32 (z +ℤ pos k)
      go (pos n) g = record { sfits = omega arith }
      go (negsuc n) g = record { sfits = omega (arith, mag-sub k (suc n) small (omega arith)) }

  up_fits : SFits w32 (pos (up z))
  up_fits = record { sfits = omega (arith, up_small z h.sfits) }

  pub count-is : to_z w32 (of_z w32 (to_z w32 (of_z w32 (to_z w16 (of_z w16 z))) +ℤ pos 32768)) ≡ pos (up z)
  count-is = rw (widened, up-sum z h.sfits) (to_z-of_z w32 (pos (up z)) up_fits)

-- ---- down

module _ (n : ℕ) (h : n < 65536) where
  plain : to_z w32 n ≡ pos n
  plain = to_z_pos w32 n (omega arith)

  narrow : SFits w16 (down n)
  narrow = record { sfits = down_fits n h }

  pub difference-fits : (k : ℕ) → k < 65536 → SFits w32 (to_z w32 n +ℤ negsuc k)
  difference-fits k small = rw plain (record { sfits = omega (arith, mag-sub n (suc k) h (omega arith)) })

  back : to_z w32 (of_z w32 (to_z w32 n -ℤ pos 32768)) ≡ down n
  back = rw plain (to_z-of_z w32 (down n) (wider (down n) (down_fits n h)))

  pub narrowed-fits : SFits w16 (to_z w32 (of_z w32 (to_z w32 n -ℤ pos 32768)))
  narrowed-fits = rw back narrow

  pub number_is : to_z w16 (of_z w16 (to_z w32 (of_z w32 (to_z w32 n -ℤ pos 32768)))) ≡ down n
  number_is = rw back (to_z-of_z w16 (down n) narrow)
