-- Signed numbers as the file has them (document 01: "Signed n is written as 2n, or -2n-1 below zero").
--     signed-written, written-signed    reading and writing are each other's way back
--     signed-even, signed_odd, below-fits    what `signed_of` computes, as the language states it
-- Assumes nothing.
use mathlib.Core.Path.{◌≡◌, refl, ap}
use mathlib.Core.Bool.{Bool, true, false, cond}
use Prim.Native.Nat.{ℕ, zero, suc, ◌+◌, ◌*◌, ◌/◌, ◌%◌, ◌<◌}
use native.Mathlib.Omega.{arith}
use borrow.Author.Tests.{eq-eqb, ne_eqb, eqb-true, eqb-false}
use lib.Dec.{eqb}
use lib.IntN.{ℤ, pos, negsuc, ◌-ℤ◌}
use mir.Syntax.{w64}
use mir.Val.{SFits, to_z, of_z}
use mir.ValLaws.{to_z-of_z, to_z_pos}
use Rattle.number.specs.Numbers.{written, signed}

pub signed-written : (z : ℤ) → signed (written z) ≡ z
unfolding signed
signed-written (pos n) = rw (eq-eqb (2 * n % 2) 0 (omega arith)) (ap pos (omega arith))
signed-written (negsuc n) = rw (ne_eqb ((2 * n + 1) % 2) 0 (omega arith)) (ap negsuc (omega arith))

pub written-signed : (n : ℕ) → written (signed n) ≡ n
unfolding signed
written-signed n = go (eqb (n % 2) 0) refl
  where
    go : (b : Bool) → eqb (n % 2) 0 ≡ b → written (cond b (pos (n / 2)) (negsuc (n / 2))) ≡ n
    go true e = omega (arith, eqb-true (n % 2) 0 e)
    go false e = omega (arith, eqb-false (n % 2) 0 e)

less : (m : ℕ) → negsuc 0 -ℤ pos m ≡ negsuc m
less zero = refl
less (suc m) = ap negsuc (omega arith)

module _ (n : ℕ) (h : n < 4294967296) where
  half : to_z w64 (n / 2) ≡ pos (n / 2)
  half = to_z_pos w64 (n / 2) (omega arith)

  pub signed-even : n % 2 ≡ 0 → to_z w64 (n / 2) ≡ signed n
  unfolding signed
  signed-even e = rw (eq-eqb (n % 2) 0 e) half

  pub below-fits : SFits w64 (negsuc 0 -ℤ to_z w64 (n / 2))
  below-fits = rw (half, less (n / 2)) (record { sfits = omega arith })

  pub signed_odd : (n % 2 ≡ 0 → ⊥) → to_z w64 (of_z w64 (negsuc 0 -ℤ to_z w64 (n / 2))) ≡ signed n
  unfolding signed
  signed_odd e = rw (ne_eqb (n % 2) 0 e, to_z-of_z w64 (negsuc 0 -ℤ to_z w64 (n / 2)) below-fits, half) (less (n / 2))
