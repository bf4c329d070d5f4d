-- A number below zero turned around, as the language computes it: -(z + 1) fits where -z need not.
--     next_fits      z + 1 fits
--     turned-fits    and so does -(z + 1)
--     turned-is      it is how far z lies below -1
--     turned-casts   so it can be cast to unsigned
-- Assumes nothing.
use mathlib.Core.Path.{◌≡◌, refl, sym, ap, ◌∙◌}
use mathlib.Core.Bool.{true, true≢false}
use Prim.Native.Nat.{zero, suc, zero-le}
use native.Mathlib.Omega.{arith}
use borrow.Author.Tests.{lt-ltb, le-ltb}
use lib.Dec.{T}
use lib.IntN.{ℤ, pos, negsuc, nat_abs, ◌+ℤ◌, ◌-ℤ◌}
use lib.Signed.{mag, non_neg, lt_z}
use mir.Syntax.{w64}
use mir.Val.{Fits, SFits, to_z, of_z}
use mir.ValLaws.{to_z-of_z}

module _ (z : ℤ) (h : SFits w64 z) (below : lt_z (to_z w64 (of_z w64 z)) (pos 0) ≡ true) where
  under : lt_z z (pos 0) ≡ true
  under = rw (to_z-of_z w64 z h) at below

  turned : pos 0 -ℤ (z +ℤ pos 1) ≡ pos (mag z)
  turned = go z under
    where
      go : (z : ℤ) → lt_z z (pos 0) ≡ true → pos 0 -ℤ (z +ℤ pos 1) ≡ pos (mag z)
      go (pos n) e = absurd (true≢false (sym e ∙ le-ltb n 0 zero-le))
      go (negsuc zero) e = refl
      go (negsuc (suc n)) e = rw (lt-ltb 1 (suc (suc n)) (omega arith)) (ap pos (omega arith))

  next : SFits w64 (z +ℤ pos 1)
  next = go z h under
    where
      go : (z : ℤ) → SFits w64 z → lt_z z (pos 0) ≡ true → SFits w64 (z +ℤ pos 1)
      go (pos n) h e = absurd (true≢false (sym e ∙ le-ltb n 0 zero-le))
      go (negsuc zero) h e = record { sfits = omega arith }
      go (negsuc (suc n)) h e = rw (lt-ltb 1 (suc (suc n)) (omega arith)) (record { sfits = omega (arith, h.sfits) })

  small : SFits w64 (pos (mag z))
  small = record { sfits = h.sfits }

  pub next_fits : SFits w64 (to_z w64 (of_z w64 z) +ℤ pos 1)
  next_fits = rw (to_z-of_z w64 z h) next

  pub turned-fits : SFits w64 (pos 0 -ℤ to_z w64 (of_z w64 (to_z w64 (of_z w64 z) +ℤ pos 1)))
  turned-fits = rw (to_z-of_z w64 z h, to_z-of_z w64 (z +ℤ pos 1) next, turned) small

  pub turned-is : to_z w64 (of_z w64 (pos 0 -ℤ to_z w64 (of_z w64 (to_z w64 (of_z w64 z) +ℤ pos 1)))) ≡ pos (mag z)
  turned-is = rw (to_z-of_z w64 z h, to_z-of_z w64 (z +ℤ pos 1) next, turned) (to_z-of_z w64 (pos (mag z)) small)

  pub turned-casts : T (non_neg (to_z w64 (of_z w64 (pos 0 -ℤ to_z w64 (of_z w64 (to_z w64 (of_z w64 z) +ℤ pos 1))))))
      × Fits w64 (nat_abs (to_z w64 (of_z w64 (pos 0 -ℤ to_z w64 (of_z w64 (to_z w64 (of_z w64 z) +ℤ pos 1))))))
  turned-casts = rw turned-is (tt, record { fits = omega (arith, h.sfits) })
