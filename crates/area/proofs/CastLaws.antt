-- The difference of two unsigned numbers that are cast to signed, at any width, as the language states it: a signed
-- value goes through its bits, `to_z w (of_z w z)`.
--     difference-fits, difference-is     where both numbers fit the signed width, so does their difference
--     sum-small                          and a sum over no more records than shown fits 64 bits, signed
--     differences                        for a function's tactic line: all three
-- Assumes nothing.
use mathlib.Core.Path.{◌≡◌, ap₂, ◌∙◌}
use Prim.Native.Nat.{ℕ, ◌^◌, ◌≤◌, ◌<◌}
use native.Mathlib.Omega.{arith}
use lib.IntN.{◌-ℤ◌}
use mir.Syntax.{Width, w64}
use mir.Val.{hbits, SFits, to_z, of_z}
use mir.ValLaws.{to_z-of_z, to_z_pos}
use Rattle.counts.specs.Scan.{Summed}
use Rattle.plane.proofs.DifferenceLaws.{diff, diff-mag}
use Rattle.area.specs.Sums.{most_term, most_records}

module _ (w : Width) (m k : ℕ) (h : m < 2 ^ hbits w) (g : k < 2 ^ hbits w) where
  plain : to_z w m -ℤ to_z w k ≡ diff m k
  plain = ap₂ ◌-ℤ◌ (to_z_pos w m h) (to_z_pos w k g)

  pub difference-fits : SFits w (to_z w m -ℤ to_z w k)
  difference-fits = rw plain (record { sfits = diff-mag m k (2 ^ hbits w) h g })

  pub difference-is : to_z w (of_z w (to_z w m -ℤ to_z w k)) ≡ diff m k
  difference-is = to_z-of_z w (to_z w m -ℤ to_z w k) difference-fits ∙ plain

pub sum-small : {A : Type 0} {v : A → ℕ} {f : ℕ → A} {n m : ℕ} → Summed v f most_term n m → n ≤ most_records
    → m < 2 ^ hbits w64
sum-small s l = omega (arith, s.most)

pub ruleset differences = (difference-fits, difference-is, sum-small)
