-- There is a scale for any width: a factorial, which stays shut, so nothing computes it.
--     unit, unit-scale     the scale that theorems are closed with, and that it is one
-- Assumes nothing.
use mathlib.Core.Path.{◌≡◌, ap}
use mathlib.Core.Logic.{◌⊎◌, inl, inr}
use Prim.Native.Nat.{ℕ, zero, suc, ◌*◌, ◌<◌, ◌≤◌}
use native.Mathlib.Nat.{mul-pos, mul-div_cancel}
use native.Mathlib.Omega.{arith}
use Rattle.counts.proofs.TestLaws.{lt-or-le}
use Rattle.plane.proofs.Heights.{Scale}

unfoldable factorial : ℕ → ℕ
factorial zero = 1
factorial (suc n) = suc n * factorial n

factorial-positive : (n : ℕ) → 0 < factorial n
unfolding factorial
factorial-positive zero = omega arith
factorial-positive (suc n) = mul-pos (omega arith) (factorial-positive n)

factorial-multiple : (n d : ℕ) → 0 < d → d ≤ n → (q : ℕ) × (q * d ≡ factorial n)
unfolding factorial
factorial-multiple zero d h l = absurd (omega arith)
factorial-multiple (suc n) d h l = go (lt-or-le n d) (λ l. factorial-multiple n d h l)
  where
    go : (n < d) ⊎ (d ≤ n) → (d ≤ n → (q : ℕ) × (q * d ≡ factorial n)) → (q : ℕ) × (q * d ≡ suc n * factorial n)
    go (inl g) ih =
        let e : d ≡ suc n = omega arith in
        (factorial n, omega (arith, ap (λ k. factorial n * k) e))
    go (inr g) ih =
        let r = ih g in
        (suc n * r.0, omega (arith, ap (λ k. suc n * k) r.1))

pub unit : ℕ → ℕ
unit W = factorial W

pub unit-scale : (W : ℕ) → Scale W (unit W)
unfolding unit
unit-scale W = record {
  positive = factorial-positive W;
  divides = λ d h l. let r = factorial-multiple W d h (omega arith) in rw (← r.1, mul-div_cancel r.0 h);
}
