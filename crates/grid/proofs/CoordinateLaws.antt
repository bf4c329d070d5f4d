-- Laws of coordinates and their counts (specs/Coordinates.antt), over the signed numbers.
--     on_grid-fits, fits-on_grid  a coordinate is a number whose magnitude is below 32,768, as the language sees it
--     located-low, located-high    a number past an end, or past any bound beyond it, is None
--     located-on, on_fits          any other is the coordinate
--     up_small            a count is below 65,536
--     up-sum              it is the number and 32,768
--     down-up, up-down    each way is the other's inverse
--     up-less             counting keeps the order
--     up-difference       and every difference, so directions and determinants are the same counted or signed
-- Assumes nothing.
use mathlib.Core.Path.{◌≡◌, refl, sym, ap, ap₂, ◌∙◌}
use mathlib.Core.Bool.{Bool, true, false, not, cond, ◌&&◌, true≢false}
use Prim.Native.Nat.{ℕ, suc, ◌+◌, ◌-◌, ◌<◌, ◌≤◌}
use native.Mathlib.Omega.{arith}
use lib.Dec.{ltb}
use lib.IntN.{ℤ, pos, negsuc, ◌+ℤ◌, ◌-ℤ◌}
use lib.Signed.{mag, lt_z, le_z}
use borrow.Author.Tests.{leb-true, ltb-true, lt-ltb, le-ltb, le-leb, lt-leb}
use Rattle.counts.proofs.TestLaws.{tests, and-true, and_comm, same_test, leb-not}
use Rattle.plane.proofs.DifferenceLaws.{diff-same, diff-sub}
use Rattle.grid.specs.Coordinates.{on_grid, located, up, down}
use Rattle.std.specs.Prelude.{Some, None}

pub on_grid-fits : (z : ℤ) → on_grid z ≡ true → mag z < 32768
on_grid-fits (pos n) e = omega (arith, leb-true n 32767 e)
on_grid-fits (negsuc n) e = omega (arith, leb-true n 32767 (and-true _ _ e).0)

pub fits-on_grid : (z : ℤ) → mag z < 32768 → on_grid z ≡ true
fits-on_grid (pos n) h = le-leb n 32767 (omega arith)
fits-on_grid (negsuc n) h = rw (le-leb n 32767 (omega arith))

-- ---- a wider number

-- at or above the lower end exactly if not below it, and so for the upper end
not_low : (z : ℤ) → le_z (negsuc 32767) z ≡ not (lt_z z (negsuc 32767))
not_low (pos n) = refl
not_low (negsuc n) = leb-not n 32767

not-high : (z : ℤ) → le_z z (pos 32767) ≡ not (lt_z (pos 32767) z)
not-high (pos n) = leb-not n 32767
not-high (negsuc n) = refl

-- a number past a bound that is no nearer than the grid's end is off the grid
past-low : (z : ℤ) (k : ℕ) → 32767 ≤ k → lt_z z (negsuc k) ≡ true → le_z (negsuc 32767) z ≡ false
past-low (pos n) k h e = absurd (true≢false (sym e))
past-low (negsuc n) k h e = lt-leb n 32767 (omega (arith, ltb-true k n e))

past-high : (z : ℤ) (k : ℕ) → 32767 ≤ k → lt_z (pos k) z ≡ true → le_z z (pos 32767) ≡ false
past-high (pos n) k h e = lt-leb n 32767 (omega (arith, ltb-true k n e))
past-high (negsuc n) k h e = absurd (true≢false (sym e))

module _ (z : ℤ) where
  pub located-low : (k : ℕ) → 32767 ≤ k → lt_z z (negsuc k) ≡ true → None ≡ located z
  unfolding located
  located-low k h e = rw (past-low z k h e)

  pub located-high : (k : ℕ) → 32767 ≤ k → lt_z (pos k) z ≡ true → None ≡ located z
  unfolding located
  located-high k h e = rw (past-high z k h e, and_comm (le_z (negsuc 32767) z) false)

  pub located-on : lt_z z (negsuc 32767) ≡ false → lt_z (pos 32767) z ≡ false → Some (record { v = z }) ≡ located z
  unfolding located
  located-on e g = rw (not_low z, e, not-high z, g)

  pub on_fits : lt_z z (negsuc 32767) ≡ false → lt_z (pos 32767) z ≡ false → mag z < 32768
  on_fits e g = on_grid-fits z (ap₂ ◌&&◌ (not_low z ∙ ap not e) (not-high z ∙ ap not g))

-- ---- counts

module _ (z : ℤ) (h : mag z < 32768) where
  pub up_small : up z < 65536
  unfolding up
  up_small = go z h
    where
      go : (z : ℤ) → mag z < 32768 → up z < 65536
      go (pos n) h = omega arith
      go (negsuc n) h = omega arith

  pub up-sum : z +ℤ pos 32768 ≡ pos (up z)
  unfolding up
  up-sum = go z h
    where
      go : (z : ℤ) → mag z < 32768 → z +ℤ pos 32768 ≡ pos (up z)
      go (pos n) h = refl
      go (negsuc n) h = rw (le-ltb 32768 (suc n) (omega arith)) (ap pos (omega arith))

  pub down-up : down (up z) ≡ z
  unfolding up
  down-up = go z h
    where
      go : (z : ℤ) → mag z < 32768 → down (up z) ≡ z
      go (pos n) h = rw (le-ltb (n + 32768) 32768 (omega arith)) (ap pos (omega arith))
      go (negsuc n) h = rw (lt-ltb (32767 - n) 32768 (omega arith)) (ap negsuc (omega arith))

module _ (n : ℕ) where
  pub down_fits : n < 65536 → mag (down n) < 32768
  down_fits h = go (ltb n 32768) refl
    where
      go : (b : Bool) → ltb n 32768 ≡ b → mag (cond b (negsuc (32768 - suc n)) (pos (n - 32768))) < 32768
      go true e = omega (arith, tests)
      go false e = omega (arith, tests)

  -- of every count, though only one below 65,536 has a coordinate
  pub up-down : up (down n) ≡ n
  unfolding up
  up-down = go (ltb n 32768) refl
    where
      go : (b : Bool) → ltb n 32768 ≡ b → up (cond b (negsuc (32768 - suc n)) (pos (n - 32768))) ≡ n
      go true e = omega (arith, tests)
      go false e = omega (arith, tests)

module _ (y z : ℤ) (hy : mag y < 32768) (hz : mag z < 32768) where
  pub up-less : ltb (up y) (up z) ≡ lt_z y z
  unfolding up
  up-less = go y z hy hz
    where
      go : (y z : ℤ) → mag y < 32768 → mag z < 32768 → ltb (up y) (up z) ≡ lt_z y z
      go (pos m) (pos n) hy hz =
          same_test (ltb (m + 32768) (n + 32768)) (ltb m n) (λ e. lt-ltb m n (omega (arith, tests)))
          (λ e. lt-ltb (m + 32768) (n + 32768) (omega (arith, tests)))
      go (pos m) (negsuc n) hy hz = le-ltb (m + 32768) (32767 - n) (omega arith)
      go (negsuc m) (pos n) hy hz = lt-ltb (32767 - m) (n + 32768) (omega arith)
      go (negsuc m) (negsuc n) hy hz =
          same_test (ltb (32767 - m) (32767 - n)) (ltb n m) (λ e. lt-ltb n m (omega (arith, tests)))
          (λ e. lt-ltb (32767 - m) (32767 - n) (omega (arith, tests)))

  pub up-difference : pos (up y) -ℤ pos (up z) ≡ y -ℤ z
  up-difference =
      sym (ap₂ (λ a b. a -ℤ b) (sym (down-up y hy)) (sym (down-up z hz)) ∙ diff-sub (up y) 32768 (up z) 32768
      ∙ diff-same (up y + 32768) (32768 + up z) (up y) (up z) (omega arith))
