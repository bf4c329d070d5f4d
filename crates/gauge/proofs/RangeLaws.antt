-- The range of `count_of`: a float passes both of its comparisons exactly if its size is no more than 65,536.
--     low, high          the ends as the code has them
--     is_near x          a multiple of 1/256 of size 65,536 at the most
--     zero-near          that is `is_zero`
--     zero-most          so what may be a zero is of that size at the most
--     Within x           x is a number of size 65,536 at the most
--     within             what passes both comparisons is within
--     beyond             what fails one is not near
-- Assumes nothing.
use Rattle.std.proofs.Common.{◌≡◌, ℕ, zero, suc, ◌+◌, ◌*◌, ◌/◌, ◌%◌, ◌<◌, ◌≤◌, Bool, true, false, ◌&&◌, ◌||◌, eqb, ltb}
use Rattle.std.proofs.Common.{leb, ℤ, pos, neg_ℤ, sym, refl, ◌∙◌, true≢false, lt_of_mul-lt-mul_right, div-add-mod'}
use Rattle.std.proofs.Common.{arith, ltb-false, ltb-true, lt-ltb, eqb-true, leb-true}
use mathlib.Core.Bool.{and-true, false≢true}
use lib.Dec.{leb-suc-suc}
use lib.Arith.{lt_of_le-ne}
use lib.Signed.{le_z}
use lib.Ieee.{Float, nan, inf, fin, up, down, lt, le, eq}
use lib.Ieee.Fits.{down_pos}
use borrow.Author.Tests.{lt-leb, eqb-false}
use Rattle.counts.proofs.TestLaws.{or_left}
use Rattle.counts.proofs.TestLaws.{and-true as both}
use Rattle.gauge.specs.Values.{in_units, size, is_multiple, has_minus, signed, units}
use Rattle.gauge.specs.Cards.{most, is_from, is_zero}

abbrev pub low : Float
low = fin true 1 (pos 16)

abbrev pub high : Float
high = fin false 1 (pos 16)

unfoldable pub is_near : Float → Bool
unfolding is_multiple size
is_near x = is_multiple x && leb (size x) 16777216

range_size : (s : Bool) (n : ℕ) → (le_z (neg_ℤ most) (signed s n) && le_z (signed s n) most) ≡ leb n 16777216
range_size false n = refl
range_size true zero = refl
range_size true (suc n) = and-true (leb n 16777215) ∙ sym (leb-suc-suc n 16777215)

pub zero-near : (x : Float) → is_zero x ≡ is_near x
unfolding is_from is_near units
zero-near x = go (is_multiple x)
  where
    go : (b : Bool) → (b && le_z (neg_ℤ most) (units x) && le_z (units x) most) ≡ (b && leb (size x) 16777216)
    go true = range_size (has_minus x) (size x)
    go false = refl

pub zero-most : (x : Float) → is_zero x ≡ true → size x ≤ 16777216
unfolding is_near
zero-most x h =
    leb-true (size x) 16777216 (both (is_multiple x) (leb (size x) 16777216) (sym (zero-near x) ∙ h)).1

abbrev pub Within : Float → Type 0
Within nan = ⊥
Within (inf s) = ⊥
Within (fin s m e) = m * up e ≤ 65536 * down e

-- ---- what the comparison of two numbers of one sign says: a ≤ b. The equality may be read from either side

le-above : (a b p q : ℕ) → (p ≡ q → a ≡ b) → (ltb a b || (eqb p q && true)) ≡ true → a ≤ b
le-above a b p q same h = go (ltb a b) refl (eqb p q) refl h
  where
    go : (u : Bool) → ltb a b ≡ u → (v : Bool) → eqb p q ≡ v → (u || (v && true)) ≡ true → a ≤ b
    go true less v level h = omega (arith, ltb-true a b less)
    go false less true level h = omega (arith, same (eqb-true p q level))
    go false less false level h = absurd (false≢true h)

le_below : (a b p q : ℕ) → (b ≡ a → p ≡ q) → (ltb a b || (eqb p q && true)) ≡ false → b < a
le_below a b p q same h = go (ltb a b) refl (eqb p q) refl h
  where
    go : (u : Bool) → ltb a b ≡ u → (v : Bool) → eqb p q ≡ v → (u || (v && true)) ≡ false → b < a
    go true less v level h = absurd (true≢false h)
    go false less true level h = absurd (true≢false h)
    go false less false level h = lt_of_le-ne (ltb-false a b less) (λ i. eqb-false p q level (same i))

within-each : (x : Float) → le low x ≡ true → le x high ≡ true → Within x
unfolding le lt eq
within-each nan a b = false≢true a
within-each (inf true) a b = false≢true a
within-each (inf false) a b = false≢true b
within-each (fin true m e) a b =
    omega (arith, le-above (m * up e * 1) (65536 * down e) (65536 * down e) (m * up e * 1) sym a)
within-each (fin false m e) a b =
    omega (arith, le-above (m * up e * 1) (65536 * down e) (m * up e * 1) (65536 * down e) (λ i. i) b)

pub within : (x : Float) → (le low x && le x high) ≡ true → Within x
within x h = go (le low x) refl (le x high) refl h
  where
    go : (a : Bool) → le low x ≡ a → (b : Bool) → le x high ≡ b → (a && b) ≡ true → Within x
    go true p true q h = within-each x p q
    go true p false q h = absurd (false≢true h)
    go false p b q h = absurd (false≢true h)

-- ---- too large is not near

large : (s : Bool) (m : ℕ) (e : ℤ) → 65536 * down e < m * up e → is_near (fin s m e) ≡ false
unfolding is_near is_multiple size
large s m e h = go (eqb (in_units m e % down e) 0) refl
  where
    go : (b : Bool) → eqb (in_units m e % down e) 0 ≡ b → (b && leb (in_units m e / down e) 16777216) ≡ false
    go false q = refl
    go true q =
        lt-leb (in_units m e / down e) 16777216
        (lt_of_mul-lt-mul_right (down e)
        (omega (arith, h, eqb-true (in_units m e % down e) 0 q, div-add-mod' (in_units m e) (down e))))

below-low : (x : Float) → le low x ≡ false → is_near x ≡ false
unfolding is_near is_multiple le lt eq
below-low nan a = refl
below-low (inf s) a = refl
below-low (fin false m e) a =
    absurd (true≢false (sym (or_left _ (lt-ltb 0 (65536 * down e + m * up e * 1) (omega (arith, down_pos e)))) ∙ a))
below-low (fin true m e) a =
    large true m e (omega (arith, le_below (m * up e * 1) (65536 * down e) (65536 * down e) (m * up e * 1) (λ i. i) a))

above-high : (x : Float) → le x high ≡ false → is_near x ≡ false
unfolding is_near is_multiple le lt eq
above-high nan a = refl
above-high (inf s) a = refl
above-high (fin true m e) a =
    absurd (true≢false (sym (or_left _ (lt-ltb 0 (m * up e * 1 + 65536 * down e) (omega (arith, down_pos e)))) ∙ a))
above-high (fin false m e) a =
    large false m e (omega (arith, le_below (m * up e * 1) (65536 * down e) (m * up e * 1) (65536 * down e) sym a))

pub beyond : (x : Float) → (le low x && le x high) ≡ false → is_zero x ≡ false
beyond x h = zero-near x ∙ go (le low x) refl (le x high) refl h
  where
    go : (a : Bool) → le low x ≡ a → (b : Bool) → le x high ≡ b → (a && b) ≡ false → is_near x ≡ false
    go false p b q h = below-low x p
    go true p false q h = above-high x q
    go true p true q h = absurd (true≢false h)
