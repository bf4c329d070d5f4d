-- Laws of `Exactly` (specs/Values.antt): a float that is z 256ths, no more and no less.
--     value-one                two 64-bit floats of one sign and one size, as a fraction, are the same float
--     exactly-one              so one float at most is exactly z 256ths
--     value-multiple, value-size, value-minus    a float that is n 256ths in size is a multiple of 1/256, of that size
--                              and sign
--     exactly-size, exactly-units    z is how many 256ths it is
--     multiple-value           and a multiple of 1/256 has its size and sign for its value
--     positive-value           so one whose 256ths are n above zero is n / 256
--     zero-exactly             the positive zero is exactly 0
--     float_of                 the float of z 256ths
--     float-exactly            it is exactly that, if z is below 2 ^ 53 in size
--     le-exactly               comparing two such floats compares their 256ths
--     castable, cut-exactly    such a float is in range of an i64, and the cast drops its fraction towards zero
-- Assumes nothing.
use Rattle.std.proofs.Common.{◌≡◌, ℕ, zero, suc, ◌+◌, ◌-◌, ◌*◌, ◌/◌, ◌%◌, ◌^◌, ◌<◌, Bool, true, false, cond, not, ◌&&◌}
use Rattle.std.proofs.Common.{◌||◌, eqb, ltb, leb, ℤ, pos, negsuc, nat_abs, sym, refl, ap, ◌∙◌, subst, div-add-mod'}
use Rattle.std.proofs.Common.{mul-div_cancel, arith, lit<, le-ltb, lt-ltb, eq-eqb, ne_eqb, eqb-true, le-leb}
use mathlib.Core.Bool.{false≢true}
use native.Mathlib.Nat.{mul-mod_left}
use lib.Dec.{leb-suc-suc}
use lib.Signed.{non_neg, le_z, quot_z}
use lib.Ieee as Ieee
use lib.Ieee.{Float, nan, inf, fin, Format, binary64, prec, low, up, down, hid, top, fits, to_bits, of_bits}
use lib.Ieee.{below, level, le, round, to_signed}
use lib.Ieee.Fits.{down_pos, round-fits}
use lib.Ieee.Bits.{is_true, of_bits-to_bits}
use lib.Ieee.Exact.{HasValue}
use lib.Ieee.Nearest.{div_same}
use borrow.Author.Tests.{lt-leb}
use Rattle.counts.proofs.TestLaws.{tests, and-true, or_left, or_right, is_false, eqb_swap}
use Rattle.counts.proofs.TestLaws.{Side, less, equal, more, side}
use Rattle.gauge.specs.Values.{in_units, size, is_multiple, has_minus, signed, units, Exactly}
use Rattle.gauge.proofs.FloatLaws.{le-value, cut-value, Castable, castable-value, whole_float}

abbrev is_minus : ℤ → Bool
is_minus z = not (non_neg z)

-- ---- one float: its bits tell its sign and its size, and nothing else

-- the bits of n of the format's smallest floats
abbrev bits_of : Format → Bool → ℕ → ℕ
bits_of f s n = let dropped = Ieee.size n - prec f in cond s (top f) 0 + dropped * hid f + n / 2 ^ dropped

value-bits : (f : Format) (x : Float) (s : Bool) (a c : ℕ) → 0 < c → HasValue x s a c
    → to_bits f x ≡ bits_of f s (a * 2 ^ low f / c)
unfolding to_bits
value-bits f (fin u m e) s a c C v =
    let scaled : m * up e * 2 ^ low f * c ≡ a * 2 ^ low f * down e = omega (arith, ap (λ n. n * 2 ^ low f) v.1) in
    rw (v.0, div_same (m * up e * 2 ^ low f) (down e) (a * 2 ^ low f) c (down_pos e) C scaled)
value-bits f nan s a c C v = elim v [ ]
value-bits f (inf _) s a c C v = elim v [ ]

pub value-one : {x y : Float} (s : Bool) (a c : ℕ) → 0 < c → fits binary64 x ≡ true → fits binary64 y ≡ true
    → HasValue x s a c → HasValue y s a c → x ≡ y
value-one {x} {y} s a c C f g v w =
    sym (of_bits-to_bits binary64 x (rw f tt))
    ∙ ap (of_bits binary64) (value-bits binary64 x s a c C v ∙ sym (value-bits binary64 y s a c C w))
    ∙ of_bits-to_bits binary64 y (rw g tt)

pub exactly-one : {x y : Float} {z : ℤ} → Exactly x z → Exactly y z → x ≡ y
exactly-one {z} p q = value-one (is_minus z) (nat_abs z) 256 (lit< tt) p.held q.held p.value q.value

-- ---- its 256ths

module _ (s : Bool) (n : ℕ) where
  pub value-multiple : (x : Float) → HasValue x s n 256 → is_multiple x ≡ true
  unfolding is_multiple
  value-multiple (fin u m e) v =
      eq-eqb (in_units m e % down e) 0 (ap (λ k. k % down e) v.1 ∙ mul-mod_left n (down e))
  value-multiple nan v = elim v [ ]
  value-multiple (inf _) v = elim v [ ]

  pub value-size : (x : Float) → HasValue x s n 256 → size x ≡ n
  unfolding size
  value-size (fin u m e) v = ap (λ k. k / down e) v.1 ∙ mul-div_cancel n (down_pos e)
  value-size nan v = elim v [ ]
  value-size (inf _) v = elim v [ ]

  pub value-minus : (x : Float) → HasValue x s n 256 → has_minus x ≡ s
  unfolding has_minus
  value-minus (fin u m e) v = v.0
  value-minus nan v = elim v [ ]
  value-minus (inf _) v = elim v [ ]

module _ {x : Float} {z : ℤ} (p : Exactly x z) where
  pub exactly-size : size x ≡ nat_abs z
  exactly-size = value-size (is_minus z) (nat_abs z) x p.value

  pub exactly-units : units x ≡ z
  unfolding units
  exactly-units = rw (exactly-size, value-minus (is_minus z) (nat_abs z) x p.value) (whole z)
    where
      whole : (z : ℤ) → signed (is_minus z) (nat_abs z) ≡ z
      whole (pos n) = refl
      whole (negsuc n) = refl

pub multiple-value : (x : Float) → is_multiple x ≡ true → HasValue x (has_minus x) (size x) 256
unfolding is_multiple has_minus size
multiple-value nan h = absurd (false≢true h)
multiple-value (inf s) h = absurd (false≢true h)
multiple-value (fin s m e) h =
    (refl, omega (arith, eqb-true (in_units m e % down e) 0 h, div-add-mod' (in_units m e) (down e)))

pub positive-value : (x : Float) (n : ℕ) → is_multiple x ≡ true → units x ≡ pos n → 0 < n → HasValue x false n 256
unfolding units
positive-value x n h u some = go (has_minus x) (size x) u (multiple-value x h)
  where
    none : 0 ≡ n → ⊥
    none e = omega arith

    go : (s : Bool) (k : ℕ) → signed s k ≡ pos n → HasValue x s k 256 → HasValue x false n 256
    go false k e v = subst (λ m. HasValue x false m 256) (ap nat_abs e) v
    go true zero e v = absurd (none (ap nat_abs e))
    go true (suc k) e v = absurd (false≢true (ap non_neg e))

pub zero-exactly : Exactly (fin false 0 (pos 0)) (pos 0)
unfolding fits
zero-exactly = record { held = refl; value = (refl, refl) }

-- ---- the float of z 256ths

unfoldable pub float_of : ℤ → Float
float_of (pos n) = round binary64 false n 256
float_of (negsuc n) = round binary64 true (suc n) 256

round-held : (s : Bool) (n : ℕ) → fits binary64 (round binary64 s n 256) ≡ true
round-held s n = is_true (fits binary64 (round binary64 s n 256)) (round-fits binary64 s n 256)

pub float-exactly : (z : ℤ) → nat_abs z < 2 ^ 53 → Exactly (float_of z) z
unfolding float_of
float-exactly (pos n) h = record { held = round-held false n; value = whole_float false n h }
float-exactly (negsuc n) h = record { held = round-held true (suc n); value = whole_float true (suc n) h }

-- ---- comparing

-- what `le` tests of two sizes, over 256
abbrev at_most : ℕ → ℕ → Bool
at_most i j = ltb i j || (eqb i j && true)

at-most : (m n : ℕ) → at_most (m * 256) (n * 256) ≡ leb m n
at-most m n = go (side m n)
  where
    go : Side m n → at_most (m * 256) (n * 256) ≡ leb m n
    go (less h) = rw (lt-ltb (m * 256) (n * 256) (omega arith), le-leb m n (omega arith))
    go (equal e) =
        rw (le-leb m n (omega arith), eq-eqb (m * 256) (n * 256) (omega arith))
        (or_right (ltb (m * 256) (n * 256)) refl)
    go (more h) =
        rw (le-ltb (m * 256) (n * 256) (omega arith), ne_eqb (m * 256) (n * 256) (λ e. omega arith), lt-leb m n h)

-- and of two signed ones
compared : (a b : ℤ)
    → below (is_minus a) (nat_abs a * 256) (is_minus b) (nat_abs b * 256)
    || level (is_minus a) (nat_abs a * 256) (is_minus b) (nat_abs b * 256)
    ≡ le_z a b
compared (pos m) (pos n) = at-most m n
compared (pos m) (negsuc n) =
    is_false (level false (m * 256) true (suc n * 256))
    (λ e.
    let both = and-true (eqb (m * 256) (suc n * 256)) (eqb (m * 256) 0) e in
    omega (arith, tests, both.0, both.1))
compared (negsuc m) (pos n) = or_left _ (lt-ltb 0 (suc m * 256 + n * 256) (omega arith))
compared (negsuc m) (negsuc n) =
    rw (eqb_swap (suc m * 256) (suc n * 256)) (at-most (suc n) (suc m) ∙ leb-suc-suc n m)

pub le-exactly : {x y : Float} {a b : ℤ} → Exactly x a → Exactly y b → le x y ≡ le_z a b
le-exactly {x} {y} {a} {b} p q =
    le-value (is_minus a) (is_minus b) (nat_abs a) 256 (nat_abs b) 256 (lit< tt) (lit< tt) x y p.value q.value
    ∙ compared a b

-- ---- the cast to an i64

module _ {x : Float} {z : ℤ} (p : Exactly x z) (small : nat_abs z < 2 ^ 53) where
  pub castable : Castable x
  castable = castable-value (is_minus z) (nat_abs z) 256 (lit< tt) (omega arith) x p.value

  pub cut-exactly : to_signed 63 x ≡ quot_z z (pos 256)
  cut-exactly = cut-value (is_minus z) (nat_abs z) 256 (lit< tt) (omega arith) x p.value ∙ whole z
    where
      whole : (z : ℤ) → signed (is_minus z) (nat_abs z / 256) ≡ quot_z z (pos 256)
      whole (pos n) = refl
      whole (negsuc n) = refl
