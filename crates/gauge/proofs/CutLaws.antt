-- Why `count_of` is right: a float of size 65,536 at the most times 256 is exact, its whole part is how many 256ths it
-- is with what is left over cut off, and that, as a float again, equals the product exactly if nothing was left over.
--     scale         256, as the code has it
--     castable      the product has a whole part that fits 64 bits
--     counted       where that, as a float, equals the product, x is a multiple of 1/256 and has that many of them
--     left_over     where it does not, x is none
--     uncounted     and what is none is answered so
-- Assumes nothing.
use Rattle.std.proofs.Common.{◌≡◌, ℕ, zero, suc, ◌+◌, ◌-◌, ◌*◌, ◌/◌, ◌%◌, ◌^◌, ◌<◌, ◌≤◌, Bool, true, false, ◌&&◌, ◌||◌}
use Rattle.std.proofs.Common.{T, eqb, ltb, leb, ℤ, pos, negsuc, sym, refl, ap, ◌∙◌, lt_of_lt_of_le, lt_of_le_of_lt}
use Rattle.std.proofs.Common.{lt_irrefl, mul-le-mul_right, mul_assoc, div-add-mod', zero-mul, mul-one, arith, lit<}
use Rattle.std.proofs.Common.{ltb→lt, leb→le, pow_pos, pow_mono, pow-add, shl_lt, w64, to_z, of_z, eq-eqb, ne_eqb}
use Rattle.std.proofs.Common.{eqb-true, le-leb, leb-false, leb-true}
use mathlib.Core.Bool.{and-true, beq}
use native.Mathlib.Nat.{div-le_of_le-mul}
use lib.Pow.{pow-lt}
use lib.Signed.{mag}
use lib.Ieee.{Float, nan, inf, fin, binary64, up, down, fits, level, eq, unlike, mul, round, of_int, to_signed}
use lib.Ieee.Digits.{back}
use lib.Ieee.Fits.{down_pos, and_l, and_r}
use lib.Ieee.Exact.{HasValue, round_exact}
use lib.Ieee.Back.{round_whole}
use borrow.Author.Tests.{eqb-false}
use mir.ValLaws.{to_z-of_z}
use Rattle.gauge.specs.Values.{in_units, size, has_minus, signed, units}
use Rattle.gauge.specs.Cards.{is_zero}
use Rattle.std.specs.Prelude.{Some, None}
use Rattle.gauge.specs.Steps.{count_of}
use Rattle.gauge.proofs.FloatLaws.{eq-value, mul-value, cut-value, Castable, castable-value}
use Rattle.gauge.proofs.RangeLaws.{is_near, zero-near, Within}

abbrev pub scale : Float
scale = fin false 1 (pos 8)

-- ---- times 256 is exact: the digits stay and the exponent moves

-- of a number that fits and is not zero
digits : (s : Bool) (m : ℕ) (e : ℤ) → T (fits binary64 (fin s (suc m) e)) → (suc m < 2 ^ 53) × (down e ≤ 2 ^ 1074)
unfolding fits
digits s m e t =
    let odd = eqb (suc m % 2) 1 in
    let few = ltb (suc m) (2 ^ 53) in
    let fine = leb (down e) (2 ^ 1074) in
    let u = and_l (odd && few && fine) (ltb (suc m * up e) (2 ^ 1024 * down e)) t in (
      ltb→lt (suc m) (2 ^ 53) (and_r odd few (and_l (odd && few) fine u)),
      leb→le (down e) (2 ^ 1074) (and_r (odd && few) fine u),
    )

-- (`omega` takes no numeral as long as these powers, so this goes by hand)
exponent : (d n : ℕ) → 2 ^ d ≤ 2 ^ n → d ≤ n
exponent d n h = go (leb d n) refl
  where
    go : (b : Bool) → leb d n ≡ b → d ≤ n
    go true e = leb-true d n e
    go false e = absurd (lt_irrefl (2 ^ n) (lt_of_lt_of_le (pow-lt (leb-false d n e)) h))

scaled : (s : Bool) (m : ℕ) (e : ℤ) → T (fits binary64 (fin s m e)) → m * up e ≤ 65536 * down e
    → HasValue (round binary64 s (in_units m e) (down e)) s (in_units m e) (down e)
scaled s zero e t h =
    round_exact binary64 s (in_units 0 e) (down e) 0 0 (down_pos e) (lit< tt) (lit< tt)
    (rw (zero-mul (up e)) (sym (zero-mul (down e))))
scaled s (suc m) (pos k) t h =
    round_exact binary64 s (suc m * 2 ^ k * 256) 1 (suc m) (k + 1082) (lit< tt) (digits s m (pos k) t).0
    (rw (pow-add 2 k 1082) (small (suc m) (2 ^ k) h)) (rw (pow-add 2 k 1082) (moved (suc m) (2 ^ k) (2 ^ 1074)))
  where
    small : (a b : ℕ) → a * b ≤ 65536 → a * (b * 2 ^ 1082) < 2 ^ 2098
    small a b l = rw (← mul_assoc a b (2 ^ 1082)) (lt_of_le_of_lt (mul-le-mul_right (2 ^ 1082) l) (lit< tt))

    moved : (a b p : ℕ) → a * b * 256 * p ≡ a * (b * (256 * p)) * 1
    moved a b p = mul_assoc (a * b) 256 p ∙ mul_assoc a b (256 * p) ∙ sym (mul-one (a * (b * (256 * p))))
scaled s (suc m) (negsuc k) t h =
    let d = suc k in
    let l : d ≤ 1074 = exponent d 1074 (digits s m (negsuc k) t).1 in
    let j = 1082 - d in
    let few = (digits s m (negsuc k) t).0 in
    let split : 2 ^ 1082 ≡ 2 ^ j * 2 ^ d = sym (ap (λ z. 2 ^ z) (back 1082 d (omega arith))) ∙ pow-add 2 j d in
    round_exact binary64 s (suc m * 1 * 256) (2 ^ d) (suc m) j (pow_pos d) few
    (lt_of_lt_of_le (shl_lt 53 j few) (pow_mono {i = 53 + j} {j = 2098} (omega arith)))
    (moved (suc m) (2 ^ 1074) ∙ ap (λ z. suc m * z) split ∙ sym (mul_assoc (suc m) (2 ^ j) (2 ^ d)))
  where
    moved : (a p : ℕ) → a * 1 * 256 * p ≡ a * (256 * p)
    moved a p = rw (mul-one a) (mul_assoc a 256 p)

-- ---- the product of a number within the range

module _ (s : Bool) (m : ℕ) (e : ℤ) (t : T (fits binary64 (fin s m e))) (h : m * up e ≤ 65536 * down e) where
  abbrev x : Float
  x = fin s m e

  abbrev n : ℕ
  n = in_units m e

  times : HasValue (mul binary64 x scale) s n (down e)
  times =
      rw (
        mul-value s false (m * up e) (down e) 256 1 (down_pos e) (lit< tt) binary64 x scale (refl, refl) (refl, refl),
        same_sign s,
        mul-one (down e),
      )
      (scaled s m e t h)
    where
      same_sign : (s : Bool) → unlike s false ≡ s
      same_sign true = refl
      same_sign false = refl

  few : n / down e ≤ 16777216
  few = div-le_of_le-mul (down e) (omega (arith, h))

  castable-number : Castable (mul binary64 x scale)
  castable-number =
      castable-value s n (down e) (down_pos e) (omega (arith, h, down_pos e)) (mul binary64 x scale) times

  cut-number : to_signed 63 (mul binary64 x scale) ≡ units x
  unfolding units size has_minus
  cut-number = cut-value s n (down e) (down_pos e) (omega (arith, few)) (mul binary64 x scale) times

-- ---- back to a float: its sign, but for 0

sign_of : Bool → ℕ → Bool
sign_of s zero = false
sign_of s (suc k) = s

whole-value : (s : Bool) (k : ℕ) → k ≤ 2 ^ 53 → HasValue (of_int binary64 (signed s k)) (sign_of s k) k 1
unfolding of_int sign_of
whole-value true zero h = round_whole binary64 false 0 h
whole-value true (suc k) h = round_whole binary64 true (suc k) h
whole-value false zero h = round_whole binary64 false 0 h
whole-value false (suc k) h = round_whole binary64 false (suc k) h

signs : (s : Bool) (k d : ℕ) → (beq (sign_of s k) s || eqb (k * d) 0) ≡ true
unfolding sign_of
signs false zero d = refl
signs true zero d = eq-eqb (0 * d) 0 (zero-mul d)
signs false (suc k) d = refl
signs true (suc k) d = refl

-- n over d: the quotient times d is n exactly if nothing is left
level-rest : (s : Bool) (n d : ℕ) → level (sign_of s (n / d)) (n / d * d) s (n * 1) ≡ eqb (n % d) 0
level-rest s n d = go (eqb (n % d) 0) refl
  where
    go : (b : Bool) → eqb (n % d) 0 ≡ b → level (sign_of s (n / d)) (n / d * d) s (n * 1) ≡ b
    go true e =
        let all = eq-eqb (n / d * d) (n * 1) (omega (arith, eqb-true (n % d) 0 e, div-add-mod' n d)) in
        rw (all, signs s (n / d) d)
    go false e = rw (ne_eqb (n / d * d) (n * 1) (λ i. eqb-false (n % d) 0 e (omega (arith, i, div-add-mod' n d))))

-- ---- of any x that fits and is within the range

pub castable : (x : Float) → fits binary64 x ≡ true → Within x → Castable (mul binary64 x scale)
castable (fin s m e) t w = castable-number s m e (rw t tt) w
castable nan t w = elim w [ ]
castable (inf _) t w = elim w [ ]

cut-units : (x : Float) → fits binary64 x ≡ true → Within x → to_signed 63 (mul binary64 x scale) ≡ units x
cut-units (fin s m e) t w = cut-number s m e (rw t tt) w
cut-units nan t w = elim w [ ]
cut-units (inf _) t w = elim w [ ]

level-near : (x : Float) → fits binary64 x ≡ true → Within x
    → eq (of_int binary64 (units x)) (mul binary64 x scale) ≡ is_near x
unfolding units is_near
level-near (fin s m e) t w =
    let n = in_units m e in
    let q = n / down e in
    let l : q ≤ 16777216 = few s m e (rw t tt) w in
    eq-value (sign_of s q) s q 1 n (down e) (lit< tt) (down_pos e) (of_int binary64 (signed s q))
    (mul binary64 (fin s m e) scale) (whole-value s q (omega (arith, l))) (times s m e (rw t tt) w)
    ∙ level-rest s n (down e)
    ∙ rw (le-leb q 16777216 l) (sym (and-true (eqb (n % down e) 0)))
level-near nan t w = elim w [ ]
level-near (inf _) t w = elim w [ ]

-- r is what the cast to 64 bits gave, and y its float again
module _ (x : Float) (t : fits binary64 x ≡ true) (w : Within x)
    (r : ℤ) (small : mag r < 2 ^ 63) (cut : r ≡ to_signed 63 (mul binary64 x scale))
    (y : Float) (float : y ≡ of_int binary64 (to_z w64 (of_z w64 r))) where
  kept : to_z w64 (of_z w64 r) ≡ units x
  kept = to_z-of_z w64 r (record { sfits = small }) ∙ cut ∙ cut-units x t w

  verdict : (b : Bool) → eq y (mul binary64 x scale) ≡ b → is_zero x ≡ b
  verdict b h = zero-near x ∙ sym (level-near x t w) ∙ rw (← kept, ← float) h

  pub counted : eq y (mul binary64 x scale) ≡ true → count_of x ≡ Some (to_z w64 (of_z w64 r))
  unfolding count_of
  counted h = rw (verdict true h) (ap Some (sym kept))

  pub left_over : eq y (mul binary64 x scale) ≡ false → is_zero x ≡ false
  left_over h = verdict false h

pub uncounted : (x : Float) → is_zero x ≡ false → count_of x ≡ None
unfolding count_of
uncounted x h = rw h refl
