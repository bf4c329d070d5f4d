-- Rust's operators on floats, by any fractions that the operands equal. `HasValue x s a c` (lib.Ieee.Exact) says that
-- x is a number, has a minus sign where s is true, and is a / c in size.
--     lt-value, le-value, eq-value    x < y, x <= y and x == y compare the two fractions, over one denominator
--     mul-value                       x * y is the product of the two fractions, rounded
--     sub-value                       x - y is the difference of two fractions over one denominator, rounded
--     cut-value                       x as an i64 is the whole part of the fraction, where that is in range
--     Castable, castable-value        and it is, where the fraction is below 2 ^ 63
--     whole_float                     n 256ths are a float, if n is below 2 ^ 53
-- Assumes nothing.
use Rattle.std.proofs.Common.{◌≡◌, ℕ, ◌+◌, ◌-◌, ◌*◌, ◌/◌, ◌^◌, ◌<◌, ◌≤◌, min, Bool, true, false, not, ◌&&◌, ◌||◌, T}
use Rattle.std.proofs.Common.{eqb, ltb, ℤ, pos, sym, refl, ap, ◌∙◌, ap₂, lt_of_lt_of_le, mul_assoc}
use Rattle.std.proofs.Common.{lt_of_mul-lt-mul_right, mul-lt-mul_of_pos_right, mul-pos, arith, lit<, lit≤, pow_mono}
use Rattle.std.proofs.Common.{shl_lt, ltb-true, lt-ltb, eq-eqb, eqb-true}
use native.Mathlib.Nat.{mul-sub}
use native.Mathlib.Nat.{eq_of_mul-eq-mul_right}
use lib.Ieee.{Float, nan, inf, fin, Format, binary64, up, down, below, level, unlike}
use lib.Ieee.{lt, le, eq, neg, add, sub, sum, mul, round, to_signed}
use lib.Ieee.Fits.{down_pos}
use lib.Ieee.Exact.{HasValue, round_exact}
use lib.Ieee.Nearest.{div_same}
use lib.Ieee.Scale.{round_same}
use Rattle.counts.proofs.TestLaws.{or_left, same_test}
use Rattle.gauge.specs.Values.{signed}

-- ---- tests and sums see only the fractions

-- A / L and B / L are A' / K and B' / K
record Same (A B L A' B' K : ℕ) : Type 0 where
  left : 0 < L
  right : 0 < K
  first : A * K ≡ A' * L
  second : B * K ≡ B' * L

module _ {A B L A' B' K : ℕ} (r : Same A B L A' B' K) where
  turned : Same A' B' K A B L
  turned = record { left = r.right; right = r.left; first = sym r.first; second = sym r.second }

  swapped : Same B A L B' A' K
  swapped = record { left = r.left; right = r.right; first = r.second; second = r.first }

  summed : (A + B) * K ≡ (A' + B') * L
  summed = omega (arith, r.first, r.second)

  subtracted : (A - B) * K ≡ (A' - B') * L
  subtracted = omega (arith, r.first, r.second, mul-sub K A B, mul-sub L A' B')

  first-and-zero : Same A 0 L A' 0 K
  first-and-zero = record { left = r.left; right = r.right; first = r.first; second = omega arith }

  zero-and-sum : Same 0 (A + B) L 0 (A' + B') K
  zero-and-sum = record { left = r.left; right = r.right; first = omega arith; second = summed }

  lower : A < B → A' < B'
  lower h = lt_of_mul-lt-mul_right L (omega (arith, r.first, r.second, mul-lt-mul_of_pos_right h r.right))

  equal : A ≡ B → A' ≡ B'
  equal e = eq_of_mul-eq-mul_right L r.left A' B' (sym r.first ∙ ap (λ n. n * K) e ∙ r.second)

module _ {A B L A' B' K : ℕ} (r : Same A B L A' B' K) where
  same-ltb : ltb A B ≡ ltb A' B'
  same-ltb =
      same_test (ltb A B) (ltb A' B')
      (λ e. lt-ltb A' B' (lower r (ltb-true A B e)))
      (λ e. lt-ltb A B (lower (turned r) (ltb-true A' B' e)))

  same-eqb : eqb A B ≡ eqb A' B'
  same-eqb =
      same_test (eqb A B) (eqb A' B')
      (λ e. eq-eqb A' B' (equal r (eqb-true A B e)))
      (λ e. eq-eqb A B (equal (turned r) (eqb-true A' B' e)))

module _ (s t : Bool) {A B L A' B' K : ℕ} (r : Same A B L A' B' K) where
  same-below : below s A t B ≡ below s A' t B'
  same-below = go s t
    where
      go : (s t : Bool) → below s A t B ≡ below s A' t B'
      go false false = same-ltb r
      go false true = refl
      go true false = same-ltb (zero-and-sum r)
      go true true = same-ltb (swapped r)

  same-level : level s A t B ≡ level s A' t B'
  same-level = rw (same-eqb r, same-eqb (first-and-zero r))

  same_sum : (f : Format) → sum f s A t B L ≡ sum f s A' t B' K
  unfolding sum
  same_sum f = rw (
    same-ltb r,
    same-ltb (swapped r),
    round_same f s (A + B) L (A' + B') K r.left r.right (summed r),
    round_same f t (B - A) L (B' - A') K r.left r.right (subtracted (swapped r)),
    round_same f (s && ltb B' A') (A - B) L (A' - B') K r.left r.right (subtracted r),
  )

-- ---- the operators

-- what holds of every two numbers `fin s m e` and `fin t n g` that equal a / c and b / d holds of any two such floats
module _ (s t : Bool) (a c b d : ℕ) (P : Float → Float → Type 0) where
  abbrev OfNumbers : Type 0
  OfNumbers =
      (m : ℕ) (e : ℤ) (n : ℕ) (g : ℤ)
      → m * up e * c ≡ a * down e → n * up g * d ≡ b * down g → P (fin s m e) (fin t n g)

  of-numbers : OfNumbers → (x y : Float) → HasValue x s a c → HasValue y t b d → P x y
  of-numbers h (fin u m e) (fin r n g) v w = rw (v.0, w.0) (h m e n g v.1 w.1)
  of-numbers h nan y v w = elim v [ ]
  of-numbers h (inf _) y v w = elim v [ ]
  of-numbers h (fin u m e) nan v w = elim w [ ]
  of-numbers h (fin u m e) (inf _) v w = elim w [ ]

module _ (s t : Bool) (a c b d : ℕ) (C : 0 < c) (D : 0 < d) where
  crossed : (m : ℕ) (e : ℤ) (n : ℕ) (g : ℤ) → m * up e * c ≡ a * down e → n * up g * d ≡ b * down g
      → Same (m * up e * down g) (n * up g * down e) (down e * down g) (a * d) (b * c) (c * d)
  crossed m e n g v w = record {
    left = mul-pos (down_pos e) (down_pos g);
    right = mul-pos C D;
    first = omega (arith, ap (λ k. k * (down g * d)) v);
    second = omega (arith, ap (λ k. k * (down e * c)) w);
  }

  pub lt-value : (x y : Float) → HasValue x s a c → HasValue y t b d → lt x y ≡ below s (a * d) t (b * c)
  unfolding lt
  lt-value =
      of-numbers s t a c b d (λ x y. lt x y ≡ below s (a * d) t (b * c))
      (λ m e n g v w. same-below s t (crossed m e n g v w))

  pub eq-value : (x y : Float) → HasValue x s a c → HasValue y t b d → eq x y ≡ level s (a * d) t (b * c)
  unfolding eq
  eq-value =
      of-numbers s t a c b d (λ x y. eq x y ≡ level s (a * d) t (b * c))
      (λ m e n g v w. same-level s t (crossed m e n g v w))

  pub le-value : (x y : Float) → HasValue x s a c → HasValue y t b d
      → le x y ≡ below s (a * d) t (b * c) || level s (a * d) t (b * c)
  unfolding le
  le-value x y v w = ap₂ ◌||◌ (lt-value x y v w) (eq-value x y v w)

  pub mul-value : (f : Format) (x y : Float) → HasValue x s a c → HasValue y t b d
      → mul f x y ≡ round f (unlike s t) (a * b) (c * d)
  unfolding mul
  mul-value f =
      of-numbers s t a c b d (λ x y. mul f x y ≡ round f (unlike s t) (a * b) (c * d))
      (λ m e n g v w.
      round_same f (unlike s t) (m * up e * (n * up g)) (down e * down g) (a * b) (c * d)
      (mul-pos (down_pos e) (down_pos g)) (mul-pos C D) (omega (arith, ap₂ ◌*◌ v w)))

module _ (s t : Bool) (a b c : ℕ) (C : 0 < c) where
  over : (m : ℕ) (e : ℤ) (n : ℕ) (g : ℤ) → m * up e * c ≡ a * down e → n * up g * c ≡ b * down g
      → Same (m * up e * down g) (n * up g * down e) (down e * down g) a b c
  over m e n g v w = record {
    left = mul-pos (down_pos e) (down_pos g);
    right = C;
    first = omega (arith, ap (λ k. k * down g) v);
    second = omega (arith, ap (λ k. k * down e) w);
  }

  add-value : (f : Format) (x y : Float) → HasValue x s a c → HasValue y t b c → add f x y ≡ sum f s a t b c
  unfolding add
  add-value f =
      of-numbers s t a c b c (λ x y. add f x y ≡ sum f s a t b c) (λ m e n g v w. same_sum s t (over m e n g v w) f)

neg_value : (s : Bool) (a c : ℕ) (x : Float) → HasValue x s a c → HasValue (neg x) (not s) a c
unfolding neg
neg_value s a c (fin u m e) v = (ap not v.0, v.1)
neg_value s a c nan v = elim v [ ]
neg_value s a c (inf _) v = elim v [ ]

pub sub-value : (s t : Bool) (a b c : ℕ) → 0 < c → (f : Format) (x y : Float) → HasValue x s a c → HasValue y t b c
    → sub f x y ≡ sum f s a (not t) b c
unfolding sub
sub-value s t a b c C f x y v w = add-value s (not t) a b c C f x (neg y) v (neg_value t b c y w)

-- ---- the cast to an i64

min-left : (n m : ℕ) → n ≤ m → min n m ≡ n
min-left n m h = omega arith

pub cut-value : (s : Bool) (a c : ℕ) → 0 < c → a / c < 2 ^ 63 → (x : Float) → HasValue x s a c
    → to_signed 63 x ≡ signed s (a / c)
unfolding to_signed
cut-value s a c C h (fin u m e) v =
    let quotient : m * up e / down e ≡ a / c = div_same (m * up e) (down e) a c (down_pos e) C v.1 in
    rw (v.0, quotient, min-left (a / c) (2 ^ 63) (omega arith), min-left (a / c) (2 ^ 63 - 1) (omega arith))
cut-value s a c C h nan v = elim v [ ]
cut-value s a c C h (inf _) v = elim v [ ]

-- what the cast without a fraction asks for
abbrev pub Castable : Float → Type 0
Castable x = T (le (fin true 1 (pos 63)) x) × T (lt x (fin false 1 (pos 63)))

pub castable-value : (s : Bool) (a c : ℕ) → 0 < c → a < 2 ^ 63 * c → (x : Float) → HasValue x s a c → Castable x
unfolding le
castable-value s a c C h x v = (
  holds (or_left _ (lt-value true s (2 ^ 63) 1 a c (lit< tt) C (fin true 1 (pos 63)) x (refl, refl) v ∙ above s)),
  holds (lt-value s false a c (2 ^ 63) 1 C (lit< tt) x (fin false 1 (pos 63)) v (refl, refl) ∙ under s),
)
  where
    holds : {b : Bool} → b ≡ true → T b
    holds e = rw e tt

    above : (s : Bool) → below true (2 ^ 63 * c) s (a * 1) ≡ true
    above true = lt-ltb (a * 1) (2 ^ 63 * c) (omega arith)
    above false = lt-ltb 0 (2 ^ 63 * c + a * 1) (omega arith)

    under : (s : Bool) → below s (a * 1) false (2 ^ 63 * c) ≡ true
    under true = lt-ltb 0 (a * 1 + 2 ^ 63 * c) (omega arith)
    under false = lt-ltb (a * 1) (2 ^ 63 * c) (omega arith)

-- ---- n 256ths are n * 2 ^ 1066 times the smallest float, 2 ^ -1074

pub whole_float : (s : Bool) (n : ℕ) → n < 2 ^ 53 → HasValue (round binary64 s n 256) s n 256
whole_float s n h =
    round_exact binary64 s n 256 n 1066 (lit< tt) h
    (lt_of_lt_of_le (shl_lt 53 1066 h) (pow_mono {i = 1119} {j = 2098} (lit≤ tt)))
    (sym (mul_assoc n (2 ^ 1066) 256))
