-- A common point of two segments from their heights: the arithmetic, in additive form.
--     Read s N w q p     s read at half column p: i past its left end, j before its right end, of width w,
--                        with q * w ≡ N
--     level r            N times the height there
--     meet               two segments level in the mean of two half columns, by weights u and v, have a common point
--     meet-vertical      a vertical segment from at or below another to at or above it has one
-- Assumes nothing.
use mathlib.Core.Path.{◌≡◌, sym, ap, ap₂, ◌∙◌}
use mathlib.Core.Logic.{inl}
use Prim.Native.Nat.{ℕ, ◌+◌, ◌*◌, ◌<◌}
use native.Mathlib.Nat.{eq_of_mul-eq-mul_left, mul-pos, mul_comm}
use native.Mathlib.Omega.{arith}
use Rattle.plane.specs.declared.Segment.{Segment}
use Rattle.plane.specs.Touching.{Touch}

-- s read at half column p, which is i past its left end and j before its right end; w is its width in half columns,
-- and q * w ≡ N
pub record Read (s : Segment) (N w q p : ℕ) : Type 0 where
  pub i : ℕ
  pub j : ℕ
  pub lo : 2 * s.a.x + i ≡ p
  pub hi : p + j ≡ 2 * s.b.x
  pub wide : i + j ≡ w
  pub unit : q * w ≡ N

-- N times the height there
abbrev pub level : {s : Segment} {N w q p : ℕ} → Read s N w q p → ℕ
level {s} {q = q} r = q * (s.a.y * r.j + s.b.y * r.i)

module _ {s : Segment} {N w q p : ℕ} (r : Read s N w q p) where
  -- the column, from its weights
  pub read-x : r.j * (2 * s.a.x) + r.i * (2 * s.b.x) ≡ w * p
  read-x =
      let e : r.j * (2 * s.a.x) + r.i * (2 * s.a.x + r.i + r.j) ≡ (r.i + r.j) * (2 * s.a.x + r.i) =
      omega arith in
      let f : 2 * s.a.x + r.i + r.j ≡ 2 * s.b.x = omega arith in
      ap (λ n. r.j * (2 * s.a.x) + r.i * n) (sym f) ∙ e ∙ ap₂ ◌*◌ r.wide r.lo

-- a point of both, u parts at half column p and v parts at half column k: S and R read s there, T and U read t
module _ {s t : Segment} {N w q z r p k : ℕ} (S : Read s N w q p) (R : Read s N w q k)
    (T : Read t N z r p) (U : Read t N z r k) (u v : ℕ) (pos : 0 < N) where
  one-x : {s : Segment} {w q : ℕ} (m : ℕ) (S : Read s N w q p) (R : Read s N w q k)
      → 2 * ((u * S.j + v * R.j) * m * s.a.x + (u * S.i + v * R.i) * m * s.b.x) ≡ m * w * (u * p + v * k)
  one-x m S R = omega (arith, ap (λ n. m * u * n) (read-x S), ap (λ n. m * v * n) (read-x R))

  one-total : {s : Segment} {w q : ℕ} (m : ℕ) (S : Read s N w q p) (R : Read s N w q k)
      → (u * S.j + v * R.j) * m + (u * S.i + v * R.i) * m ≡ m * w * (u + v)
  one-total m S R = omega (arith, ap (λ n. m * u * n) S.wide, ap (λ n. m * v * n) R.wide)

  one-y : {s : Segment} {w q : ℕ} (m : ℕ) (S : Read s N w q p) (R : Read s N w q k)
      → N * ((u * S.j + v * R.j) * m * s.a.y + (u * S.i + v * R.i) * m * s.b.y)
      ≡ m * w * (u * level S + v * level R)
  one-y {s} {w} {q} m S R =
      ap (λ n. n * ((u * S.j + v * R.j) * m * s.a.y + (u * S.i + v * R.i) * m * s.b.y)) (sym S.unit)
      ∙ omega arith

  pub meet : u * level S + v * level R ≡ u * level T + v * level U
      → 0 < w → 0 < z → 0 < u * S.j + v * R.j → 0 < u * S.i + v * R.i → Touch s t
  meet e hw hz hj hi = record {
    α = (u * S.j + v * R.j) * z;
    β = (u * S.i + v * R.i) * z;
    γ = (u * T.j + v * U.j) * w;
    δ = (u * T.i + v * U.i) * w;
    total = one-total z S R ∙ turn (u + v) ∙ sym (one-total w T U);
    on-x = eq_of_mul-eq-mul_left 2 (omega arith) _ _ (one-x z S R ∙ turn (u * p + v * k) ∙ sym (one-x w T U));
    on-y = eq_of_mul-eq-mul_left N pos _ _
        (one-y z S R ∙ turn (u * level S + v * level R) ∙ ap (λ n. w * z * n) e ∙ sym (one-y w T U));
    inner = inl (mul-pos hj hz, mul-pos hi hz);
  }
    where
      turn : (n : ℕ) → z * w * n ≡ w * z * n
      turn n = ap (λ l. l * n) (mul_comm z w)

-- a vertical t across the inside of s
module _ {s t : Segment} {N w q c : ℕ} (S : Read s N w q (2 * c)) (pos : 0 < N)
    (at_a : t.a.x ≡ c) (at_b : t.b.x ≡ c) (h γ δ : ℕ) (tall : t.a.y + h ≡ t.b.y)
    (low : N * t.a.y + δ ≡ level S) (high : level S + γ ≡ N * t.b.y) where
  pub meet-vertical : 0 < h → 0 < q → 0 < S.i → 0 < S.j → Touch s t
  meet-vertical hh hq hi hj = record {
    α = S.j * (q * h);
    β = S.i * (q * h);
    γ = γ;
    δ = δ;
    total = total;
    on-x = omega (
      arith,
      ap (λ n. q * h * n) (read-x S),
      ap (λ n. h * c * n) S.unit,
      ap (λ n. c * n) total,
      ap (λ n. q * h * c * n) S.wide,
      ap (λ n. γ * n) at_a,
      ap (λ n. δ * n) at_b,
    );
    on-y = omega (arith, ap (λ n. h * n) low, ap (λ n. t.a.y * n) sums, ap (λ n. δ * n) tall);
    inner = inl (mul-pos hj (mul-pos hq hh), mul-pos hi (mul-pos hq hh));
  }
    where
      sums : γ + δ ≡ N * h
      sums = omega (arith, ap (λ n. N * n) tall)

      total : S.j * (q * h) + S.i * (q * h) ≡ γ + δ
      total = omega (arith, sums, ap (λ n. q * h * n) S.wide, ap (λ n. h * n) S.unit)
