-- How far the products, the sums and the determinant reach at points of the grid, whose coordinates are below 65,536.
--     OnGrid p             p is such a point
--     product-range        a product of two coordinates is at most 65,535 * 65,535
--     product-fits         so it fits 64 bits
--     thrice-fits          and so do two such products by a third coordinate
--     determinant-range    plus and minus differ by at most 65,535 * 65,535, the area of the grid's box
-- Assumes nothing.
use Prim.Native.Nat.{ℕ, ◌+◌, ◌-◌, ◌*◌, ◌≤◌, ◌<◌}
use mathlib.Core.Path.{◌≡◌, ap}
use mathlib.Core.Logic.{◌⊎◌, inl, inr, ⊎_elim}
use native.Mathlib.Nat.{mul-le-mul, mul-le-mul_left, le_of_lt, le_trans}
use native.Mathlib.Omega.{arith}
use Rattle.counts.proofs.TestLaws.{lt-or-le}
use Rattle.plane.specs.declared.Point.{Point}
use Rattle.plane.specs.Turns.{plus, minus, largest_product}

pub record OnGrid (p : Point) : Type 0 where
  pub x-small : p.x < 65536
  pub y-small : p.y < 65536

pub product-range : (a b : ℕ) → a < 65536 → b < 65536 → a * b ≤ largest_product
product-range a b h k = mul-le-mul {n₂ = 65535} {m₂ = 65535} (omega arith) (omega arith)

-- so a product fits 64 bits, where signed 32 are too few
pub product-fits : (a b : ℕ) → a < 65536 → b < 65536 → a * b < 18446744073709551616
product-fits a b h k = omega (arith, product-range a b h k)

pub thrice-fits : (m w : ℕ) → m ≤ 2 * largest_product → w < 65536 → m * w < 18446744073709551616
thrice-fits m w h k =
    omega (arith, mul-le-mul {m₁ = w} {n₂ = 2 * largest_product} {m₂ = 65535} h (omega arith))

le-or-ge : (m n : ℕ) → (m ≤ n) ⊎ (n ≤ m)
le-or-ge m n = ⊎_elim (λ l. inl (le_of_lt l)) (λ l. inr l) (lt-or-le m n)

-- k * (m - n) ≤ 65535 * (m - n), with no difference taken
stretch : (k m n : ℕ) → k < 65536 → n ≤ m → k * m + 65535 * n ≤ k * n + 65535 * m
stretch k m n small h =
    let whole : 65535 - k + k ≡ 65535 = omega arith in
    omega (arith, mul-le-mul_left (65535 - k) h, ap (λ x. x * m) whole, ap (λ x. x * n) whole)

-- The points are (a, b), (c, d) and (e, f), and the first is the lowest: their turn is a * (d - f) + c * (f - b) less
-- e * (d - b). The last only takes away. The first takes away too, or else the two stretch from b up to d.
first-lowest : (a b c d e f : ℕ) → a < 65536 → c < 65536 → d < 65536 → f < 65536 → b ≤ d → b ≤ f
    → a * d + c * f + e * b ≤ b * c + d * e + f * a + largest_product
first-lowest a b c d e f a_small c_small d_small f_small bd bf = by_height (le-or-ge d f)
  where
    by_height : (d ≤ f) ⊎ (f ≤ d) → a * d + c * f + e * b ≤ b * c + d * e + f * a + largest_product
    by_height (inl df) = omega (arith, mul-le-mul_left a df, stretch c f b c_small bf, mul-le-mul_left e bd)
    by_height (inr fd) = omega (arith, stretch a d f a_small fd, stretch c f b c_small bf, mul-le-mul_left e bd)

-- a turn of the three points changes neither sum, so that any of them may be the lowest
plus-near : (p q r : Point) → OnGrid p → OnGrid q → OnGrid r → plus p q r ≤ minus p q r + largest_product
plus-near p q r f g h = by-lowest (le-or-ge p.y q.y) (le-or-ge q.y r.y) (le-or-ge r.y p.y)
  where
    from : (p q r : Point) → OnGrid p → OnGrid q → OnGrid r → p.y ≤ q.y → p.y ≤ r.y
        → plus p q r ≤ minus p q r + largest_product
    from p q r f g h =
        first-lowest p.x p.y q.x q.y r.x r.y f.x-small g.x-small g.y-small h.y-small

    by-lowest : (p.y ≤ q.y) ⊎ (q.y ≤ p.y) → (q.y ≤ r.y) ⊎ (r.y ≤ q.y) → (r.y ≤ p.y) ⊎ (p.y ≤ r.y)
        → plus p q r ≤ minus p q r + largest_product
    by-lowest (inl pq) o (inr pr) = from p q r f g h pq pr
    by-lowest (inl pq) o (inl rp) = omega (arith, from r p q h f g rp (le_trans rp pq))
    by-lowest (inr qp) (inl qr) o = omega (arith, from q r p g h f qr qp)
    by-lowest (inr qp) (inr rq) o = omega (arith, from r p q h f g (le_trans rq qp) rq)

pub determinant-range : (p q r : Point) → OnGrid p → OnGrid q → OnGrid r
    → (plus p q r ≤ minus p q r + largest_product) × (minus p q r ≤ plus p q r + largest_product)
determinant-range p q r f g h = (plus-near p q r f g h, omega (arith, plus-near q p r g f h))
