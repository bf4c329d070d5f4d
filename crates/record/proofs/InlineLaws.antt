-- Ways in line, in plain numbers: they differ in length, or are one.
--     one_way     two ways in line and of one length are one
-- Assumes nothing.
use mathlib.Core.Path.{◌≡◌, ap}
use mathlib.Core.Logic.{◌⊎◌, inl, inr}
use Prim.Native.Nat.{ℕ, ◌+◌, ◌-◌, ◌*◌, ◌<◌, ◌≤◌}
use native.Mathlib.Nat.{mul-le-mul, mul-le-mul_left, mul-lt-mul_of_pos_left}
use native.Mathlib.Nat.{le_of_mul-le-mul_left, eq_of_mul-eq-mul_left}
use native.Mathlib.Omega.{arith}
use Rattle.counts.proofs.TestLaws.{lt-or-le, Side, less, equal, more, side}
use Rattle.record.specs.Order.{gap}
use Rattle.record.proofs.WayLaws.{Way, Ahead, fore, back, reach, wide-before, goes-up}

-- the wider, and no less high, is the longer
longer : (a b g k : ℕ) → a < b → g ≤ k → a * a + g * g < b * b + k * k
longer a b g k l h =
    let positive : 0 < b = omega arith in
    omega (arith, mul-le-mul_left a l, mul-lt-mul_of_pos_left l positive, mul-le-mul h h)

-- a way and a wider one in line with it: where the first goes up, or down, the other does by no less
module _ (a b u d v e : ℕ) (positive : 0 < a) (l : a < b) (level : a * e + b * u ≡ a * v + b * d) where
  rise : d ≤ u → e + (u - d) ≤ v
  rise h = grow (u - d) (omega arith)
    where
      grow : (g : ℕ) → d + g ≡ u → e + g ≤ v
      grow g f =
          let k : a * (e + g) ≤ a * v = omega (arith, ap (λ n. b * n) f, mul-le-mul_left g l) in
          le_of_mul-le-mul_left k positive

  fall : u ≤ d → v + (d - u) ≤ e
  fall h = grow (d - u) (omega arith)
    where
      grow : (g : ℕ) → u + g ≡ d → v + g ≤ e
      grow g f =
          let k : a * (v + g) ≤ a * e = omega (arith, ap (λ n. b * n) f, mul-le-mul_left g l) in
          le_of_mul-le-mul_left k positive

  further : gap u d ≤ gap v e
  further = by_order (lt-or-le u d)
    where
      by_order : (u < d) ⊎ (d ≤ u) → gap u d ≤ gap v e
      by_order (inl h) = omega (arith, fall (omega arith))
      by_order (inr h) = omega (arith, rise h)

-- of two ways in line the wider is the longer
wider-longer : (w z : Way) → Ahead w → w.wide < z.wide → back w z ≡ fore w z → reach w < reach z
wider-longer w z aw l e =
    let positive : 0 < w.wide = wide-before w z aw (omega arith) (omega arith) in
    let k = further w.wide z.wide w.top w.low z.top z.low positive l e in
    longer w.wide z.wide (gap w.top w.low) (gap z.top z.low) l k

-- a square has one root
root-same : (g k : ℕ) → g * g ≡ k * k → g ≡ k
root-same g k e = by_side (side g k)
  where
    by_side : Side g k → g ≡ k
    by_side (less l) = absurd (omega (arith, longer g k 0 0 l (omega arith)))
    by_side (equal f) = f
    by_side (more l) = absurd (omega (arith, longer k g 0 0 l (omega arith)))

pub one_way : (w z : Way) → Ahead w → Ahead z → back w z ≡ fore w z → reach w ≡ reach z
    → (w.wide ≡ z.wide) × (w.top + z.low ≡ z.top + w.low)
one_way w z aw az e s = by_side (side w.wide z.wide)
  where
    by_width : w.wide ≡ z.wide → Ahead w → w.top + z.low ≡ z.top + w.low
    by_width f (inl p) =
        let k : w.wide * (w.top + z.low) ≡ w.wide * (z.top + w.low) =
        omega (arith, ap (λ n. n * w.top) f, ap (λ n. n * w.low) f)
        in
        eq_of_mul-eq-mul_left w.wide p (w.top + z.low) (z.top + w.low) k
    by_width f (inr h) =
        let up : z.low < z.top = goes-up z az (omega arith) in
        let g : ℕ = gap w.top w.low in
        let k : ℕ = gap z.top z.low in
        omega (arith, root-same g k (omega (arith, ap (λ n. n * n) f)))

    by_side : Side w.wide z.wide → (w.wide ≡ z.wide) × (w.top + z.low ≡ z.top + w.low)
    by_side (less l) = absurd (omega (arith, wider-longer w z aw l e))
    by_side (equal f) = (f, by_width f aw)
    by_side (more l) = absurd (omega (arith, wider-longer z w az l (omega arith)))
