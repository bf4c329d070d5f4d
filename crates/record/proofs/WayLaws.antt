-- Ways that start at one corner and all go to one side of it: how they turn onto each other, in plain numbers.
-- A way is known by how far it goes across, and by two heights whose difference is how far it goes up.
--     Way                 wide, how far across; top and low, so that it goes up by top less low
--     Ahead w             it goes across, or else straight up: a half of the plane, with one end of its edge
--     fore w z, back w z  the determinant of w and z is fore less back
--     reach w             the square of its length
--     Leading w z m n     w turns counter-clockwise onto z, or lies in line with it and m < n
--     wide-before, goes-up    a way that leads one that goes across goes across; a way of width 0 goes up
--     leading-trans       through a third way
-- Assumes nothing.
use mathlib.Core.Path.{◌≡◌, ap}
use mathlib.Core.Logic.{◌⊎◌, inl, inr}
use Prim.Native.Nat.{ℕ, ◌+◌, ◌*◌, ◌<◌, ◌≤◌}
use native.Mathlib.Nat.{mul-le-mul_left, mul-lt-mul_of_pos_left, le_of_mul-le-mul_left}
use native.Mathlib.Omega.{arith}
use Rattle.counts.proofs.TestLaws.{lt-or-le}
use Rattle.record.specs.Order.{gap}

pub record Way : Type 0 where
  pub wide : ℕ
  pub top : ℕ
  pub low : ℕ

abbrev pub Ahead : Way → Type 0
Ahead w = (0 < w.wide) ⊎ ((w.wide ≡ 0) × (w.low < w.top))

abbrev pub fore : Way → Way → ℕ
fore w z = w.wide * z.top + z.wide * w.low

abbrev pub back : Way → Way → ℕ
back w z = w.wide * z.low + z.wide * w.top

abbrev pub reach : Way → ℕ
reach w = w.wide * w.wide + gap w.top w.low * gap w.top w.low

abbrev pub Leading : Way → Way → ℕ → ℕ → Type 0
Leading w z m n = (back w z < fore w z) ⊎ ((back w z ≡ fore w z) × (m < n))

-- ---- through a third way

-- both turns weighed by the outer widths: the middle way falls out, but for its width b
weigh : (a u d b v e c w f : ℕ) → a * e + b * u ≤ a * v + b * d → b * f + c * v ≤ b * w + c * e
    → b * (a * f + c * u) ≤ b * (a * w + c * d)
weigh a u d b v e c w f h g = omega (arith, mul-le-mul_left c h, mul-le-mul_left a g)

-- a way that goes across is led only by ways that go across
pub wide-before : (w z : Way) → Ahead w → 0 < z.wide → back w z ≤ fore w z → 0 < w.wide
wide-before w z (inl h) p g = h
wide-before w z (inr h) p g =
    omega (
      arith,
      mul-lt-mul_of_pos_left h.1 p,
      ap (λ n. n * z.top) h.0,
      ap (λ n. n * z.low) h.0,
    )

-- a way straight up leads none that goes across
wide-after : (z q : Way) → z.wide ≡ 0 → z.low < z.top → back z q ≤ fore z q → q.wide ≡ 0
wide-after z q e l g = by_width (lt-or-le 0 q.wide)
  where
    by_width : (0 < q.wide) ⊎ (q.wide ≤ 0) → q.wide ≡ 0
    by_width (inl p) =
        omega (arith, mul-lt-mul_of_pos_left l p, ap (λ n. n * q.top) e, ap (λ n. n * q.low) e)
    by_width (inr p) = omega arith

-- two ways straight up are in line
both-up : (w z : Way) → w.wide ≡ 0 → z.wide ≡ 0 → back w z ≡ fore w z
both-up w z e f =
    omega (
      arith,
      ap (λ n. n * z.top) e,
      ap (λ n. n * z.low) e,
      ap (λ n. n * w.top) f,
      ap (λ n. n * w.low) f,
    )

-- onto a way straight up every way turns counter-clockwise or lies in line; in line only where it goes straight up too
onto-up : (w q : Way) → q.wide ≡ 0 → q.low < q.top → back w q ≤ fore w q
onto-up w q e l =
    omega (arith, mul-le-mul_left w.wide l, ap (λ n. n * w.top) e, ap (λ n. n * w.low) e)

onto-up-level : (w q : Way) → q.wide ≡ 0 → q.low < q.top → fore w q ≤ back w q → w.wide ≡ 0
onto-up-level w q e l g = by_width (lt-or-le 0 w.wide)
  where
    by_width : (0 < w.wide) ⊎ (w.wide ≤ 0) → w.wide ≡ 0
    by_width (inl p) =
        omega (arith, mul-lt-mul_of_pos_left l p, ap (λ n. n * w.top) e, ap (λ n. n * w.low) e)
    by_width (inr p) = omega arith

-- a way of width 0 that is ahead goes up
pub goes-up : (w : Way) → Ahead w → w.wide ≡ 0 → w.low < w.top
goes-up w (inl h) e = omega arith
goes-up w (inr h) e = h.1

module _ (w z q : Way) (aw : Ahead w) (az : Ahead z) (aq : Ahead q)
    (h : back w z ≤ fore w z) (g : back z q ≤ fore z q) where
  -- counter-clockwise or in line, twice: so from the first onto the third
  turn-trans : back w q ≤ fore w q
  turn-trans = by-middle az
    where
      by-middle : Ahead z → back w q ≤ fore w q
      by-middle (inl p) =
          let k = weigh w.wide w.top w.low z.wide z.top z.low q.wide q.top q.low h g in
          le_of_mul-le-mul_left k p
      by-middle (inr m) =
          let e = wide-after z q m.0 m.1 g in
          onto-up w q e (goes-up q aq e)

  -- where the first and the third are in line, so are both with the middle one
  level-trans : fore w q ≤ back w q → (fore w z ≤ back w z) × (fore z q ≤ back z q)
  level-trans l = by-middle az
    where
      by-widths : 0 < z.wide → 0 < w.wide → (0 < q.wide) ⊎ (q.wide ≤ 0)
          → (back w z < fore w z) ⊎ (fore w z ≤ back w z) → (back z q < fore z q) ⊎ (fore z q ≤ back z q)
          → (fore w z ≤ back w z) × (fore z q ≤ back z q)
      by-widths p a c (inr x) (inr y) = (x, y)
      by-widths p a c x (inl y) =
          let turned = mul-lt-mul_of_pos_left y a in
          absurd (omega (arith, mul-le-mul_left z.wide l, mul-le-mul_left q.wide h, turned))
      by-widths p a (inl c) (inl x) (inr y) =
          let turned = mul-lt-mul_of_pos_left x c in
          absurd (omega (arith, mul-le-mul_left z.wide l, turned, mul-le-mul_left w.wide g))
      by-widths p a (inr c) (inl x) (inr y) =
          let e : q.wide ≡ 0 = omega arith in
          let n : w.wide ≡ 0 = onto-up-level w q e (goes-up q aq e) l in
          absurd (omega arith)

      by-middle : Ahead z → (fore w z ≤ back w z) × (fore z q ≤ back z q)
      by-middle (inl p) =
          let first = lt-or-le (back w z) (fore w z) in
          let second = lt-or-le (back z q) (fore z q) in
          by-widths p (wide-before w z aw p h) (lt-or-le 0 q.wide) first second
      by-middle (inr m) =
          let e : q.wide ≡ 0 = wide-after z q m.0 m.1 g in
          let n : w.wide ≡ 0 = onto-up-level w q e (goes-up q aq e) l in
          (omega (arith, both-up w z n m.0), omega (arith, both-up z q m.0 e))

-- a way that leads turns so, or is in line
leading-turn : (w z : Way) (m n : ℕ) → Leading w z m n → back w z ≤ fore w z
leading-turn w z m n (inl h) = omega arith
leading-turn w z m n (inr h) = omega arith

-- and where it is in line, it is the shorter
leading-level : (w z : Way) (m n : ℕ) → Leading w z m n → fore w z ≤ back w z → m < n
leading-level w z m n (inl h) l = absurd (omega arith)
leading-level w z m n (inr h) l = h.1

pub leading-trans : (w z q : Way) (m n k : ℕ) → Ahead w → Ahead z → Ahead q
    → Leading w z m n → Leading z q n k → Leading w q m k
leading-trans w z q m n k aw az aq x y = by_turn (lt-or-le (back w q) (fore w q))
  where
    h : back w z ≤ fore w z
    h = leading-turn w z m n x

    g : back z q ≤ fore z q
    g = leading-turn z q n k y

    by_turn : (back w q < fore w q) ⊎ (fore w q ≤ back w q) → Leading w q m k
    by_turn (inl t) = inl t
    by_turn (inr t) =
        let s = level-trans w z q aw az aq h g t in
        let first : m < n = leading-level w z m n x s.0 in
        let second : n < k = leading-level z q n k y s.1 in
        inr (omega (arith, turn-trans w z q aw az aq h g), omega arith)
