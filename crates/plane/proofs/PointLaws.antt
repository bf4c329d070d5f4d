-- What the tests on points say, and that `before` orders them.
--     same_true, same_refl                               `same` is equality
--     is_segment-true, is_segment-refl                   so is `is_segment`
--     Before p q, before-true, before-intro              `before` as a statement, both ways
--     before-irrefl, before-trans, before-once           no point before itself; through a third point; not both ways
--     trichotomy                                         of two points one is before the other, or they are one
--     not-before-trans                                   not smaller, through a third point
-- Assumes nothing.
use mathlib.Core.Path.{◌≡◌, refl, sym, ap, ◌∙◌}
use mathlib.Core.Logic.{◌⊎◌, inl, inr}
use mathlib.Core.Bool.{true, false, ◌&&◌, true≢false}
use Prim.Native.Nat.{◌<◌}
use lib.Dec.{ltb, eqb}
use native.Mathlib.Decide.{dec_lt}
use native.Mathlib.Omega.{arith}
use borrow.Author.Tests.{ltb-true, lt-ltb, eqb-true, eq-eqb}
use Rattle.counts.proofs.TestLaws.{and-true, and_intro, or-true, or_left, or_right, is_false}
use Rattle.plane.specs.declared.Point.{Point}
use Rattle.plane.specs.declared.Segment.{Segment}
use Rattle.plane.specs.Points.{before, same, is_segment}

pub same_true : (p q : Point) → same p q ≡ true → p ≡ q
same_true p q e =
    let h = and-true _ _ e in
    let x = eqb-true _ _ h.0 in
    let y = eqb-true _ _ h.1 in
    λ i. record { x = x i; y = y i }

pub same_refl : (p : Point) → same p p ≡ true
same_refl p = and_intro (eq-eqb p.x p.x refl) (eq-eqb p.y p.y refl)

pub is_segment-true : (s t : Segment) → is_segment s t ≡ true → t ≡ s
is_segment-true s t e =
    let h = and-true _ _ e in
    let a = same_true _ _ h.0 in
    let b = same_true _ _ h.1 in
    λ i. record { a = a i; b = b i }

pub is_segment-refl : (s : Segment) → is_segment s s ≡ true
is_segment-refl s = and_intro (same_refl s.a) (same_refl s.b)

abbrev pub Before : Point → Point → Type 0
Before p q = (p.x < q.x) ⊎ ((p.x ≡ q.x) × (p.y < q.y))

pub before-true : (p q : Point) → before p q ≡ true → Before p q
before-true p q e = go (or-true _ _ e)
  where
    go : (ltb p.x q.x ≡ true) ⊎ (eqb p.x q.x && ltb p.y q.y ≡ true) → Before p q
    go (inl h) = inl (ltb-true _ _ h)
    go (inr h) = let g = and-true _ _ h in inr (eqb-true _ _ g.0, ltb-true _ _ g.1)

pub before-intro : (p q : Point) → Before p q → before p q ≡ true
before-intro p q (inl h) = or_left _ (lt-ltb _ _ h)
before-intro p q (inr h) =
    or_right (ltb p.x q.x) (and_intro (eq-eqb p.x q.x h.0) (lt-ltb p.y q.y h.1))

pub before-irrefl : (p : Point) → before p p ≡ true → ⊥
before-irrefl p e = go (before-true p p e)
  where
    go : Before p p → ⊥
    go (inl h) = omega arith
    go (inr h) = omega arith

pub before-trans : (p q r : Point) → before p q ≡ true → before q r ≡ true → before p r ≡ true
before-trans p q r e f = before-intro p r (go (before-true p q e) (before-true q r f))
  where
    go : Before p q → Before q r → Before p r
    go (inl h) (inl g) = inl (omega arith)
    go (inl h) (inr g) = inl (omega arith)
    go (inr h) (inl g) = inl (omega arith)
    go (inr h) (inr g) = inr (omega arith, omega arith)

pub before-once : (p q : Point) → before p q ≡ true → before q p ≡ true → ⊥
before-once p q e f = before-irrefl p (before-trans p q p e f)

pub trichotomy : (p q : Point) → (before p q ≡ true) ⊎ ((p ≡ q) ⊎ (before q p ≡ true))
trichotomy p q = go (dec_lt p.x q.x) (dec_lt q.x p.x) (dec_lt p.y q.y) (dec_lt q.y p.y)
  where
    go : Dec (p.x < q.x) → Dec (q.x < p.x) → Dec (p.y < q.y) → Dec (q.y < p.y)
        → (before p q ≡ true) ⊎ ((p ≡ q) ⊎ (before q p ≡ true))
    go (yes h) l u d = inl (before-intro p q (inl h))
    go (no h) (yes l) u d = inr (inr (before-intro q p (inl l)))
    go (no h) (no l) (yes u) d = inl (before-intro p q (inr (omega arith, u)))
    go (no h) (no l) (no u) (yes d) = inr (inr (before-intro q p (inr (omega arith, d))))
    go (no h) (no l) (no u) (no d) =
        let x : p.x ≡ q.x = omega arith in
        let y : p.y ≡ q.y = omega arith in
        inr (inl (λ i. record { x = x i; y = y i }))

-- not smaller, through a third point
pub not-before-trans : (p q r : Point) → before q p ≡ false → before r q ≡ false → before r p ≡ false
not-before-trans p q r h g = is_false _ (λ back. by_order (trichotomy p q) back)
  where
    by_order : (before p q ≡ true) ⊎ ((p ≡ q) ⊎ (before q p ≡ true)) → before r p ≡ true → ⊥
    by_order (inl l) back = true≢false (sym (before-trans r p q back l) ∙ g)
    by_order (inr (inl e)) back = true≢false (sym (ap (λ t. before r t) (sym e) ∙ back) ∙ g)
    by_order (inr (inr l)) back = true≢false (sym l ∙ h)
