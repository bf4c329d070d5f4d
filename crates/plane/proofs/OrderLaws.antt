-- The order of segments that do not touch: they keep it from column to column.
--     order_le, order-ge, unlevel, order_lt, order-gt    kept weakly everywhere, strictly inside one of the two
--     level-end            F2: level at a column that both span, they have a common end there
--     order-right, order-left     F1: to a later column and to an earlier one; level only in a common right or left end
--     same-order           inside s the order is the same at every column, as an equation of tests
--     keys-differ, key-order      F4: over one strip keys differ, and the heights at both columns are in their order
-- Two segments here always share the half columns spoken of and do not touch. Assumes nothing.
use mathlib.Core.Path.{◌≡◌, refl, sym, ap, ◌∙◌}
use mathlib.Core.Logic.{◌≢◌, ◌⊎◌, inl, inr}
use mathlib.Core.Bool.{Bool, true, false}
use Prim.Native.Nat.{ℕ, suc, ◌+◌, ◌*◌, ◌<◌, ◌≤◌}
use native.Mathlib.Omega.{arith}
use lib.Dec.{ltb}
use borrow.Author.Tests.{ltb-true}
use Rattle.counts.proofs.TestLaws.{tests, lt-or-le}
use Rattle.plane.specs.declared.Point.{Point}
use Rattle.plane.specs.declared.Segment.{Segment}
use Rattle.plane.specs.Touching.{Touch}
use Rattle.plane.proofs.Heights.{Scale, Spans, Inside, height, key}
use Rattle.plane.proofs.WithinLaws.{EndOf}
use Rattle.plane.proofs.ContactLaws.{touch-sym}
use Rattle.plane.proofs.LevelLaws.{touch-level, touch-cross}
use Rattle.plane.proofs.SpanLaws.{EndAt, inside-or-end, one-point}

module _ {W : ℕ} (M : ℕ) (scale : Scale W M) (s t : Segment) (free : ¬ (Touch s t)) where
  -- ---- level at one half column

  pub unlevel : (k : ℕ) → Spans W s k → Spans W t k → Inside s k ⊎ Inside t k → height M s k ≢ height M t k
  unlevel k sk tk (inl h) e = free (touch-level M scale s t k sk tk h e)
  unlevel k sk tk (inr h) e = free (touch-sym (touch-level M scale t s k tk sk h (sym e)))

  pub level-end : (k : ℕ) → Spans W s k → Spans W t k → height M s k ≡ height M t k
      → (d : Point) × EndOf s d × EndOf t d × (k ≡ 2 * d.x)
  level-end k sk tk e = go (inside-or-end M scale s k sk) (inside-or-end M scale t k tk)
    where
      go : Inside s k ⊎ EndAt M s k → Inside t k ⊎ EndAt M t k → (d : Point) × EndOf s d × EndOf t d × (k ≡ 2 * d.x)
      go (inl h) r = absurd (unlevel k sk tk (inl h) e)
      go (inr h) (inl r) = absurd (unlevel k sk tk (inr r) e)
      go (inr h) (inr r) =
          let same = one-point M scale r.point h.point
          (omega (arith, h.column, r.column)) (sym r.high ∙ sym e ∙ h.high) in
          (h.point, h.ends, rw same at r.ends, h.column)

  -- ---- from one half column p to another, k

  module _ (p k : ℕ) (sp : Spans W s p) (sk : Spans W s k) (tp : Spans W t p) (tk : Spans W t k) where
    pub order_le : height M t p < height M s p → height M t k ≤ height M s k
    order_le l = go (lt-or-le (height M s k) (height M t k))
      where
        go : (height M s k < height M t k) ⊎ (height M t k ≤ height M s k) → height M t k ≤ height M s k
        go (inl h) = absurd (free (touch-cross M scale s t p k sp sk tp tk l h))
        go (inr h) = h

    pub order-ge : height M s p < height M t p → height M s k ≤ height M t k
    order-ge l = go (lt-or-le (height M t k) (height M s k))
      where
        go : (height M t k < height M s k) ⊎ (height M s k ≤ height M t k) → height M s k ≤ height M t k
        go (inl h) = absurd (free (touch-sym (touch-cross M scale t s p k tp tk sp sk l h)))
        go (inr h) = h

    pub order_lt : Inside s k ⊎ Inside t k → height M t p < height M s p → height M t k < height M s k
    order_lt h l = omega (arith, order_le l, unlevel k sk tk h)

    pub order-gt : Inside s k ⊎ Inside t k → height M s p < height M t p → height M s k < height M t k
    order-gt h l = omega (arith, order-ge l, unlevel k sk tk h)

    pub order-right : p < k → height M t p < height M s p
        → (height M t k ≤ height M s k) × (height M t k ≡ height M s k → (k ≡ 2 * s.b.x) × (s.b ≡ t.b))
    order-right h l = (order_le l, λ e. go (level-end k sk tk (sym e)))
      where
        -- both start before k, so the common end is not where they start
        go : (d : Point) × EndOf s d × EndOf t d × (k ≡ 2 * d.x) → (k ≡ 2 * s.b.x) × (s.b ≡ t.b)
        go (d, inl e, u, c) = absurd (omega (arith, ap (λ q. q.x) e))
        go (d, inr e, inl u, c) = absurd (omega (arith, ap (λ q. q.x) u))
        go (d, inr e, inr u, c) = (c ∙ ap (λ q. 2 * q.x) (sym e), e ∙ sym u)

    pub order-left : k < p → height M t p < height M s p
        → (height M t k ≤ height M s k) × (height M t k ≡ height M s k → (k ≡ 2 * s.a.x) × (s.a ≡ t.a))
    order-left h l = (order_le l, λ e. go (level-end k sk tk (sym e)))
      where
        go : (d : Point) × EndOf s d × EndOf t d × (k ≡ 2 * d.x) → (k ≡ 2 * s.a.x) × (s.a ≡ t.a)
        go (d, inr e, u, c) = absurd (omega (arith, ap (λ q. q.x) e))
        go (d, inl e, inr u, c) = absurd (omega (arith, ap (λ q. q.x) u))
        go (d, inl e, inl u, c) = (c ∙ ap (λ q. 2 * q.x) (sym e), e ∙ sym u)

    pub same-order : Inside s p → Inside s k → ltb (height M t p) (height M s p) ≡ ltb (height M t k) (height M s k)
    same-order ip ik = go (ltb (height M t p) (height M s p)) (ltb (height M t k) (height M s k)) refl refl
      where
        back : height M t k < height M s k → height M t p < height M s p
        back l = go (lt-or-le (height M t p) (height M s p))
          where
            go : (height M t p < height M s p) ⊎ (height M s p ≤ height M t p) → height M t p < height M s p
            go (inl h) = h
            go (inr h) =
                let u = unlevel p sp tp (inl ip) in
                let g : height M s p < height M t p = omega arith in
                absurd (omega (arith, order-ge g))

        go : (a b : Bool) → ltb (height M t p) (height M s p) ≡ a → ltb (height M t k) (height M s k) ≡ b → a ≡ b
        go true true e g = refl
        go true false e g = absurd (omega (arith, tests, order_lt (inl ik) (ltb-true _ _ e)))
        go false true e g = absurd (omega (arith, tests, back (ltb-true _ _ g)))
        go false false e g = refl

  -- ---- over one strip, between the columns x and x + 1

  pub keys-differ : (x : ℕ) → Spans W s (2 * x + 1) → Spans W t (2 * x + 1) → key M s x ≢ key M t x
  keys-differ x sk tk = unlevel (2 * x + 1) sk tk (inl (record { past = omega arith; ahead = omega arith }))

  pub key-order : (x : ℕ) → Spans W s (2 * x + 1) → Spans W t (2 * x + 1) → key M t x < key M s x
      → (height M t (2 * x) ≤ height M s (2 * x)) × (height M t (2 * suc x) ≤ height M s (2 * suc x))
  key-order x sk tk l = (
    order_le (2 * x + 1) (2 * x) sk (spans s (2 * x) sk (omega arith) (omega arith)) tk
        (spans t (2 * x) tk (omega arith) (omega arith)) l,
    order_le (2 * x + 1) (2 * suc x) sk (spans s (2 * suc x) sk (omega arith) (omega arith)) tk
        (spans t (2 * suc x) tk (omega arith) (omega arith)) l,
  )
    where
      spans : (u : Segment) (k : ℕ) → Spans W u (2 * x + 1) → 2 * u.a.x ≤ k → k ≤ 2 * u.b.x → Spans W u k
      spans u k h l g = record { slanted = h.slanted; small = h.small; from = l; upto = g }
