-- At an end of a segment, and within it by weights: `within` is being strictly between its ends.
--     EndOf s p         p is an end of s
--     ends_at-is        the test `ends_at` is that
--     Between s p       p lies strictly between the ends of s: α parts of one and β of the other, both positive
--     within-between    what passes the test does so, whichever end of s is the smaller
--     within-is         for s with the smaller end first, just that passes
-- Assumes nothing.
use mathlib.Core.Path.{◌≡◌, ap, ◌∙◌}
use mathlib.Core.Logic.{◌↔◌, ◌⊎◌, inl, inr, ⊎_elim}
use mathlib.Core.Bool.{true, ◌||◌}
use Prim.Native.Nat.{ℕ, ◌+◌, ◌-◌, ◌*◌, ◌<◌}
use native.Mathlib.Nat.{mul-lt-mul_of_pos_left, lt_of_mul-lt-mul_left, eq_of_mul-eq-mul_left}
use native.Mathlib.Omega.{arith}
use Rattle.counts.proofs.TestLaws.{or-true, or_left, or_right}
use Rattle.plane.specs.declared.Point.{Point}
use Rattle.plane.specs.declared.Segment.{Segment}
use Rattle.plane.specs.Points.{same, Forward}
use Rattle.plane.specs.Turns.{plus, minus}
use Rattle.plane.specs.Touching.{within}
use Rattle.plane.specs.Columns.{ends_at}
use Rattle.plane.proofs.PointLaws.{Before, before-true, before-intro, same_true, same_refl}
use Rattle.plane.proofs.SideLaws.{Level, within-true, within-intro}

abbrev pub EndOf : Segment → Point → Type 0
EndOf s p = (s.a ≡ p) ⊎ (s.b ≡ p)

pub ends_at-is : (p : Point) (s : Segment) → (ends_at p s ≡ true) ↔ EndOf s p
unfolding ends_at
ends_at-is p s =
    ((λ e. ⊎_elim (λ h. inl (same_true _ _ h)) (λ h. inr (same_true _ _ h)) (or-true (same s.a p) _ e)), back)
  where
    back : EndOf s p → same s.a p || same s.b p ≡ true
    back (inl h) = or_left _ (ap (λ q. same q p) h ∙ same_refl p)
    back (inr h) = or_right (same s.a p) (ap (λ q. same q p) h ∙ same_refl p)

pub record Between (s : Segment) (p : Point) : Type 0 where
  pub α : ℕ
  pub β : ℕ
  pub hα : 0 < α
  pub hβ : 0 < β
  pub on-x : α * s.a.x + β * s.b.x ≡ (α + β) * p.x
  pub on-y : α * s.a.y + β * s.b.y ≡ (α + β) * p.y

-- a mean lies between the two
mean-lt : (α β m n p : ℕ) → 0 < α → 0 < β → m < n → α * m + β * n ≡ (α + β) * p → (m < p) × (p < n)
mean-lt α β m n p hα hβ l e = (
  lt_of_mul-lt-mul_left (α + β) (omega (arith, mul-lt-mul_of_pos_left l hβ)),
  lt_of_mul-lt-mul_left (α + β) (omega (arith, mul-lt-mul_of_pos_left l hα)),
)

mean-eq : (α β m n p : ℕ) → 0 < α → m ≡ n → α * m + β * n ≡ (α + β) * p → (m ≡ p) × (p ≡ n)
mean-eq α β m n p hα l e = (
  eq_of_mul-eq-mul_left (α + β) (omega arith) _ _ (omega (arith, ap (λ k. β * k) l)),
  eq_of_mul-eq-mul_left (α + β) (omega arith) _ _ (omega (arith, ap (λ k. α * k) l)),
)

between-order : (s : Segment) (p : Point) → Forward s → Between s p → Before s.a p × Before p s.b
between-order s p f r = go (before-true s.a s.b f)
  where
    go : Before s.a s.b → Before s.a p × Before p s.b
    go (inl h) =
        let g = mean-lt r.α r.β s.a.x s.b.x p.x r.hα r.hβ h r.on-x in
        (inl g.0, inl g.1)
    go (inr h) =
        let g = mean-eq r.α r.β s.a.x s.b.x p.x r.hα h.0 r.on-x in
        let k = mean-lt r.α r.β s.a.y s.b.y p.y r.hα r.hβ h.1 r.on-y in
        (inr (g.0, k.0), inr (g.1, k.1))

-- the area is affine: of a mean of a and b it is zero
mean-level : (α β : ℕ) (a b p : Point) → 0 < α
    → α * a.x + β * b.x ≡ (α + β) * p.x → α * a.y + β * b.y ≡ (α + β) * p.y → Level a b p
mean-level α β a b p hα ex ey =
    eq_of_mul-eq-mul_left (α + β) (omega arith) (minus a b p) (plus a b p)
    (omega (arith, ap (λ n. a.y * n) ex, ap (λ n. b.y * n) ex, ap (λ n. a.x * n) ey, ap (λ n. b.x * n) ey))

-- the weights of a point in line, from how far it is past a and before b; one of the two ways has length
weights : (s : Segment) (p : Point) → Before s.a p → Before p s.b → Level s.a s.b p → Between s p
weights s p (inl h) (inl g) l = go (s.b.x - p.x) (p.x - s.a.x) (omega arith) (omega arith)
  where
    go : (α β : ℕ) → p.x + α ≡ s.b.x → s.a.x + β ≡ p.x → Between s p
    go α β eα eβ = record {
      α = α;
      β = β;
      hα = omega arith;
      hβ = omega arith;
      on-x = omega (arith, ap (λ n. β * n) eα, ap (λ n. α * n) eβ);
      on-y = omega (
        arith,
        ap (λ n. s.a.y * n) eα,
        ap (λ n. p.y * n) eα,
        ap (λ n. s.b.y * n) eβ,
        ap (λ n. p.y * n) eβ,
      );
    }
weights s p (inl h) (inr g) l = absurd (go (s.b.x - s.a.x) (omega arith) (omega arith))
  where
    -- p would lie right below b
    go : (w : ℕ) → s.a.x + w ≡ s.b.x → 0 < w → ⊥
    go w e pos =
        let k = mul-lt-mul_of_pos_left g.1 pos in
        let x = g.0 in
        omega (arith, ap (λ n. s.b.y * n) e, ap (λ n. p.y * n) e, ap (λ n. s.b.y * n) x, ap (λ n. s.a.y * n) x)
weights s p (inr h) (inl g) l = absurd (go (s.b.x - p.x) (omega arith) (omega arith))
  where
    -- p would lie right above a
    go : (w : ℕ) → p.x + w ≡ s.b.x → 0 < w → ⊥
    go w e pos =
        let k = mul-lt-mul_of_pos_left h.1 pos in
        let x = h.0 in
        omega (arith, ap (λ n. s.a.y * n) e, ap (λ n. p.y * n) e, ap (λ n. s.b.y * n) x, ap (λ n. p.y * n) x)
weights s p (inr h) (inr g) l = go (s.b.y - p.y) (p.y - s.a.y) (omega arith) (omega arith)
  where
    go : (α β : ℕ) → p.y + α ≡ s.b.y → s.a.y + β ≡ p.y → Between s p
    go α β eα eβ = record {
      α = α;
      β = β;
      hα = omega arith;
      hβ = omega arith;
      on-x = omega (arith, ap (λ n. α * n) h.0, ap (λ n. β * n) g.0);
      on-y = omega (arith, ap (λ n. β * n) eα, ap (λ n. α * n) eβ);
    }

pub within-between : (s : Segment) (p : Point) → within s p ≡ true → Between s p
within-between s p e =
    let h = within-true s p e in
    weights s p (before-true _ _ h.0) (before-true _ _ h.1) h.2

pub within-is : (s : Segment) (p : Point) → Forward s → (within s p ≡ true) ↔ Between s p
within-is s p f = (within-between s p, back)
  where
    back : Between s p → within s p ≡ true
    back r =
        let h = between-order s p f r in
        within-intro s p (before-intro _ _ h.0) (before-intro _ _ h.1)
        (mean-level r.α r.β s.a s.b p r.hα r.on-x r.on-y)
