-- From the test to the statement: two segments that pass the test touch, and are distinct.
--     between-touch       an end of one strictly between the ends of the other is a shared point
--     four-areas          the areas of the four ends over the two lines, joined in one equation
--     contact-touch       each contact gives the shared point: at a crossing the areas are its weights
--     contact-distinct    and a segment has no contact with itself
-- The area of q over a b, signed and doubled, is `plus a b q` less `minus a b q`. Assumes nothing.
use mathlib.Core.Path.{◌≡◌, refl, sym, ap, subst}
use mathlib.Core.Logic.{inl, inr}
use Prim.Native.Nat.{ℕ, ◌+◌, ◌-◌, ◌*◌}
use native.Mathlib.Omega.{arith}
use Rattle.plane.specs.declared.Point.{Point}
use Rattle.plane.specs.declared.Segment.{Segment}
use Rattle.plane.specs.Turns.{plus, minus}
use Rattle.plane.specs.Touching.{Touch}
use Rattle.plane.proofs.PointLaws.{before-irrefl}
use Rattle.plane.proofs.SideLaws.{Left, Right, Apart, splits-true, within-true}
use Rattle.plane.proofs.WithinLaws.{EndOf, Between, within-between}
use Rattle.plane.proofs.ContactLaws.{touch-sym, Contact}
use Rattle.plane.proofs.ContactLaws.{crossing, a-within-s, b-within-s, a-within-t, b-within-t}

-- an end of t strictly between the ends of s is a shared point
pub between-touch : (s t : Segment) (d : Point) → Between s d → EndOf t d → Touch s t
between-touch s t d r (inl e) = record {
  α = r.α;
  β = r.β;
  γ = r.α + r.β;
  δ = 0;
  total = omega arith;
  on-x = omega (arith, ap (λ p. (r.α + r.β) * p.x) e);
  on-y = omega (arith, ap (λ p. (r.α + r.β) * p.y) e);
  inner = inl (r.hα, r.hβ);
}
between-touch s t d r (inr e) = record {
  α = r.α;
  β = r.β;
  γ = 0;
  δ = r.α + r.β;
  total = omega arith;
  on-x = omega (arith, ap (λ p. (r.α + r.β) * p.x) e);
  on-y = omega (arith, ap (λ p. (r.α + r.β) * p.y) e);
  inner = inl (r.hα, r.hβ);
}

-- the area of c over a b less that of d is the area of b over c d less that of a
pub four-areas : (a b c d : Point)
    → plus a b c + minus a b d + plus c d a + minus c d b ≡ minus a b c + plus a b d + minus c d a + plus c d b
four-areas a b c d = omega arith

-- the areas are the weights of the point where two lines cross
cross-x : (a b c d : Point) → a.x * plus c d b + b.x * minus c d a + c.x * plus a b d + d.x * minus a b c
    ≡ a.x * minus c d b + b.x * plus c d a + c.x * minus a b d + d.x * plus a b c
cross-x a b c d = omega arith

cross-y : (a b c d : Point) → a.y * plus c d b + b.y * minus c d a + c.y * plus a b d + d.y * minus a b c
    ≡ a.y * minus c d b + b.y * plus c d a + c.y * minus a b d + d.y * plus a b c
cross-y a b c d = omega arith

-- what A is over E, B over F, C over G and D over H, so weighed
excess : (k l m n A B C D E F G H α β γ δ : ℕ) → E + α ≡ A → F + β ≡ B → G + γ ≡ C → H + δ ≡ D
    → k * A + l * B + m * G + n * H ≡ k * E + l * F + m * C + n * D → α * k + β * l ≡ γ * m + δ * n
excess k l m n A B C D E F G H α β γ δ eα eβ eγ eδ e =
    omega (arith, ap (λ i. k * i) eα, ap (λ i. l * i) eβ, ap (λ i. m * i) eγ, ap (λ i. n * i) eδ)

-- c to the left of a b and d to the right, a to the right of c d and b to the left
cross : (s t : Segment) → Left s.a s.b t.a → Right s.a s.b t.b
    → Right t.a t.b s.a → Left t.a t.b s.b → Touch s t
cross s t lc rd ra lb =
    go (plus t.a t.b s.b - minus t.a t.b s.b) (minus t.a t.b s.a - plus t.a t.b s.a)
    (minus s.a s.b t.b - plus s.a s.b t.b) (plus s.a s.b t.a - minus s.a s.b t.a)
    (omega arith) (omega arith) (omega arith) (omega arith)
  where
    go : (α β γ δ : ℕ) → minus t.a t.b s.b + α ≡ plus t.a t.b s.b
        → plus t.a t.b s.a + β ≡ minus t.a t.b s.a
        → plus s.a s.b t.b + γ ≡ minus s.a s.b t.b
        → minus s.a s.b t.a + δ ≡ plus s.a s.b t.a → Touch s t
    go α β γ δ eα eβ eγ eδ = record {
      α = α;
      β = β;
      γ = γ;
      δ = δ;
      total = omega (arith, four-areas s.a s.b t.a t.b);
      on-x = excess s.a.x s.b.x t.a.x t.b.x _ _ _ _ _ _ _ _ α β γ δ eα eβ eγ eδ
          (cross-x s.a s.b t.a t.b);
      on-y = excess s.a.y s.b.y t.a.y t.b.y _ _ _ _ _ _ _ _ α β γ δ eα eβ eγ eδ
          (cross-y s.a s.b t.a t.b);
      inner = inl (omega arith, omega arith);
    }

crossing-touch : (s t : Segment) → Apart s.a s.b t.a t.b → Apart t.a t.b s.a s.b → Touch s t
crossing-touch s t (inl h) (inr g) = cross s t h.0 h.1 g.0 g.1
crossing-touch s t (inr h) (inl g) = touch-sym (cross t s g.0 g.1 h.0 h.1)
crossing-touch s t (inl h) (inl g) = absurd (omega (arith, four-areas s.a s.b t.a t.b))
crossing-touch s t (inr h) (inr g) = absurd (omega (arith, four-areas s.a s.b t.a t.b))

pub contact-touch : (s t : Segment) → Contact s t → Touch s t
contact-touch s t (crossing g h) = crossing-touch s t (splits-true s t g) (splits-true t s h)
contact-touch s t (a-within-s h) = between-touch s t t.a (within-between _ _ h) (inl refl)
contact-touch s t (b-within-s h) = between-touch s t t.b (within-between _ _ h) (inr refl)
contact-touch s t (a-within-t h) = touch-sym (between-touch t s s.a (within-between _ _ h) (inl refl))
contact-touch s t (b-within-t h) = touch-sym (between-touch t s s.b (within-between _ _ h) (inr refl))

-- a segment has no contact with itself
contact-self : (s : Segment) → Contact s s → ⊥
contact-self s (crossing g h) = go (splits-true s s g)
  where
    go : Apart s.a s.b s.a s.b → ⊥
    go (inl l) = omega arith
    go (inr l) = omega arith
contact-self s (a-within-s h) = before-irrefl s.a (within-true s s.a h).0
contact-self s (b-within-s h) = before-irrefl s.b (within-true s s.b h).1
contact-self s (a-within-t h) = before-irrefl s.a (within-true s s.a h).0
contact-self s (b-within-t h) = before-irrefl s.b (within-true s s.b h).1

pub contact-distinct : (s t : Segment) → Contact s t → s ≡ t → ⊥
contact-distinct s t w e = contact-self s (subst (λ u. Contact s u) (sym e) w)
