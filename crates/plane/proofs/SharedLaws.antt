-- From the statement to the test: two distinct segments that share a point inside one of them pass the test.
--     balance          where a mean of c and d is one of a and b, the areas of c and d over a b cancel by its weights
--     touch-contact    so c and d lie on different sides of a b, or all four in line; in line, the order of the ends
--                      tells the contact
-- Assumes nothing.
use mathlib.Core.Path.{◌≡◌, sym, ap, ◌∙◌}
use mathlib.Core.Logic.{◌⊎◌, inl, inr}
use mathlib.Core.Bool.{true}
use Prim.Native.Nat.{ℕ, ◌+◌, ◌*◌, ◌<◌, ◌≤◌}
use native.Mathlib.Nat.{mul-lt-mul_of_pos_left, mul-le-mul_left, lt_of_mul-lt-mul_left, le_of_mul-le-mul_left}
use native.Mathlib.Nat.{eq_of_mul-eq-mul_left, eq-zero-or-pos}
use native.Mathlib.Decide.{dec_lt}
use native.Mathlib.Omega.{arith}
use Rattle.plane.specs.declared.Point.{Point}
use Rattle.plane.specs.declared.Segment.{Segment}
use Rattle.plane.specs.Points.{before, Forward}
use Rattle.plane.specs.Turns.{plus, minus}
use Rattle.plane.specs.Touching.{Touch}
use Rattle.plane.proofs.PointLaws.{Before, before-true, before-intro, trichotomy}
use Rattle.plane.proofs.SideLaws.{Left, Right, Level, Apart, splits-intro, within-intro}
use Rattle.plane.proofs.WithinLaws.{Between, within-is}
use Rattle.plane.proofs.ContactLaws.{touch-sym, Contact}
use Rattle.plane.proofs.ContactLaws.{crossing, a-within-s, b-within-s, a-within-t, b-within-t}
use Rattle.plane.proofs.CrossLaws.{four-areas}

-- one of the two sums of an area, at a mean of (cx, cy) and (dx, dy)
spread : (γ δ u m n cx cy dx dy : ℕ)
    → γ * (u + m * cy + cx * n) + δ * (u + m * dy + dx * n)
    ≡ (γ + δ) * u + m * (γ * cy + δ * dy) + n * (γ * cx + δ * dx)
spread γ δ u m n cx cy dx dy = omega arith

-- at a mean of a and b the two sums are equal
affine : (a b : Point) (α β : ℕ)
    → (α + β) * (a.x * b.y) + b.x * (α * a.y + β * b.y) + a.y * (α * a.x + β * b.x)
    ≡ (α + β) * (a.y * b.x) + b.y * (α * a.x + β * b.x) + a.x * (α * a.y + β * b.y)
affine a b α β = omega arith

-- so where a mean of c and d is one of a and b, it has no area over a b
balance : (a b c d : Point) (α β γ δ : ℕ) → α + β ≡ γ + δ
    → α * a.x + β * b.x ≡ γ * c.x + δ * d.x → α * a.y + β * b.y ≡ γ * c.y + δ * d.y
    → γ * plus a b c + δ * plus a b d ≡ γ * minus a b c + δ * minus a b d
balance a b c d α β γ δ e ex ey =
    spread γ δ (a.x * b.y) b.x a.y c.x c.y d.x d.y
    ∙ sym (λ i. e i * (a.x * b.y) + b.x * ey i + a.y * ex i)
    ∙ affine a b α β
    ∙ (λ i. e i * (a.y * b.x) + b.y * ex i + a.x * ey i)
    ∙ sym (spread γ δ (a.y * b.x) b.y a.x c.y c.x d.y d.x)

-- what weighs more on the one side weighs less on the other
counter-lt : (γ δ A B C D : ℕ) → 0 < γ → γ * A + δ * C ≡ γ * B + δ * D → A < B → D < C
counter-lt γ δ A B C D pos e l = lt_of_mul-lt-mul_left δ (omega (arith, mul-lt-mul_of_pos_left l pos))

counter-eq : (γ δ A B C D : ℕ) → 0 < δ → γ * A + δ * C ≡ γ * B + δ * D → A ≡ B → D ≡ C
counter-eq γ δ A B C D pos e l = eq_of_mul-eq-mul_left δ pos D C (omega (arith, ap (λ n. γ * n) l))

-- so c and d lie on different sides of a b, or both on it
sides : (a b c d : Point) (γ δ : ℕ) → 0 < γ → 0 < δ
    → γ * plus a b c + δ * plus a b d ≡ γ * minus a b c + δ * minus a b d
    → Apart a b c d ⊎ (Level a b c × Level a b d)
sides a b c d γ δ hγ hδ e = go (dec_lt (minus a b c) (plus a b c)) (dec_lt (plus a b c) (minus a b c))
  where
    go : Dec (Left a b c) → Dec (Right a b c) → Apart a b c d ⊎ (Level a b c × Level a b d)
    go (yes l) r = inl (inl (l, counter-lt γ δ _ _ _ _ hγ (sym e) l))
    go (no l) (yes r) = inl (inr (r, counter-lt γ δ _ _ _ _ hγ e r))
    go (no l) (no r) =
        let z : minus a b c ≡ plus a b c = omega arith in
        inr (z, counter-eq γ δ _ _ _ _ hδ e (sym z))

touch-sides : (s t : Segment) (T : Touch s t) → 0 < T.γ → 0 < T.δ
    → Apart s.a s.b t.a t.b ⊎ (Level s.a s.b t.a × Level s.a s.b t.b)
touch-sides s t T hγ hδ =
    sides s.a s.b t.a t.b T.γ T.δ hγ hδ
    (balance s.a s.b t.a t.b T.α T.β T.γ T.δ T.total T.on-x T.on-y)

-- c is not past b, where a mean of a up to b is one of c up to d
weigh-le : (a b c d α β γ δ : ℕ) → 0 < α → α + β ≡ γ + δ → α * a + β * b ≡ γ * c + δ * d → a ≤ b → c ≤ d → c ≤ b
weigh-le a b c d α β γ δ hα e m l h =
    le_of_mul-le-mul_left {k = γ + δ}
    (omega (arith, ap (λ n. n * b) e, mul-le-mul_left α l, mul-le-mul_left δ h)) (omega arith)

weigh-lt : (a b c d α β γ δ : ℕ) → 0 < α → 0 < δ → α + β ≡ γ + δ → α * a + β * b ≡ γ * c + δ * d
    → ((a < b) × (c ≤ d)) ⊎ ((a ≤ b) × (c < d)) → c < b
weigh-lt a b c d α β γ δ hα hδ e m (inl h) =
    lt_of_mul-lt-mul_left (γ + δ)
    (omega (arith, ap (λ n. n * b) e, mul-lt-mul_of_pos_left h.0 hα, mul-le-mul_left δ h.1))
weigh-lt a b c d α β γ δ hα hδ e m (inr h) =
    lt_of_mul-lt-mul_left (γ + δ)
    (omega (arith, ap (λ n. n * b) e, mul-le-mul_left α h.0, mul-lt-mul_of_pos_left h.1 hδ))

-- the smaller end of t is before the point, and the point before the larger end of s
ahead : (s t : Segment) (T : Touch s t) → Forward s → Forward t → 0 < T.α → 0 < T.δ → before t.a s.b ≡ true
ahead s t T f g hα hδ = before-intro t.a s.b (go (before-true s.a s.b f) (before-true t.a t.b g))
  where
    across : ((s.a.x < s.b.x) × (t.a.x ≤ t.b.x)) ⊎ ((s.a.x ≤ s.b.x) × (t.a.x < t.b.x))
        → t.a.x < s.b.x
    across = weigh-lt s.a.x s.b.x t.a.x t.b.x T.α T.β T.γ T.δ hα hδ T.total T.on-x

    go : Before s.a s.b → Before t.a t.b → Before t.a s.b
    go (inl h) (inl k) = inl (across (inl (h, omega arith)))
    go (inl h) (inr k) = inl (across (inl (h, omega arith)))
    go (inr h) (inl k) = inl (across (inr (omega arith, k)))
    go (inr h) (inr k) = last (dec_lt t.a.x s.b.x)
      where
        last : Dec (t.a.x < s.b.x) → Before t.a s.b
        last (yes l) = inl l
        last (no l) =
            let w : t.a.x ≤ s.b.x =
            weigh-le s.a.x s.b.x t.a.x t.b.x T.α T.β T.γ T.δ hα T.total T.on-x
            (omega arith) (omega arith) in
            inr (
              omega arith,
              weigh-lt s.a.y s.b.y t.a.y t.b.y T.α T.β T.γ T.δ hα hδ T.total T.on-y
                  (inl (h.1, omega arith)),
            )

-- all four ends in line: by the order of the ends, one of them lies within the other segment
in-line : (s t : Segment) → before t.a s.b ≡ true → before s.a t.b ≡ true
    → Level s.a s.b t.a × Level s.a s.b t.b → Level t.a t.b s.a × Level t.a t.b s.b
    → (s ≡ t → ⊥) → Contact s t
in-line s t cb ad lt ls differ = go (trichotomy s.a t.a) (trichotomy s.b t.b)
  where
    go : (before s.a t.a ≡ true) ⊎ ((s.a ≡ t.a) ⊎ (before t.a s.a ≡ true))
        → (before s.b t.b ≡ true) ⊎ ((s.b ≡ t.b) ⊎ (before t.b s.b ≡ true)) → Contact s t
    go (inl h) k = a-within-s (within-intro s t.a h cb lt.0)
    go (inr (inr h)) k = a-within-t (within-intro t s.a h ad ls.0)
    go (inr (inl h)) (inl k) = b-within-t (within-intro t s.b cb k ls.1)
    go (inr (inl h)) (inr (inr k)) = b-within-s (within-intro s t.b ad k lt.1)
    go (inr (inl h)) (inr (inl k)) = absurd (differ (λ i. record { a = h i; b = k i }))

-- strictly between the ends of both
inner-contact : (s t : Segment) (T : Touch s t) → Forward s → Forward t → 0 < T.α → 0 < T.β → 0 < T.γ → 0 < T.δ
    → (s ≡ t → ⊥) → Contact s t
unfolding touch-sym
inner-contact s t T f g hα hβ hγ hδ differ =
    go (touch-sides s t T hγ hδ) (touch-sides t s (touch-sym T) hα hβ)
  where
    go : Apart s.a s.b t.a t.b ⊎ (Level s.a s.b t.a × Level s.a s.b t.b)
        → Apart t.a t.b s.a s.b ⊎ (Level t.a t.b s.a × Level t.a t.b s.b) → Contact s t
    go (inl h) (inl k) = crossing (splits-intro s t h) (splits-intro t s k)
    go (inl (inl h)) (inr k) = absurd (omega (arith, four-areas s.a s.b t.a t.b))
    go (inl (inr h)) (inr k) = absurd (omega (arith, four-areas s.a s.b t.a t.b))
    go (inr h) (inl (inl k)) = absurd (omega (arith, four-areas s.a s.b t.a t.b))
    go (inr h) (inl (inr k)) = absurd (omega (arith, four-areas s.a s.b t.a t.b))
    go (inr h) (inr k) = in-line s t (ahead s t T f g hα hδ) (ahead t s (touch-sym T) g f hγ hβ) h k differ

-- strictly between the ends of s: at an end of t, or strictly between those too
pub touch-contact : (s t : Segment) (T : Touch s t) → Forward s → Forward t → 0 < T.α → 0 < T.β → (s ≡ t → ⊥)
    → Contact s t
touch-contact s t T f g hα hβ differ = go (eq-zero-or-pos T.γ) (eq-zero-or-pos T.δ)
  where
    at_b : T.γ ≡ 0 → Between s t.b
    at_b z = record {
      α = T.α;
      β = T.β;
      hα = hα;
      hβ = hβ;
      on-x = omega (arith, T.on-x, ap (λ n. n * t.b.x) T.total, ap (λ n. n * t.a.x) z, ap (λ n. n * t.b.x) z);
      on-y = omega (arith, T.on-y, ap (λ n. n * t.b.y) T.total, ap (λ n. n * t.a.y) z, ap (λ n. n * t.b.y) z);
    }

    at_a : T.δ ≡ 0 → Between s t.a
    at_a z = record {
      α = T.α;
      β = T.β;
      hα = hα;
      hβ = hβ;
      on-x = omega (arith, T.on-x, ap (λ n. n * t.a.x) T.total, ap (λ n. n * t.a.x) z, ap (λ n. n * t.b.x) z);
      on-y = omega (arith, T.on-y, ap (λ n. n * t.a.y) T.total, ap (λ n. n * t.a.y) z, ap (λ n. n * t.b.y) z);
    }

    go : (T.γ ≡ 0) ⊎ (0 < T.γ) → (T.δ ≡ 0) ⊎ (0 < T.δ) → Contact s t
    go (inl z) d = b-within-s ((within-is s t.b f).1 (at_b z))
    go (inr hγ) (inl z) = a-within-s ((within-is s t.a f).1 (at_a z))
    go (inr hγ) (inr hδ) = inner-contact s t T f g hα hβ hγ hδ differ
