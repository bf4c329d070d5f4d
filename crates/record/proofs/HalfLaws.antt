-- Left and right halves, and the way that each goes from its dominating end.
--     backward           a proper record that is no left half goes back
--     left-other_half    the other half of a proper record is of the other kind
--     Goes b p q         from p, q lies where the other end of a left half (b) or of a right half does
--     way b p q          the way from p to q; a right half's is turned about p
--     heading b r        the way of a record
--     goes, ahead        a proper record goes as its half says, and its way is ahead
--     balance            the determinant of two such ways, in terms of plus and minus
--     square-is          a record's square of length is that of its way
--     same_end           one way from one point ends at one point
-- Assumes nothing.
use mathlib.Core.Path.{◌≡◌, refl, sym, ap, ap₂, ◌∙◌, subst}
use mathlib.Core.Logic.{◌⊎◌, inl, inr}
use mathlib.Core.Bool.{Bool, true, false, not, cond, true≢false}
use Prim.Native.Nat.{ℕ, ◌+◌, ◌-◌, ◌*◌}
use native.Mathlib.Omega.{arith}
use Rattle.counts.proofs.TestLaws.{is_false}
use Rattle.plane.specs.declared.Point.{Point}
use Rattle.plane.specs.Points.{before, same}
use Rattle.plane.specs.Turns.{plus, minus}
use Rattle.plane.proofs.PointLaws.{Before, before-true, before-once, trichotomy, same_refl}
use Rattle.record.specs.declared.Record.{Record}
use Rattle.record.specs.Order.{left, other_half, Proper, gap, square_length}
use Rattle.record.proofs.WayLaws.{Way, Ahead, fore, back, reach}

pub backward : (r : Record) → Proper r → left r ≡ false → before r.other r.dom ≡ true
backward r p e = by_order (trichotomy r.dom r.other)
  where
    by_order : (before r.dom r.other ≡ true) ⊎ ((r.dom ≡ r.other) ⊎ (before r.other r.dom ≡ true))
        → before r.other r.dom ≡ true
    by_order (inl h) = absurd (true≢false (sym h ∙ e))
    by_order (inr (inl h)) =
        absurd (true≢false (sym (same_refl r.dom) ∙ ap (λ q. same r.dom q) h ∙ p))
    by_order (inr (inr h)) = h

pub left-other_half : (r : Record) → Proper r → left (other_half r) ≡ not (left r)
left-other_half r p = by-half (left r) refl
  where
    by-half : (b : Bool) → left r ≡ b → before r.other r.dom ≡ not b
    by-half true e = is_false (before r.other r.dom) (λ f. before-once r.dom r.other e f)
    by-half false e = backward r p e

-- ---- records at one end and of one half, as ways
-- A right half is turned about its dominating end, which changes no determinant: so it goes right or straight up, too.

abbrev pub Goes : Bool → Point → Point → Type 0
Goes true p q = Before p q
Goes false p q = Before q p

abbrev pub way : Bool → Point → Point → Way
way true p q = record { wide = q.x - p.x; top = q.y; low = p.y }
way false p q = record { wide = p.x - q.x; top = p.y; low = q.y }

abbrev pub heading : Bool → Record → Way
heading b r = way b r.dom r.other

pub goes : (b : Bool) (r : Record) → Proper r → left r ≡ b → Goes b r.dom r.other
goes true r p e = before-true r.dom r.other e
goes false r p e = before-true r.other r.dom (backward r p e)

pub ahead : (b : Bool) (r : Record) → Goes b r.dom r.other → Ahead (heading b r)
ahead true r (inl h) = inl (omega arith)
ahead true r (inr h) = inr (omega arith, h.1)
ahead false r (inl h) = inl (omega arith)
ahead false r (inr h) = inr (omega arith, h.1)

-- from the end that lies left, by the width, to the other
across : (b : Bool) (p q : Point) → Goes b p q → cond b p.x q.x + (way b p q).wide ≡ cond b q.x p.x
across true p q (inl h) = omega arith
across true p q (inr h) = omega arith
across false p q (inl h) = omega arith
across false p q (inr h) = omega arith

-- plus less minus is fore less back
balance-at : (b : Bool) (p q t : Point) → Goes b p q → Goes b p t
    → plus p q t + back (way b p q) (way b p t) ≡ minus p q t + fore (way b p q) (way b p t)
balance-at true p q t f g = onward (q.x - p.x) (t.x - p.x) (across true p q f) (across true p t g)
  where
    onward : (a b : ℕ) → p.x + a ≡ q.x → p.x + b ≡ t.x
        → plus p q t + (a * p.y + b * q.y) ≡ minus p q t + (a * t.y + b * p.y)
    onward a b x y =
        omega (
          arith,
          ap (λ n. n * t.y) x,
          ap (λ n. n * p.y) x,
          ap (λ n. n * p.y) y,
          ap (λ n. n * q.y) y,
        )
balance-at false p q t f g = onward (p.x - q.x) (p.x - t.x) (across false p q f) (across false p t g)
  where
    onward : (a b : ℕ) → q.x + a ≡ p.x → t.x + b ≡ p.x
        → plus p q t + (a * t.y + b * p.y) ≡ minus p q t + (a * p.y + b * q.y)
    onward a b x y =
        omega (
          arith,
          ap (λ n. n * t.y) x,
          ap (λ n. n * p.y) x,
          ap (λ n. n * p.y) y,
          ap (λ n. n * q.y) y,
        )

-- and so for two points that are one
pub balance : (b : Bool) (p o q t : Point) → p ≡ o → Goes b p q → Goes b o t
    → plus p q t + back (way b p q) (way b o t) ≡ minus p q t + fore (way b p q) (way b o t)
balance b p o q t d f =
    let Level : Point → Type 0 =
    λ o. plus p q t + back (way b p q) (way b o t) ≡ minus p q t + fore (way b p q) (way b o t)
    in
    subst (λ o. Goes b o t → Level o) d (balance-at b p q t f)

pub square-is : (b : Bool) (r : Record) → Goes b r.dom r.other → square_length r ≡ reach (heading b r)
unfolding square_length
square-is b r f = let both = parts b f in ap₂ (λ g h. g * g + h * h) both.0 both.1
  where
    -- across by the width, up or down by as much
    parts : (b : Bool) → Goes b r.dom r.other
        → (gap r.dom.x r.other.x ≡ (heading b r).wide)
        × (gap r.dom.y r.other.y ≡ gap (heading b r).top (heading b r).low)
    parts true (inl f) = (omega arith, omega arith)
    parts true (inr f) = (omega arith, omega arith)
    parts false (inl f) = (omega arith, omega arith)
    parts false (inr f) = (omega arith, omega arith)

-- from one point, as far across and as far up
pub same_end : (b : Bool) (p o q t : Point) → p ≡ o → Goes b p q → Goes b o t
    → (way b p q).wide ≡ (way b o t).wide
    → (way b p q).top + (way b o t).low ≡ (way b o t).top + (way b p q).low
    → q ≡ t
same_end true p o q t d f g w h =
    let px : p.x ≡ o.x = ap (λ n. n.x) d in
    let py : p.y ≡ o.y = ap (λ n. n.y) d in
    let x : q.x ≡ t.x = omega (arith, across true p q f, across true o t g) in
    let y : q.y ≡ t.y = omega arith in
    λ i. record { x = x i; y = y i }
same_end false p o q t d f g w h =
    let px : p.x ≡ o.x = ap (λ n. n.x) d in
    let py : p.y ≡ o.y = ap (λ n. n.y) d in
    let x : q.x ≡ t.x = omega (arith, across false p q f, across false o t g) in
    let y : q.y ≡ t.y = omega arith in
    λ i. record { x = x i; y = y i }
