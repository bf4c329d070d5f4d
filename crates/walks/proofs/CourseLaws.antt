-- The courses of records at one corner, and how they turn onto each other, whichever half each is of. The course of a
-- record is its way from the corner; a right half's is turned about the corner.
--     onto r e                  the course of r turns counter-clockwise onto that of e
--     onto-once, onto-trans     not both ways; through a third
--     onto-level                and through one with which the third is in line
--     turns_right-onto, turns_left-onto   records of one half turn as their courses do, records of two halves the other
--                               way
-- Assumes nothing.
use mathlib.Core.Path.{◌≡◌, refl, ap, subst}
use mathlib.Core.Logic.{inl, inr}
use mathlib.Core.Bool.{Bool, true, false, cond}
use Prim.Native.Nat.{ℕ, ◌+◌, ◌-◌, ◌*◌}
use native.Mathlib.Omega.{arith}
use lib.Dec.{ltb}
use borrow.Author.Tests.{ltb-true, ltb-false, lt-ltb, le-ltb}
use Rattle.counts.specs.Count.{◌⊕◌}
use Rattle.counts.proofs.TestLaws.{same_test}
use Rattle.plane.specs.declared.Point.{Point}
use Rattle.plane.specs.Turns.{plus, minus, turns_left, turns_right}
use Rattle.plane.proofs.PointLaws.{Before}
use Rattle.record.specs.declared.Record.{Record}
use Rattle.record.specs.Order.{left, Proper}
use Rattle.record.proofs.WayLaws.{Way, Ahead, fore, back, Leading, leading-trans}
use Rattle.record.proofs.HalfLaws.{Goes, way, heading, goes, ahead, balance}

abbrev course : Record → Way
course r = heading (left r) r

abbrev turns_onto : Way → Way → Bool
turns_onto w z = ltb (back w z) (fore w z)

abbrev pub onto : Record → Record → Bool
onto r e = turns_onto (course r) (course e)

-- ---- an order

once : (w z : Way) → turns_onto w z ≡ true → turns_onto z w ≡ false
once w z h = le-ltb (back z w) (fore z w) (omega (arith, ltb-true (back w z) (fore w z) h))

level : (w z : Way) → turns_onto w z ≡ false → turns_onto z w ≡ false → back w z ≡ fore w z
level w z h g = omega (arith, ltb-false (back w z) (fore w z) h, ltb-false (back z w) (fore z w) g)

pub onto-once : (r e : Record) → onto r e ≡ true → onto e r ≡ false
onto-once r e = once (course r) (course e)

module _ (r e t : Record) (pr : Proper r) (pe : Proper e) (pt : Proper t) where
  course-ahead : (r : Record) → Proper r → Ahead (course r)
  course-ahead r p = ahead (left r) r (goes (left r) r p refl)

  through : (m n k : ℕ) → Leading (course r) (course e) m n → Leading (course e) (course t) n k
      → Leading (course r) (course t) m k
  through m n k = leading-trans _ _ _ m n k (course-ahead r pr) (course-ahead e pe) (course-ahead t pt)

  strictly : (m : ℕ) → Leading (course r) (course t) m m → onto r t ≡ true
  strictly m (inl l) = lt-ltb _ _ l
  strictly m (inr l) = absurd (omega (arith, l.1))

  pub onto-trans : onto r e ≡ true → onto e t ≡ true → onto r t ≡ true
  onto-trans h g = strictly 0 (through 0 0 0 (inl (ltb-true _ _ h)) (inl (ltb-true _ _ g)))

  pub onto-level : onto r e ≡ true → onto e t ≡ false → onto t e ≡ false → onto r t ≡ true
  onto-level h g k =
      let in-line = level (course e) (course t) g k in
      strictly 1 (through 1 0 1 (inl (ltb-true _ _ h)) (inr (in-line, omega arith)))

-- ---- turns of records

-- a way and one to the other side, turned about the corner: that turns their determinant
spread : (p q t : Point) → Before p q → Before t p
    → plus p q t + fore (way true p q) (way false p t) ≡ minus p q t + back (way true p q) (way false p t)
spread p q t f g = weigh (q.x - p.x) (p.x - t.x) (column p q f) (column t p g)
  where
    column : (p q : Point) → Before p q → p.x + (q.x - p.x) ≡ q.x
    column p q (inl h) = omega arith
    column p q (inr h) = omega arith

    weigh : (a c : ℕ) → p.x + a ≡ q.x → t.x + c ≡ p.x
        → plus p q t + (a * p.y + c * p.y) ≡ minus p q t + (a * t.y + c * q.y)
    weigh a c x y =
        omega (
          arith,
          ap (λ n. n * t.y) x,
          ap (λ n. n * p.y) x,
          ap (λ n. n * p.y) y,
          ap (λ n. n * q.y) y,
        )

-- numbers that differ as the two products of two ways
alike : (n m : ℕ) (w z : Way) → n + back w z ≡ m + fore w z
    → (ltb n m ≡ turns_onto z w) × (ltb m n ≡ turns_onto w z)
alike n m w z e = (
  lies n m (back z w) (fore z w) (omega (arith, e)),
  lies m n (back w z) (fore w z) (omega (arith, e)),
)
  where
    lies : (a b c d : ℕ) → a + d ≡ b + c → ltb a b ≡ ltb c d
    lies a b c d e =
        same_test (ltb a b) (ltb c d) (λ h. lt-ltb c d (omega (arith, ltb-true a b h)))
        (λ h. lt-ltb a b (omega (arith, ltb-true c d h)))

module _ (p q t : Point) where
  abbrev Turns : Point → Bool → Bool → Type 0
  Turns o h g =
      let w = way h p q in
      let z = way g o t in
      (turns_right p q t ≡ cond (h ⊕ g) (turns_onto w z) (turns_onto z w))
      × (turns_left p q t ≡ cond (h ⊕ g) (turns_onto z w) (turns_onto w z))

  turns_at : (h g : Bool) → Goes h p q → Goes g p t → Turns p h g
  unfolding turns_right turns_left
  turns_at true true f g = alike (plus p q t) (minus p q t) _ _ (balance true p p q t refl f g)
  turns_at false false f g = alike (plus p q t) (minus p q t) _ _ (balance false p p q t refl f g)
  turns_at true false f g =
      alike (plus p q t) (minus p q t) (way false p t) (way true p q) (omega (arith, spread p q t f g))
  turns_at false true f g =
      alike (plus p q t) (minus p q t) (way true p t) (way false p q) (omega (arith, spread p t q g f))

  turns : (o : Point) → p ≡ o → (h g : Bool) → Goes h p q → Goes g o t → Turns o h g
  turns o d h g f = subst (λ o. Goes g o t → Turns o h g) d (turns_at h g f)

module _ (r e : Record) (pr : Proper r) (pe : Proper e) (d : r.dom ≡ e.dom) where
  abbrev both : Turns r.dom r.other e.other e.dom (left r) (left e)
  both = turns _ _ _ _ d (left r) (left e) (goes (left r) r pr refl) (goes (left e) e pe refl)

  pub turns_right-onto : turns_right r.dom r.other e.other ≡ cond (left r ⊕ left e) (onto r e) (onto e r)
  turns_right-onto = both.0

  pub turns_left-onto : turns_left r.dom r.other e.other ≡ cond (left r ⊕ left e) (onto e r) (onto r e)
  turns_left-onto = both.1
