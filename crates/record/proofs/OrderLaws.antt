-- That document 01's order of records is a strict total order of proper records.
--     Precedes r e, precedes-true, precedes-intro    `precedes` as a statement, both ways
--     precedes-mark       the marks do not count
--     precedes-asym       of two records at most one precedes the other
--     precedes-irrefl     no record precedes itself
--     precedes-trans      through a third record
--     precedes-total      records of which none precedes the other have the same ends
-- Assumes nothing.
use mathlib.Core.Path.{◌≡◌, refl, sym, ap, ◌∙◌}
use mathlib.Core.Logic.{◌⊎◌, inl, inr}
use mathlib.Core.Bool.{Bool, true, false, cond, ◌&&◌, true≢false}
use Rattle.counts.specs.Count.{◌⊕◌}
use Rattle.counts.proofs.TestLaws.{and-true, and_intro, or-true, or_left, or_right, is_false}
use Rattle.plane.specs.declared.Point.{Point}
use Rattle.plane.specs.Points.{before, same}
use Rattle.plane.proofs.PointLaws.{before-irrefl, before-trans, before-once, trichotomy, same_true, same_refl}
use Rattle.record.specs.declared.Record.{Record}
use Rattle.record.specs.Order.{left, Proper, square_length, leads, earlier, precedes}
use Rattle.record.proofs.LeadLaws.{leads-asym, leads-trans, leads-total}

pub precedes-mark : (r s p q : Record)
    → r.dom ≡ p.dom → r.other ≡ p.other → s.dom ≡ q.dom → s.other ≡ q.other
    → precedes r s ≡ precedes p q
unfolding precedes earlier leads square_length
precedes-mark r s p q d o e f =
    λ i.
    let first : Record = record { dom = d i; other = o i; mark = r.mark } in
    let second : Record = record { dom = e i; other = f i; mark = s.mark } in
    precedes first second

-- ---- what `precedes` says

abbrev pub Precedes : Record → Record → Type 0
Precedes r e = (before r.dom e.dom ≡ true) ⊎ ((r.dom ≡ e.dom) × (earlier r e ≡ true))

pub precedes-true : (r e : Record) → precedes r e ≡ true → Precedes r e
unfolding precedes
precedes-true r e h = by-case (or-true (before r.dom e.dom) _ h)
  where
    by-case : (before r.dom e.dom ≡ true) ⊎ (same r.dom e.dom && earlier r e ≡ true) → Precedes r e
    by-case (inl g) = inl g
    by-case (inr g) =
        let both = and-true (same r.dom e.dom) _ g in
        inr (same_true r.dom e.dom both.0, both.1)

pub precedes-intro : (r e : Record) → Precedes r e → precedes r e ≡ true
unfolding precedes
precedes-intro r e (inl h) = or_left _ h
precedes-intro r e (inr h) =
    let one = ap (λ p. same r.dom p) (sym h.0) ∙ same_refl r.dom in
    or_right (before r.dom e.dom) (and_intro one h.1)

-- ---- at most one of two

earlier-asym : (r s : Record) → r.dom ≡ s.dom → earlier r s ≡ true → earlier s r ≡ true → ⊥
unfolding earlier
earlier-asym r s d h g = by-halves (left r) (left s) h g
  where
    by-halves : (a b : Bool) → cond (a ⊕ b) b (leads r s) ≡ true → cond (b ⊕ a) a (leads s r) ≡ true → ⊥
    by-halves true true h g = leads-asym r s d h g
    by-halves true false h g = true≢false (sym h)
    by-halves false true h g = true≢false (sym g)
    by-halves false false h g = leads-asym r s d h g

pub precedes-asym : (r s : Record) → precedes r s ≡ true → precedes s r ≡ false
precedes-asym r s h = is_false (precedes s r) (λ g. by-case (precedes-true r s h) (precedes-true s r g))
  where
    not_back : (p q : Point) → p ≡ q → before p q ≡ true → ⊥
    not_back p q e h = before-irrefl p (ap (λ q. before p q) e ∙ h)

    by-case : Precedes r s → Precedes s r → ⊥
    by-case (inl x) (inl y) = before-once r.dom s.dom x y
    by-case (inl x) (inr y) = not_back r.dom s.dom (sym y.0) x
    by-case (inr x) (inl y) = not_back s.dom r.dom (sym x.0) y
    by-case (inr x) (inr y) = earlier-asym r s x.0 x.1 y.1

pub precedes-irrefl : (r : Record) → precedes r r ≡ true → ⊥
precedes-irrefl r h = true≢false (sym h ∙ precedes-asym r r h)

-- ---- through a third

earlier-trans : (r s t : Record) → Proper r → Proper s → Proper t → r.dom ≡ s.dom → s.dom ≡ t.dom
    → earlier r s ≡ true → earlier s t ≡ true → earlier r t ≡ true
unfolding earlier
earlier-trans r s t pr ps pt d e h g = by-halves (left r) (left s) (left t) refl refl refl h g
  where
    by-halves : (a b c : Bool) → left r ≡ a → left s ≡ b → left t ≡ c
        → cond (a ⊕ b) b (leads r s) ≡ true → cond (b ⊕ c) c (leads s t) ≡ true → cond (a ⊕ c) c (leads r t) ≡ true
    by-halves true true true x y z h g = leads-trans true r s t pr ps pt x y z d e h g
    by-halves true true false x y z h g = g
    by-halves true false c x y z h g = absurd (true≢false (sym h))
    by-halves false true true x y z h g = refl
    by-halves false true false x y z h g = absurd (true≢false (sym g))
    by-halves false false true x y z h g = refl
    by-halves false false false x y z h g = leads-trans false r s t pr ps pt x y z d e h g

pub precedes-trans : (r s t : Record) → Proper r → Proper s → Proper t
    → precedes r s ≡ true → precedes s t ≡ true → precedes r t ≡ true
precedes-trans r s t pr ps pt h g = precedes-intro r t (by-case (precedes-true r s h) (precedes-true s t g))
  where
    by-case : Precedes r s → Precedes s t → Precedes r t
    by-case (inl x) (inl y) = inl (before-trans r.dom s.dom t.dom x y)
    by-case (inl x) (inr y) = inl (ap (λ p. before r.dom p) (sym y.0) ∙ x)
    by-case (inr x) (inl y) = inl (ap (λ p. before p t.dom) x.0 ∙ y)
    by-case (inr x) (inr y) = inr (x.0 ∙ y.0, earlier-trans r s t pr ps pt x.0 y.0 x.1 y.1)

-- ---- one of two

earlier-total : (r s : Record) → Proper r → Proper s → r.dom ≡ s.dom
    → earlier r s ≡ false → earlier s r ≡ false → r.other ≡ s.other
unfolding earlier
earlier-total r s pr ps d h g = by-halves (left r) (left s) refl refl h g
  where
    by-halves : (a b : Bool) → left r ≡ a → left s ≡ b
        → cond (a ⊕ b) b (leads r s) ≡ false → cond (b ⊕ a) a (leads s r) ≡ false → r.other ≡ s.other
    by-halves true true x y h g = leads-total true r s pr ps x y d h g
    by-halves true false x y h g = absurd (true≢false g)
    by-halves false true x y h g = absurd (true≢false h)
    by-halves false false x y h g = leads-total false r s pr ps x y d h g

pub precedes-total : (r s : Record) → Proper r → Proper s → precedes r s ≡ false → precedes s r ≡ false
    → (r.dom ≡ s.dom) × (r.other ≡ s.other)
precedes-total r s pr ps h g = by-case (trichotomy r.dom s.dom)
  where
    not-onto : Precedes r s → ⊥
    not-onto l = true≢false (sym (precedes-intro r s l) ∙ h)

    not_back : Precedes s r → ⊥
    not_back l = true≢false (sym (precedes-intro s r l) ∙ g)

    by-case : (before r.dom s.dom ≡ true) ⊎ ((r.dom ≡ s.dom) ⊎ (before s.dom r.dom ≡ true))
        → (r.dom ≡ s.dom) × (r.other ≡ s.other)
    by-case (inl l) = absurd (not-onto (inl l))
    by-case (inr (inl d)) =
        let f = is_false (earlier r s) (λ e. not-onto (inr (d, e))) in
        let b = is_false (earlier s r) (λ e. not_back (inr (sym d, e))) in
        (d, earlier-total r s pr ps d f b)
    by-case (inr (inr l)) = absurd (not_back (inl l))
