-- The order of two records at one end and of one half: document 01's determinant, and that it orders them strictly.
--     turn r e         the determinant of the directions of two records
--     leads-is         `leads` is the sign of `turn`, and of two in line the shorter leads
--     leads-asym       of two records at most one leads the other
--     leads-trans      through a third record
--     leads-total      records of which none leads the other have the same ends
-- Assumes nothing.
use mathlib.Core.Path.{◌≡◌, sym, ap, ◌∙◌}
use mathlib.Core.Logic.{◌⊎◌, inl, inr, ◌↔◌}
use mathlib.Core.Bool.{Bool, true, false, ◌&&◌, ◌||◌, true≢false}
use Prim.Native.Nat.{ℕ, ◌+◌, ◌<◌}
use native.Mathlib.Omega.{arith}
use lib.Dec.{ltb}
use lib.IntN.{ℤ, pos}
use lib.Signed.{lt_z}
use borrow.Author.Tests.{ltb-true, lt-ltb, eqb-true, eq-eqb}
use Rattle.counts.proofs.TestLaws.{and-true, and_intro, or-true, or_left, or_right}
use Rattle.counts.proofs.TestLaws.{Side, less, equal, more, side}
use Rattle.plane.specs.declared.Point.{Point}
use Rattle.plane.specs.Turns.{direction, determinant, plus, minus, turns_left, straight}
use Rattle.plane.proofs.SideLaws.{Left, Level}
use Rattle.plane.proofs.DeterminantLaws.{turns_left-is, straight-is}
use Rattle.record.specs.declared.Record.{Record}
use Rattle.record.specs.Order.{left, Proper, square_length, leads}
use Rattle.record.proofs.WayLaws.{fore, back, Leading, leading-trans}
use Rattle.record.proofs.InlineLaws.{one_way}
use Rattle.record.proofs.HalfLaws.{Goes, heading, goes, ahead, balance, square-is, same_end}

-- ---- what `leads` says

abbrev Leads : Record → Record → Type 0
Leads r e =
    Left r.dom r.other e.other
    ⊎ (Level r.dom r.other e.other × (square_length r < square_length e))

leads-true : (r e : Record) → leads r e ≡ true → Leads r e
unfolding leads turns_left straight
leads-true r e h = by-case (or-true (turns_left r.dom r.other e.other) _ h)
  where
    by-case : (turns_left r.dom r.other e.other ≡ true)
        ⊎ (straight r.dom r.other e.other && ltb (square_length r) (square_length e) ≡ true) → Leads r e
    by-case (inl g) = inl (ltb-true _ _ g)
    by-case (inr g) =
        let both = and-true (straight r.dom r.other e.other) _ g in
        inr (eqb-true _ _ both.0, ltb-true _ _ both.1)

leads-intro : (r e : Record) → Leads r e → leads r e ≡ true
unfolding leads turns_left straight
leads-intro r e (inl h) = or_left _ (lt-ltb _ _ h)
leads-intro r e (inr h) =
    let level = eq-eqb (minus r.dom r.other e.other) (plus r.dom r.other e.other) h.0 in
    or_right (turns_left r.dom r.other e.other) (and_intro level (lt-ltb _ _ h.1))

-- the determinant of the directions of two records
abbrev pub turn : Record → Record → ℤ
turn r e = determinant (direction r.dom r.other) (direction e.dom e.other)

pub leads-is : (r e : Record) → r.dom ≡ e.dom
    → (leads r e ≡ true)
    ↔ ((lt_z (pos 0) (turn r e) ≡ true) ⊎ ((turn r e ≡ pos 0) × (square_length r < square_length e)))
unfolding leads
leads-is r e d = (λ h. onward (or-true (turns_left p q t) _ h), back-again)
  where
    p : Point
    p = r.dom

    q : Point
    q = r.other

    t : Point
    t = e.other

    here : determinant (direction p q) (direction p t) ≡ turn r e
    here = ap (λ o. determinant (direction p q) (direction o t)) d

    onward : (turns_left p q t ≡ true) ⊎ (straight p q t && ltb (square_length r) (square_length e) ≡ true)
        → (lt_z (pos 0) (turn r e) ≡ true) ⊎ ((turn r e ≡ pos 0) × (square_length r < square_length e))
    onward (inl h) = inl (ap (λ z. lt_z (pos 0) z) (sym here) ∙ sym (turns_left-is p q t) ∙ h)
    onward (inr h) =
        let both = and-true (straight p q t) _ h in
        inr (sym here ∙ (straight-is p q t).0 both.0, ltb-true _ _ both.1)

    back-again : (lt_z (pos 0) (turn r e) ≡ true) ⊎ ((turn r e ≡ pos 0) × (square_length r < square_length e))
        → turns_left p q t || (straight p q t && ltb (square_length r) (square_length e)) ≡ true
    back-again (inl h) = or_left _ (turns_left-is p q t ∙ ap (λ z. lt_z (pos 0) z) here ∙ h)
    back-again (inr h) =
        or_right (turns_left p q t) (and_intro ((straight-is p q t).1 (here ∙ h.0)) (lt-ltb _ _ h.1))

-- ---- at most one of two leads

-- two corners exchanged exchange plus and minus
plus-cross : (r s : Record) → r.dom ≡ s.dom
    → plus s.dom s.other r.other ≡ minus r.dom r.other s.other
plus-cross r s d = ap (λ p. plus p s.other r.other) (sym d) ∙ omega arith

minus-cross : (r s : Record) → r.dom ≡ s.dom
    → minus s.dom s.other r.other ≡ plus r.dom r.other s.other
minus-cross r s d = ap (λ p. minus p s.other r.other) (sym d) ∙ omega arith

pub leads-asym : (r s : Record) → r.dom ≡ s.dom → leads r s ≡ true → leads s r ≡ true → ⊥
leads-asym r s d h g = by-case (leads-true r s h) (leads-true s r g)
  where
    by-case : Leads r s → Leads s r → ⊥
    by-case (inl x) (inl y) = omega (arith, plus-cross r s d, minus-cross r s d)
    by-case (inl x) (inr y) = omega (arith, plus-cross r s d, minus-cross r s d)
    by-case (inr x) (inl y) = omega (arith, plus-cross r s d, minus-cross r s d)
    by-case (inr x) (inr y) = omega arith

-- ---- records at one end and of one half

module _ (b : Bool) (r s : Record) (d : r.dom ≡ s.dom)
    (f : Goes b r.dom r.other) (g : Goes b s.dom s.other) where
  weighed : plus r.dom r.other s.other + back (heading b r) (heading b s)
      ≡ minus r.dom r.other s.other + fore (heading b r) (heading b s)
  weighed = balance b r.dom s.dom r.other s.other d f g

  to-ways : Leads r s → Leading (heading b r) (heading b s) (square_length r) (square_length s)
  to-ways (inl h) = inl (omega (arith, weighed))
  to-ways (inr h) = inr (omega (arith, weighed), h.1)

  from-ways : Leading (heading b r) (heading b s) (square_length r) (square_length s) → Leads r s
  from-ways (inl h) = inl (omega (arith, weighed))
  from-ways (inr h) = inr (omega (arith, weighed), h.1)

  one_end : Level r.dom r.other s.other → square_length r ≡ square_length s → r.other ≡ s.other
  one_end e q =
      let level : back (heading b r) (heading b s) ≡ fore (heading b r) (heading b s) = omega (arith, weighed) in
      let long = sym (square-is b r f) ∙ q ∙ square-is b s g in
      let both = one_way (heading b r) (heading b s) (ahead b r f) (ahead b s g) level long in
      same_end b r.dom s.dom r.other s.other d f g both.0 both.1

pub leads-trans : (b : Bool) (r s t : Record) → Proper r → Proper s → Proper t
    → left r ≡ b → left s ≡ b → left t ≡ b → r.dom ≡ s.dom → s.dom ≡ t.dom
    → leads r s ≡ true → leads s t ≡ true → leads r t ≡ true
leads-trans b r s t pr ps pt er es et d e h g =
    let fr = goes b r pr er in
    let fs = goes b s ps es in
    let ft = goes b t pt et in
    let first = to-ways b r s d fr fs (leads-true r s h) in
    let second = to-ways b s t e fs ft (leads-true s t g) in
    let through = leading-trans _ _ _ _ _ _ (ahead b r fr) (ahead b s fs) (ahead b t ft) first second in
    leads-intro r t (from-ways b r t (d ∙ e) fr ft through)

pub leads-total : (b : Bool) (r s : Record) → Proper r → Proper s → left r ≡ b → left s ≡ b → r.dom ≡ s.dom
    → leads r s ≡ false → leads s r ≡ false → r.other ≡ s.other
leads-total b r s pr ps er es d h g = by_turn (side less_by more_by) (side (square_length r) (square_length s))
  where
    less_by : ℕ
    less_by = minus r.dom r.other s.other

    more_by : ℕ
    more_by = plus r.dom r.other s.other

    not-onto : Leads r s → ⊥
    not-onto l = true≢false (sym (leads-intro r s l) ∙ h)

    not_back : Leads s r → ⊥
    not_back l = true≢false (sym (leads-intro s r l) ∙ g)

    by_turn : Side less_by more_by → Side (square_length r) (square_length s) → r.other ≡ s.other
    by_turn (less l) k = absurd (not-onto (inl l))
    by_turn (more l) k = absurd (not_back (inl (omega (arith, plus-cross r s d, minus-cross r s d))))
    by_turn (equal e) (less k) = absurd (not-onto (inr (e, k)))
    by_turn (equal e) (more k) = absurd (not_back (inr (omega (arith, plus-cross r s d, minus-cross r s d), k)))
    by_turn (equal e) (equal k) = one_end b r s d (goes b r pr er) (goes b s ps es) e k
