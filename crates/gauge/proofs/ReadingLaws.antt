-- From the rules to a reading: what each return of `read_sample`, and each test on its way, has shown.
--     spring-rules, bridge-rules    what a sound card is
--     own-units           a float that is exactly z 256ths is exactly its own, and these are z
--     at-pin, never-pin   the test on the pin is 22's
--     pressure-whole      a pressure of a sound card is whole, and small enough to be cast
--     row-of-pressure, grid-of-pressure    its row, and whether that is on the grid
--     refusal_21, zero_held, zero_value    what is promised of a card that breaks a rule, a law for each field;
--                         `broken` has them all, for the line of tactics at `read_sample`
--     return-21           so the card breaks a rule
--     return-22, return-23, return_read    the three returns by a sound card
--     sampled-one, gauges-one    a card and a sample have one answer
--     gauges-number       its pressure is no NaN
-- Assumes nothing.
use Rattle.std.proofs.Common.{◌≡◌, ℕ, ◌^◌, ◌<◌, Bool, true, false, cond, not, ◌||◌, T, eqb, ℤ, pos, ◌*ℤ◌, nat_abs, sym, refl}
use Rattle.std.proofs.Common.{ap, ◌∙◌, subst, true≢false, arith}
use lib.Signed.{mag, lt_z, le_z}
use lib.Ieee.{Float, nan, inf, fin, is_nan}
use Rattle.counts.proofs.TestLaws.{and-true}
use Rattle.grid.specs.declared.Coord.{Coord}
use Rattle.grid.specs.Coordinates.{on_grid, coord_of, located}
use Rattle.std.specs.Prelude.{Some, None, Ok, Err}
use Rattle.std.specs.Option.{unwrap_or, is_some}
use lib.Ieee.{binary64, fits}
use lib.Ieee.Exact.{HasValue}
use Rattle.gauge.specs.declared.Card.{Card}
use Rattle.gauge.specs.declared.Card.TheVariants.{Spring, Bridge}
use Rattle.gauge.specs.declared.GaugeRefusal.{GaugeRefusal}
use Rattle.gauge.specs.declared.GaugeRefusal.TheVariants.{BrokenRule, AtPin, OffGrid}
use Rattle.gauge.specs.Values.{units, Exactly}
use Rattle.gauge.specs.Cards.{is_factor, is_pin, is_zero, sound}
use Rattle.gauge.specs.Readings.{pressure, row, at_pin, refusal, number_of, Gauged, refusal_number, handed, Sampled}
use Rattle.gauge.specs.Readings.{Gauges}
use Rattle.gauge.specs.Steps.{Whole}
use Rattle.gauge.proofs.ExactLaws.{exactly-one, exactly-units, zero-exactly}
use Rattle.gauge.proofs.CardLaws.{factor-is}
use Rattle.gauge.proofs.PressureLaws.{product_small, difference-small}

-- ---- the card

module _ {c : Card} {a b : Float} where
  pub spring-rules : c ≡ Spring a b → sound c ≡ true → (is_factor a ≡ true) × (is_pin b ≡ true)
  unfolding sound
  spring-rules e h = and-true (is_factor a) (is_pin b) (sym (ap sound e) ∙ h)

  pub bridge-rules : c ≡ Bridge a b → sound c ≡ true → (is_factor a ≡ true) × (is_zero b ≡ true)
  unfolding sound
  bridge-rules e h = and-true (is_factor a) (is_zero b) (sym (ap sound e) ∙ h)

-- ---- the pressure

pub own-units : {p : Float} {z : ℤ} → Exactly p z → Exactly p (units p)
own-units {p} e = subst (Exactly p) (sym (exactly-units e)) e

pub at-pin : {c : Card} {a b p : Float} (n : ℤ) → c ≡ Spring a b → Exactly p (pressure c n)
    → (lt_z n (pos 0) || le_z (units b) (units p)) ≡ at_pin c n
unfolding at_pin
at-pin {b} n e x =
    let there = exactly-units x ∙ ap (λ k. pressure k n) e in
    ap (λ z. lt_z n (pos 0) || le_z (units b) z) there ∙ sym (ap (λ k. at_pin k n) e)

pub never-pin : {c : Card} {a b : Float} (n : ℤ) → c ≡ Bridge a b → false ≡ at_pin c n
unfolding at_pin
never-pin n e = sym (ap (λ k. at_pin k n) e)

pressure-small : (c : Card) (n : ℤ) → sound c ≡ true → mag n < 32768 → nat_abs (pressure c n) < 2 ^ 53
unfolding pressure
pressure-small (Spring a b) n h k =
    omega (arith, product_small n k (factor-is a (spring-rules refl h).0))
pressure-small (Bridge a b) n h k =
    let rules = bridge-rules refl h in
    difference-small b (n *ℤ units a) (product_small n k (factor-is a rules.0)) rules.1

pub pressure-whole : {p : Float} (c : Card) (n : ℤ) → sound c ≡ true → mag n < 32768 → Exactly p (pressure c n)
    → Whole p
pressure-whole c n h k e =
    let few = subst (λ z. nat_abs z < 2 ^ 53) (sym (exactly-units e)) (pressure-small c n h k) in
    record { exact = own-units e; small = few }

-- ---- the row: r is what `row_of` answers of p

module _ {p : Float} (c : Card) (n r : ℤ) (e : Exactly p (pressure c n)) (f : r ≡ row (units p)) where
  pub row-of-pressure : r ≡ row (pressure c n)
  row-of-pressure = f ∙ ap row (exactly-units e)

  -- o is whether that is on the grid
  pub grid-of-pressure : {o b : Bool} → o ≡ on_grid r → o ≡ b → on_grid (row (pressure c n)) ≡ b
  grid-of-pressure h g = ap on_grid (sym row-of-pressure) ∙ sym h ∙ g

located-some : (r : ℤ) (d : Coord) → located r ≡ Some d → (on_grid r ≡ true) × (r ≡ d.v)
unfolding located
located-some r d e = go (on_grid r) refl e
  where
    go : (b : Bool) → on_grid r ≡ b → cond b (Some (coord_of r)) None ≡ Some d → (on_grid r ≡ true) × (r ≡ d.v)
    go true h g = (h, ap (λ o. (unwrap_or o d).v) g)
    go false h g = absurd (true≢false (sym (ap is_some g)))

located-none : (r : ℤ) → located r ≡ None → on_grid r ≡ false
unfolding located
located-none r e = go (on_grid r) e
  where
    go : (b : Bool) → cond b (Some (coord_of r)) None ≡ None → b ≡ false
    go true g = absurd (true≢false (ap is_some g))
    go false g = refl

-- ---- 21

pub refusal_21 : (c : Card) (n : ℤ) → sound c ≡ false → refusal c n ≡ 21
unfolding refusal
refusal_21 c n s = rw s refl

pub zero_held : fits binary64 (fin false 0 (pos 0)) ≡ true
zero_held = zero-exactly.held

pub zero_value : HasValue (fin false 0 (pos 0)) false 0 256
zero_value = zero-exactly.value

pub ruleset broken = (refusal_21, zero_held, zero_value)

-- ---- the returns of `read_sample`, three of them of `read_sound`

module _ (c : Card) (n : ℤ) where
  refused : (e : GaugeRefusal) → eqb (number_of e) 0 ≡ false → refusal c n ≡ number_of e → Gauges c n (Err e)
  refused e some is =
      let none : eqb (refusal c n) 0 ≡ false = ap (λ m. eqb m 0) is ∙ some in
      record { number = sym is; exact = rw none zero-exactly; place = rw none }

  pub return-21 : sound c ≡ false → Gauges c n (Err BrokenRule)
  unfolding refusal
  return-21 s = refused BrokenRule refl (rw s)

  pub return-22 : sound c ≡ true → at_pin c n ≡ true → Gauges c n (Err AtPin)
  unfolding refusal
  return-22 s a = refused AtPin refl (rw (s, a))

  pub return-23 : (r : ℤ) → sound c ≡ true → at_pin c n ≡ false → r ≡ row (pressure c n) → located r ≡ None
      → Gauges c n (Err OffGrid)
  unfolding refusal
  return-23 r s a f o = refused OffGrid refl (rw (s, a, ← f, located-none r o))

  pub return_read : (p : Float) (r : ℤ) (d : Coord) → sound c ≡ true → at_pin c n ≡ false → Exactly p (pressure c n)
      → r ≡ row (pressure c n) → located r ≡ Some d → Gauges c n (Ok (record { pressure = p; row = d.v }))
  unfolding refusal
  return_read p r d s a e f o =
      let on = located-some r d o in
      let none : refusal c n ≡ 0 = rw (s, a, ← f, on.0) in
      record { number = sym none; exact = rw none e; place = rw none (sym on.1 ∙ f) }

-- ---- one answer

number_of-one : (d e : GaugeRefusal) → number_of d ≡ number_of e → d ≡ e
number_of-one BrokenRule BrokenRule h = refl
number_of-one BrokenRule AtPin h = absurd (omega (arith, h))
number_of-one BrokenRule OffGrid h = absurd (omega (arith, h))
number_of-one AtPin BrokenRule h = absurd (omega (arith, h))
number_of-one AtPin AtPin h = refl
number_of-one AtPin OffGrid h = absurd (omega (arith, h))
number_of-one OffGrid BrokenRule h = absurd (omega (arith, h))
number_of-one OffGrid AtPin h = absurd (omega (arith, h))
number_of-one OffGrid OffGrid h = refl

-- only a reading has the number 0
never-none : (e : GaugeRefusal) → 0 ≡ number_of e → ⊥
never-none BrokenRule h = omega (arith, h)
never-none AtPin h = omega (arith, h)
never-none OffGrid h = omega (arith, h)

refusal_number-one : (g h : Gauged) → refusal_number g ≡ refusal_number h → handed g ≡ handed h → g ≡ h
refusal_number-one (Ok a) (Ok b) e f = ap Ok f
refusal_number-one (Ok a) (Err d) e f = absurd (never-none d e)
refusal_number-one (Err d) (Ok b) e f = absurd (never-none d (sym e))
refusal_number-one (Err d) (Err c) e f = ap Err (number_of-one d c e)

pub sampled-one : {c : Card} {n : ℤ} {k j : ℕ} {p q : Float} {m l : ℤ} → Sampled c n k p m → Sampled c n j q l
    → (k ≡ j) × (p ≡ q) × (m ≡ l)
sampled-one h w =
    (h.number ∙ sym w.number, exactly-one h.exact w.exact, h.place ∙ sym w.place)

pub gauges-one : {c : Card} {n : ℤ} {g h : Gauged} → Gauges c n g → Gauges c n h → g ≡ h
gauges-one {c} {n} {g} {h} p q =
    let w = sampled-one p q in
    refusal_number-one g h w.0 (λ i. record { pressure = w.1 i; row = w.2 i })

number : {z : ℤ} (x : Float) → Exactly x z → T (not (is_nan x))
unfolding is_nan
number nan e = absurd e.value
number (inf s) e = absurd e.value
number (fin s m d) e = tt

pub gauges-number : (c : Card) (n : ℤ) {k : ℕ} (p : Float) {m : ℤ} → Sampled c n k p m → T (not (is_nan p))
gauges-number c n p h = number p h.exact
