-- Laws of tests and of how two numbers lie to each other, for any caller.
--     tests          for `omega`: a test on numbers that passed or failed is the fact it tests
--     and-true, and_intro, or-true, or_left, or_right    tests joined by 'and' and 'or'
--     and_comm, and_same, is_false, not-true, not-false, same_test, xor-back, xor_self, xor-none, xor-both    of
--                   Booleans
--     lt-or-le, Side, side                  of two numbers, by cases
--     leb-not, leb-ltb, eqb_swap            of tests on two numbers
--     or_is, and_is, ltb-is, leb-is, eqb_is, not-ltb-is    a test, or two joined, and what it tests, both ways
-- Assumes nothing.
use mathlib.Core.Path.{◌≡◌, refl, sym, ap, ap₂, ◌∙◌}
use mathlib.Core.Logic.{◌≢◌, ◌⊎◌, inl, inr, ◌↔◌, ⊎_elim}
use mathlib.Core.Bool.{Bool, true, false, not, ◌&&◌, ◌||◌, true≢false}
use Prim.Native.Nat.{ℕ, ◌<◌, ◌≤◌}
use native.Mathlib.Decide.{dec_lt}
use native.Mathlib.Omega.{arith}
use lib.Dec.{ltb, leb, eqb}
use borrow.Author.Tests.{ltb-true, ltb-false, leb-true, leb-false, eqb-true, eqb-false}
use borrow.Author.Tests.{lt-ltb, le-ltb, le-leb, lt-leb, eq-eqb}
use Rattle.counts.specs.Count.{◌⊕◌}

pub ruleset tests = (ltb-true, ltb-false, leb-true, leb-false, eqb-true, eqb-false)

-- ---- Booleans

pub and-true : (p q : Bool) → p && q ≡ true → (p ≡ true) × (q ≡ true)
and-true true q e = (refl, e)
and-true false q e = absurd (true≢false (sym e))

pub and_intro : {p q : Bool} → p ≡ true → q ≡ true → p && q ≡ true
and_intro e f = ap₂ ◌&&◌ e f

pub or-true : (p q : Bool) → p || q ≡ true → (p ≡ true) ⊎ (q ≡ true)
or-true true q e = inl refl
or-true false q e = inr e

pub or_left : {p : Bool} (q : Bool) → p ≡ true → p || q ≡ true
or_left q e = ap (λ t. t || q) e

pub or_right : (p : Bool) {q : Bool} → q ≡ true → p || q ≡ true
or_right true e = refl
or_right false e = e

pub and_comm : (a b : Bool) → a && b ≡ b && a
and_comm true true = refl
and_comm true false = refl
and_comm false true = refl
and_comm false false = refl

-- two tests after a third are one if they agree where that passes
pub and_same : (a : Bool) {b c : Bool} → (a ≡ true → b ≡ c) → a && b ≡ a && c
and_same true h = h refl
and_same false h = refl

pub is_false : (b : Bool) → (b ≡ true → ⊥) → b ≡ false
is_false true h = absurd (h refl)
is_false false h = refl

pub not-true : (b : Bool) → not b ≡ true → b ≡ false
not-true true e = absurd (true≢false (sym e))
not-true false e = refl

pub not-false : (b : Bool) → not b ≡ false → b ≡ true
not-false true e = refl
not-false false e = absurd (true≢false e)

-- two tests that follow from each other are one
pub same_test : (a b : Bool) → (a ≡ true → b ≡ true) → (b ≡ true → a ≡ true) → a ≡ b
same_test true b to from = sym (to refl)
same_test false true to from = from refl
same_test false false to from = refl

pub xor-back : (a b : Bool) → b ⊕ (a ⊕ b) ≡ a
xor-back true true = refl
xor-back true false = refl
xor-back false true = refl
xor-back false false = refl

pub xor_self : (a b : Bool) → a ≡ b → a ⊕ b ≡ false
xor_self a true e = ap (λ b. b ⊕ true) e
xor_self a false e = ap (λ b. b ⊕ false) e

pub xor-none : (a b : Bool) → a ⊕ b ≡ false → a ≡ b
xor-none true b h = sym (not-false b h)
xor-none false b h = sym h

pub xor-both : (a b c : Bool) → a ⊕ b ≡ true → a ⊕ c ≡ true → b ≡ c
xor-both true b c h g = not-true b h ∙ sym (not-true c g)
xor-both false b c h g = h ∙ sym g

-- ---- two numbers

pub lt-or-le : (m n : ℕ) → (m < n) ⊎ (n ≤ m)
lt-or-le m n = go (dec_lt m n)
  where
    go : Dec (m < n) → (m < n) ⊎ (n ≤ m)
    go (yes h) = inl h
    go (no h) = inr (omega arith)

-- how m lies to n
pub data Side (m n : ℕ) : Type 0 where
  less : m < n → Side m n
  equal : m ≡ n → Side m n
  more : n < m → Side m n

pub side : (m n : ℕ) → Side m n
side m n = go (lt-or-le m n) (lt-or-le n m)
  where
    go : (m < n) ⊎ (n ≤ m) → (n < m) ⊎ (m ≤ n) → Side m n
    go (inl h) g = less h
    go (inr h) (inl g) = more g
    go (inr h) (inr g) = equal (omega arith)

-- ---- tests on two numbers

pub leb-not : (m n : ℕ) → leb m n ≡ not (ltb n m)
leb-not m n =
    ⊎_elim (λ l. lt-leb m n l ∙ ap not (sym (lt-ltb n m l))) (λ l. le-leb m n l ∙ ap not (sym (le-ltb n m l)))
    (lt-or-le n m)

pub leb-ltb : (m n : ℕ) → m ≢ n → leb m n ≡ ltb m n
leb-ltb m n h =
    same_test (leb m n) (ltb m n)
    (λ e. let l : m ≤ n = leb-true m n e in lt-ltb m n (omega arith))
    (λ e. let l : m < n = ltb-true m n e in le-leb m n (omega arith))

pub eqb_swap : (m n : ℕ) → eqb m n ≡ eqb n m
eqb_swap m n =
    same_test (eqb m n) (eqb n m) (λ e. eq-eqb n m (sym (eqb-true m n e))) (λ e. eq-eqb m n (sym (eqb-true n m e)))

-- ---- tests and what they test, both ways

pub or_is : {A B : Type 0} (p q : Bool) → (p ≡ true) ↔ A → (q ≡ true) ↔ B → (p || q ≡ true) ↔ (A ⊎ B)
or_is p q h g = (
  λ e. ⊎_elim (λ l. inl (h.0 l)) (λ r. inr (g.0 r)) (or-true p q e),
  ⊎_elim (λ l. or_left q (h.1 l)) (λ r. or_right p (g.1 r)),
)

-- the second test matters only where the first has passed
pub and_is : {A B : Type 0} (p q : Bool) → (p ≡ true) ↔ A → (A → (q ≡ true) ↔ B) → (p && q ≡ true) ↔ (A × B)
and_is p q h g = (
  λ e. let w = and-true p q e in let l = h.0 w.0 in (l, (g l).0 w.1),
  λ w. and_intro (h.1 w.0) ((g w.0).1 w.1),
)

pub ltb-is : {b : Bool} {m n : ℕ} → b ≡ ltb m n → (b ≡ true) ↔ (m < n)
ltb-is e = (λ h. ltb-true _ _ (sym e ∙ h), λ h. e ∙ lt-ltb _ _ h)

pub leb-is : {b : Bool} {m n : ℕ} → b ≡ leb m n → (b ≡ true) ↔ (m ≤ n)
leb-is e = (λ h. leb-true _ _ (sym e ∙ h), λ h. e ∙ le-leb _ _ h)

pub eqb_is : {b : Bool} {m n : ℕ} → b ≡ eqb m n → (b ≡ true) ↔ (m ≡ n)
eqb_is e = (λ h. eqb-true _ _ (sym e ∙ h), λ h. e ∙ eq-eqb _ _ h)

pub not-ltb-is : {b : Bool} {m n : ℕ} → b ≡ ltb n m → (not b ≡ true) ↔ (m ≤ n)
not-ltb-is {b} {m} {n} e = leb-is (ap not e ∙ sym (leb-not m n))
