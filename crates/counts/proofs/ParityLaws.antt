-- Laws of parities: `odd` and `Even`.
--     odd-plus, odd-ind, odd-add, odd-less     of sums and differences
--     odd-same, odd-off                        of equal remainders; not odd is even
--     odd-any                                  where at most one passes, the parity says whether one does
--     even-parities                            of three numbers with an even sum, one is odd exactly if just one of
--                                              the two others is
-- Assumes nothing.
use mathlib.Core.Path.{◌≡◌, refl, sym, ap, ◌∙◌}
use mathlib.Core.Logic.{◌↔◌}
use mathlib.Core.Bool.{Bool, true, false}
use mathlib.Core.List.{List}
use Prim.Native.Nat.{ℕ, ◌+◌, ◌%◌, ◌≤◌}
use native.Mathlib.Omega.{arith}
use lib.Dec.{eqb}
use borrow.Author.Tests.{eqb-false, eq-eqb, ne_eqb}
use Rattle.counts.specs.Count.{ind, count, any, odd, Even, ◌⊕◌}
use Rattle.counts.proofs.TestLaws.{tests}
use Rattle.counts.proofs.CountLaws.{count-any}

pub odd-plus : (m n : ℕ) → odd (m + n) ≡ odd m ⊕ odd n
odd-plus m n = go (eqb (m % 2) 1) (eqb (n % 2) 1) refl refl
  where
    go : (a b : Bool) → eqb (m % 2) 1 ≡ a → eqb (n % 2) 1 ≡ b → odd (m + n) ≡ a ⊕ b
    go true true p q = ne_eqb ((m + n) % 2) 1 (omega (arith, tests))
    go true false p q = eq-eqb ((m + n) % 2) 1 (omega (arith, tests, eqb-false (n % 2) 1 q))
    go false true p q = eq-eqb ((m + n) % 2) 1 (omega (arith, tests, eqb-false (m % 2) 1 p))
    go false false p q = ne_eqb ((m + n) % 2) 1 (omega (arith, eqb-false (m % 2) 1 p, eqb-false (n % 2) 1 q))

pub odd-ind : (b : Bool) → odd (ind b) ≡ b
odd-ind true = refl
odd-ind false = refl

pub odd-add : (a : ℕ) (d : Bool) → odd (a + ind d) ≡ odd a ⊕ d
odd-add a d = odd-plus a (ind d) ∙ ap (λ b. odd a ⊕ b) (odd-ind d)

pub odd-less : (m n g : ℕ) → m ≡ n + g → odd g ≡ odd m ⊕ odd n
odd-less m n g e = sym (ap (λ k. odd k ⊕ odd n) e ∙ ap (λ b. b ⊕ odd n) (odd-plus n g) ∙ table (odd n) (odd g))
  where
    table : (a b : Bool) → a ⊕ b ⊕ a ≡ b
    table true true = refl
    table true false = refl
    table false true = refl
    table false false = refl

-- the same remainder is the same parity
pub odd-same : (m n : ℕ) → m % 2 ≡ n % 2 → odd m ≡ odd n
odd-same m n e = ap (λ k. eqb k 1) e

-- what is not odd is even
pub odd-off : (n : ℕ) → (odd n ≡ false) ↔ Even n
odd-off n = ((λ e. omega (arith, eqb-false (n % 2) 1 e)), (λ e. ne_eqb (n % 2) 1 (omega arith)))

pub odd-any : {A : Type 0} (p : A → Bool) (xs : List A) → count p xs ≤ 1 → odd (count p xs) ≡ any p xs
odd-any p xs most = ap odd (count-any p xs most) ∙ odd-ind (any p xs)

pub even-parities : (m n k : ℕ) → Even (m + n + k) → (odd m ⊕ odd k ≡ odd n) × (odd m ⊕ odd n ≡ odd k)
even-parities m n k e = (
  sym (odd-plus m k) ∙ odd-same (m + k) n (omega arith),
  sym (odd-plus m n) ∙ odd-same (m + n) k (omega arith),
)
