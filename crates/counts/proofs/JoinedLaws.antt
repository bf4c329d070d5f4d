-- Laws of tests joined by 'and', and of what they count; of any tests.
--     and-always, and-never     where the second passes, or fails, whenever the first passes
--     and-moved                 where the second is, whenever the first passes, two tests of which one may come first
--     up-to                     of a number: below η + 1 is below η, or at η
--     parted                    what passes c and just one of two tests is counted once
-- Assumes nothing.
use mathlib.Core.Path.{◌≡◌, refl, ap, ap₂, ◌∙◌}
use mathlib.Core.Bool.{Bool, true, false, ◌&&◌}
use Prim.Native.Nat.{ℕ, suc, ◌+◌}
use native.Mathlib.Omega.{arith}
use lib.Dec.{ltb, eqb}
use borrow.Author.Tests.{lt-ltb, le-ltb, eq-eqb, ne_eqb}
use Rattle.counts.specs.Count.{ind}
use Rattle.counts.proofs.TestLaws.{Side, less, equal, more, side}

pub and-always : (a b : Bool) → (a ≡ true → b ≡ true) → a && b ≡ a
and-always true b h = h refl
and-always false b h = refl

pub and-never : (a b : Bool) → (a ≡ true → b ≡ false) → a && b ≡ false
and-never true b h = h refl
and-never false b h = refl

pub and-moved : (a b c k : Bool) → (b ≡ true → c ≡ a && k) → b && c ≡ a && b && k
and-moved true true c k h = h refl
and-moved true false c k h = refl
and-moved false true c k h = h refl
and-moved false false c k h = refl

pub up-to : (b : Bool) (h η : ℕ) → ind (b && ltb h (suc η)) ≡ ind (b && ltb h η) + ind (b && eqb h η)
up-to true h η = go (side h η)
  where
    go : Side h η → ind (ltb h (suc η)) ≡ ind (ltb h η) + ind (eqb h η)
    go (less l) = rw (lt-ltb h (suc η) (omega arith), lt-ltb _ _ l, ne_eqb h η (omega arith)) refl
    go (equal l) = rw (lt-ltb h (suc η) (omega arith), le-ltb h η (omega arith), eq-eqb _ _ l) refl
    go (more l) = rw (le-ltb h (suc η) l, le-ltb h η (omega arith), ne_eqb h η (omega arith)) refl
up-to false h η = refl

pub parted : (p q c : Bool) → (c ≡ true → ind p + ind q ≡ 1) → ind (p && c) + ind (q && c) ≡ ind c
parted p q true h = ap₂ ◌+◌ (ap ind (and-always p true (λ e. refl))) (ap ind (and-always q true (λ e. refl))) ∙ h refl
parted p q false h = ap₂ ◌+◌ (ap ind (and-never p false (λ e. refl))) (ap ind (and-never q false (λ e. refl)))
