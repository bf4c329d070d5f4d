-- Lists of which as many members pass a test, or every test.
--     any-count    some member of the one passes exactly if some of the other does
--     mem-count    they have the same members
-- Assumes nothing.
use mathlib.Core.Path.{◌≡◌, subst}
use mathlib.Core.Bool.{Bool, true}
use mathlib.Core.List.{List}
use Prim.Native.Nat.{◌<◌}
use native.Mathlib.Omega.{arith}
use Rattle.counts.specs.Count.{◌∈◌, count, any}
use Rattle.counts.proofs.TestLaws.{same_test}
use Rattle.counts.proofs.CountLaws.{count-some, any-is}
use Rattle.counts.proofs.HighestLaws.{any-member}

pub any-count : {A B : Type 0} (p : A → Bool) (q : B → Bool) (xs : List A) (ys : List B)
    → count p xs ≡ count q ys → any p xs ≡ any q ys
any-count p q xs ys e =
    same_test (any p xs) (any q ys) (λ t. (any-is q ys).1 (omega (arith, (any-is p xs).0 t)))
    (λ t. (any-is p xs).1 (omega (arith, (any-is q ys).0 t)))

pub mem-count : {A : Type 0} (same : A → A → Bool) → ((x y : A) → same x y ≡ true → y ≡ x)
    → ((x : A) → same x x ≡ true) → (xs ys : List A) → ((q : A → Bool) → count q xs ≡ count q ys)
    → (x : A) → x ∈ xs → x ∈ ys
mem-count same same_true same_refl xs ys e x m =
    let l : 0 < count (same x) ys = omega (arith, count-some (same x) xs x m (same_refl x), e (same x)) in
    let w = (any-member (same x) ys).0 ((any-is (same x) ys).1 l) in
    subst (λ z. z ∈ ys) (same_true x w.0 w.2) w.1
