-- Laws of `keep`.
--     keep_append, keep-keep     of two lists, and of two tests one after the other
--     keep-length                as many are kept as are counted
-- Assumes nothing.
use mathlib.Core.Path.{◌≡◌, refl, ap}
use mathlib.Core.Bool.{Bool, true, false, cond, ◌&&◌}
use mathlib.Core.List.{List, [], ◌∷◌, ◌++◌}
use Prim.Native.Nat.{◌+◌}
use native.Mathlib.Omega.{arith}
use lib.ListN.{length}
use Rattle.counts.specs.Count.{ind, sum, count, keep}

module _ {A : Type 0} (p : A → Bool) where
  pub keep_append : (xs ys : List A) → keep p (xs ++ ys) ≡ keep p xs ++ keep p ys
  unfolding keep
  keep_append [] ys = refl
  keep_append (x ∷ xs) ys = go (p x) (keep_append xs ys)
    where
      go : (b : Bool) → keep p (xs ++ ys) ≡ keep p xs ++ keep p ys
          → cond b (x ∷ keep p (xs ++ ys)) (keep p (xs ++ ys)) ≡ cond b (x ∷ keep p xs) (keep p xs) ++ keep p ys
      go true ih = ap (λ l. x ∷ l) ih
      go false ih = ih

  pub keep-keep : (q : A → Bool) (xs : List A) → keep p (keep q xs) ≡ keep (λ x. q x && p x) xs
  unfolding keep
  keep-keep q [] = refl
  keep-keep q (x ∷ xs) = go (q x) (keep-keep q xs)
    where
      go : (b : Bool) → keep p (keep q xs) ≡ keep (λ x. q x && p x) xs
          → keep p (cond b (x ∷ keep q xs) (keep q xs))
          ≡ cond (b && p x) (x ∷ keep (λ x. q x && p x) xs) (keep (λ x. q x && p x) xs)
      go true ih = ap (λ l. cond (p x) (x ∷ l) l) ih
      go false ih = ih

  pub keep-length : (xs : List A) → length (keep p xs) ≡ count p xs
  unfolding keep sum
  keep-length [] = refl
  keep-length (x ∷ xs) = go (p x) (keep-length xs)
    where
      go : (b : Bool) → length (keep p xs) ≡ count p xs
          → length (cond b (x ∷ keep p xs) (keep p xs)) ≡ ind b + count p xs
      go true ih = omega arith
      go false ih = omega arith
