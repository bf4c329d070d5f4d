-- Laws of `sum` over any list: term by term, of sums and multiples, of appended lists, of two sums exchanged.
-- Assumes nothing.
use mathlib.Core.Path.{◌≡◌, refl, sym, ap, ap₂, ◌∙◌}
use mathlib.Core.List.Memᴰ
use mathlib.Core.List.{List, [], ◌∷◌, ◌++◌}
use Prim.Native.Nat.{ℕ, ◌+◌, ◌*◌, ◌%◌, ◌≤◌}
use native.Mathlib.Omega.{arith}
use Rattle.counts.specs.Count.{◌∈◌, sum}

module _ {A : Type 0} where
  -- ---- term by term

  pub sum-ext : (f g : A → ℕ) (xs : List A) → ((x : A) → x ∈ xs → f x ≡ g x) → sum f xs ≡ sum g xs
  unfolding sum
  sum-ext f g [] h = refl
  sum-ext f g (x ∷ xs) h = ap₂ ◌+◌ (h x (Memᴰ.head refl)) (sum-ext f g xs (λ y m. h y (Memᴰ.tail m)))

  pub sum-le : (f g : A → ℕ) (xs : List A) → ((x : A) → x ∈ xs → f x ≤ g x) → sum f xs ≤ sum g xs
  unfolding sum
  sum-le f g [] h = omega arith
  sum-le f g (x ∷ xs) h = omega (arith, h x (Memᴰ.head refl), sum-le f g xs (λ y m. h y (Memᴰ.tail m)))

  -- two sums whose terms have the same parity one by one have the same parity
  pub sum-parity : (f g : A → ℕ) (xs : List A) → ((x : A) → x ∈ xs → f x % 2 ≡ g x % 2) → sum f xs % 2 ≡ sum g xs % 2
  unfolding sum
  sum-parity f g [] h = refl
  sum-parity f g (x ∷ xs) h =
      omega (arith, h x (Memᴰ.head refl), sum-parity f g xs (λ y m. h y (Memᴰ.tail m)))

  -- no term is more than the sum
  pub sum-member : (f : A → ℕ) (xs : List A) (x : A) → x ∈ xs → f x ≤ sum f xs
  unfolding sum
  sum-member f (y ∷ ys) x (Memᴰ.head e) = omega (arith, ap f e)
  sum-member f (y ∷ ys) x (Memᴰ.tail m) = omega (arith, sum-member f ys x m)
  sum-member f [] x x3 = elim x3 [ ]

  -- ---- through other operations

  pub sum-zero : (xs : List A) → sum (λ x. 0) xs ≡ 0
  unfolding sum
  sum-zero [] = refl
  sum-zero (x ∷ xs) = omega (arith, sum-zero xs)

  pub sum-add : (f g : A → ℕ) (xs : List A) → sum (λ x. f x + g x) xs ≡ sum f xs + sum g xs
  unfolding sum
  sum-add f g [] = refl
  sum-add f g (x ∷ xs) = omega (arith, sum-add f g xs)

  pub sum-mul : (k : ℕ) (f : A → ℕ) (xs : List A) → sum (λ x. k * f x) xs ≡ k * sum f xs
  unfolding sum
  sum-mul k f [] = omega arith
  sum-mul k f (x ∷ xs) = omega (arith, sum-mul k f xs)

  pub sum-append : (f : A → ℕ) (xs ys : List A) → sum f (xs ++ ys) ≡ sum f xs + sum f ys
  unfolding sum
  sum-append f [] ys = omega arith
  sum-append f (x ∷ xs) ys = omega (arith, sum-append f xs ys)

pub sum-swap : {A B : Type 0} (f : A → B → ℕ) (xs : List A) (ys : List B)
    → sum (λ x. sum (λ y. f x y) ys) xs ≡ sum (λ y. sum (λ x. f x y) xs) ys
unfolding sum
sum-swap f [] ys = sym (sum-zero ys)
sum-swap f (x ∷ xs) ys =
    ap (λ n. sum (λ y. f x y) ys + n) (sum-swap f xs ys) ∙ sym (sum-add (λ y. f x y) (λ y. sum (λ z. f z y) xs) ys)
