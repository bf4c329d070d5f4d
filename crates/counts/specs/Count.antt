-- Counting over a list: what every rule of document 01 that says 'the number of' or 'the first' is told by.
--     x ∈ xs            x is a member of xs
--     ind b             1 where the test b passes, 0 where it fails
--     sum f xs          the sum of f over the members
--     count p xs        how many members pass p
--     keep p xs         the members that pass p, in their order
--     all p xs, any p xs   every member passes p; some member does
--     first_index p xs  the index of the first member that passes p; the length where none does
--     odd n, Even n     the parity of a count, as a test and as a fact
--     a ⊕ b             exactly one of the two
--     listed f a k      f a, f (a + 1), .. : k of them
--     places n          0, 1, .. : n of them
-- Assumes nothing.
use Rattle.std.specs.Prelude.{◌≡◌, Bool, true, false, not, cond, ◌&&◌, ◌||◌, ℕ, zero, suc, ◌+◌, ◌%◌, eqb}
use mathlib.Core.List.{List, [], ◌∷◌, Memᴰ}

infix 50 ◌∈◌
abbrev pub ◌∈◌ : {A : Type 0} → A → List A → Type 0
x ∈ xs = Memᴰ x xs

abbrev pub ind : Bool → ℕ
ind true = 1
ind false = 0

unfoldable pub sum : {A : Type 0} → (A → ℕ) → List A → ℕ
sum f [] = 0
sum f (x ∷ xs) = f x + sum f xs

abbrev pub count : {A : Type 0} → (A → Bool) → List A → ℕ
count p xs = sum (λ x. ind (p x)) xs

unfoldable pub keep : {A : Type 0} → (A → Bool) → List A → List A
keep p [] = []
keep p (x ∷ xs) = cond (p x) (x ∷ keep p xs) (keep p xs)

unfoldable pub all : {A : Type 0} → (A → Bool) → List A → Bool
all p [] = true
all p (x ∷ xs) = p x && all p xs

unfoldable pub any : {A : Type 0} → (A → Bool) → List A → Bool
any p [] = false
any p (x ∷ xs) = p x || any p xs

unfoldable pub first_index : {A : Type 0} → (A → Bool) → List A → ℕ
first_index p [] = 0
first_index p (x ∷ xs) = cond (p x) 0 (suc (first_index p xs))

abbrev pub Even : ℕ → Type 0
Even n = n % 2 ≡ 0

abbrev pub odd : ℕ → Bool
odd n = eqb (n % 2) 1

infixl 32 ◌⊕◌
abbrev pub ◌⊕◌ : Bool → Bool → Bool
true ⊕ b = not b
false ⊕ b = b

unfoldable pub listed : {A : Type 0} → (ℕ → A) → ℕ → ℕ → List A
listed f a zero = []
listed f a (suc k) = f a ∷ listed f (suc a) k

abbrev pub places : ℕ → List ℕ
places n = listed (λ i. i) 0 n
