-- Laws of a list taken through a function.
--     count_map            what is counted of the images is counted of the members
--     any-map              some image passes exactly if some member's does
--     map-mem, mem-map     the members of such a list are the images
--     map-ext              two functions that agree on the members give one list
-- Assumes nothing.
use mathlib.Core.Path.{◌≡◌, refl, ap, ap₂}
use mathlib.Core.Logic.{◌⊎◌, inl, inr}
use mathlib.Core.Bool.{Bool, ◌||◌}
use mathlib.Core.List.{List, [], ◌∷◌, map}
use mathlib.Core.List.Memᴰ
use Prim.Native.Nat.{◌+◌}
use Rattle.counts.specs.Count.{◌∈◌, ind, sum, count, any}

module _ {A B : Type 0} (f : A → B) where
  pub count_map : (p : B → Bool) (xs : List A) → count p (map f xs) ≡ count (λ x. p (f x)) xs
  unfolding sum
  count_map p [] = refl
  count_map p (x ∷ xs) = ap (λ n. ind (p (f x)) + n) (count_map p xs)

  pub any-map : (p : B → Bool) (xs : List A) → any p (map f xs) ≡ any (λ x. p (f x)) xs
  unfolding any
  any-map p [] = refl
  any-map p (x ∷ xs) = ap (λ b. p (f x) || b) (any-map p xs)

  pub map-mem : (xs : List A) (y : B) → y ∈ map f xs → (x : A) × (x ∈ xs) × (y ≡ f x)
  map-mem [] y m = absurd (Memᴰ.not-nil m)
  map-mem (x ∷ xs) y m = go (Memᴰ.cases_cons m) (λ k. map-mem xs y k)
    where
      go : (y ≡ f x) ⊎ (y ∈ map f xs) → (y ∈ map f xs → (z : A) × (z ∈ xs) × (y ≡ f z))
          → (z : A) × (z ∈ x ∷ xs) × (y ≡ f z)
      go (inl e) ih = (x, Memᴰ.head refl, e)
      go (inr k) ih = let r = ih k in (r.0, Memᴰ.tail r.1, r.2)

  pub mem-map : (xs : List A) (x : A) → x ∈ xs → f x ∈ map f xs
  mem-map (y ∷ ys) x (Memᴰ.head e) = Memᴰ.head (ap f e)
  mem-map (y ∷ ys) x (Memᴰ.tail m) = Memᴰ.tail (mem-map ys x m)
  mem-map [] x x3 = elim x3 [ ]

pub map-ext : {A B : Type 0} (v w : A → B) (xs : List A) → ((x : A) → x ∈ xs → v x ≡ w x) → map v xs ≡ map w xs
map-ext v w [] h = refl
map-ext v w (x ∷ xs) h =
    ap₂ ◌∷◌ (h x (Memᴰ.head refl)) (map-ext v w xs (λ y m. h y (Memᴰ.tail m)))
