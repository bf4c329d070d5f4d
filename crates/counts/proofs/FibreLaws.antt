-- Counting by fibres, and over two lists by the pairs that match.
--     even-mul       a multiple of an even number is even
--     even-fibres    where every point has an even number of the members over it, an even number lie over any set
--                    of points
--     matched        where what matches weighs the same, the members of two lists have one weight together, each as
--                    often as it is matched in the other list
-- Assumes nothing.
use mathlib.Core.Path.{◌≡◌, refl, sym, ap, ◌∙◌}
use mathlib.Core.Bool.{Bool, true, false, ◌&&◌, ◌||◌, not}
use mathlib.Core.List.Memᴰ
use mathlib.Core.List.{List, [], ◌∷◌, map}
use Prim.Native.Nat.{ℕ, ◌+◌, ◌*◌, ◌/◌}
use native.Mathlib.Omega.{arith}
use Rattle.counts.specs.Count.{◌∈◌, ind, sum, count, Even}
use Rattle.counts.proofs.SumLaws.{sum-ext, sum-add, sum-mul, sum-zero, sum-swap}

pub even-mul : (k n : ℕ) → Even n → Even (k * n)
even-mul k n h =
    let e : n ≡ 2 * (n / 2) = omega arith in
    let g : k * n ≡ 2 * (k * (n / 2)) = ap (λ x. k * x) e ∙ omega arith in
    omega arith

-- ---- fibres: `over` says which point a member lies over

module _ {P : Type 0} (same : P → P → Bool) where
  among : List P → P → Bool
  among [] p = false
  among (d ∷ ds) p = same d p || among ds p

  module _ (same_true : (p q : P) → same p q ≡ true → p ≡ q) (same_refl : (p : P) → same p p ≡ true)
      {A : Type 0} (over : A → P) (xs : List A) (even : (d : P) → Even (count (λ r. same d (over r)) xs))
      (t : P → Bool) where
    split : (m q : Bool) → ind q ≡ ind (m && q) + ind (not m && q) * 1
    split true true = refl
    split true false = refl
    split false true = refl
    split false false = refl

    -- one point more adds its whole fibre, unless it was there
    one_more : (d : P) (ds : List P) (p : P)
        → ind ((same d p || among ds p) && t p)
        ≡ ind (among ds p && t p) + ind (not (among ds d) && t d) * ind (same d p)
    one_more d ds p = go (same d p) refl
      where
        go : (b : Bool) → same d p ≡ b
            → ind ((b || among ds p) && t p) ≡ ind (among ds p && t p) + ind (not (among ds d) && t d) * ind b
        go true e = rw (same_true d p e) (split (among ds p) (t p))
        go false e = omega arith

    even-among : (ds : List P) → Even (count (λ r. among ds (over r) && t (over r)) xs)
    unfolding among
    even-among [] = rw sum-zero
    even-among (d ∷ ds) =
        let k : ℕ = ind (not (among ds d) && t d) in
        let e = sum-ext _ _ xs (λ r m. one_more d ds (over r)) in
        let g = sum-add (λ r. ind (among ds (over r) && t (over r))) (λ r. k * ind (same d (over r))) xs in
        let h = sum-mul k (λ r. ind (same d (over r))) xs in
        let m = even-mul k (count (λ r. same d (over r)) xs) (even d) in
        omega (arith, even-among ds)

    among-map : (ys : List A) (r : A) → r ∈ ys → among (map over ys) (over r) ≡ true
    unfolding among
    among-map (y ∷ ys) r (Memᴰ.head e) = rw (e, same_refl)
    among-map (y ∷ ys) r (Memᴰ.tail m) = rw (among-map ys r m) (or-true (same (over y) (over r)))
      where
        or-true : (b : Bool) → b || true ≡ true
        or-true true = refl
        or-true false = refl
    among-map [] r x' = elim x' [ ]

    pub even-fibres : Even (count (λ r. t (over r)) xs)
    even-fibres =
        rw (sum-ext (λ r. ind (t (over r))) (λ r. ind (among (map over xs) (over r) && t (over r))) xs
        (λ r m. ap (λ b. ind (b && t (over r))) (sym (among-map xs r m)))) (even-among (map over xs))

-- ---- two lists

module _ {A B : Type 0} (match : A → B → Bool) (p : A → ℕ) (w : B → ℕ)
    (agree : (x : A) (y : B) → match x y ≡ true → p x ≡ w y) where
  pair : (x : A) (y : B) → p x * ind (match x y) ≡ w y * ind (match x y)
  pair x y = go (match x y) refl
    where
      go : (b : Bool) → match x y ≡ b → p x * ind b ≡ w y * ind b
      go true e = ap (λ n. n * 1) (agree x y e)
      go false e = omega arith

  pub matched : (xs : List A) (ys : List B)
      → sum (λ x. p x * count (λ y. match x y) ys) xs ≡ sum (λ y. w y * count (λ x. match x y) xs) ys
  matched xs ys =
      sum-ext _ _ xs (λ x m. sym (sum-mul (p x) (λ y. ind (match x y)) ys) ∙ sum-ext _ _ ys (λ y k. pair x y))
      ∙ sum-swap (λ x y. w y * ind (match x y)) xs ys
      ∙ sum-ext _ _ ys (λ y m. sum-mul (w y) (λ x. ind (match x y)) xs)
