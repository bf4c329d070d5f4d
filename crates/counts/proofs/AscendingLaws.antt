-- A list in strict order has each member once.
--     Steps xs        each member comes after the one before it: what a scan sees
--     Ascending xs    each comes after all that stand before it
--     ascending       the first gives the second, for a transitive order
--     rising          the same by places: f 0 .. f (n - 1), where the order is transitive on them
--     listed-ascending     what rises by places is an ascending list
--     ascending-map        so is one taken through a function that keeps the order
--     ascending-at         an ascending list rises by places
--     single          in an ascending list a member occurs once
--     once            so does the image of each member, where the list is closed under f
-- Assumes nothing.
use mathlib.Core.Path.{◌≡◌, refl, sym, ap, ◌∙◌, subst}
use mathlib.Core.Logic.{◌⊎◌, inl, inr}
use mathlib.Core.Bool.{Bool, true, false}
use mathlib.Core.List.Memᴰ
use mathlib.Core.List.{List, [], ◌∷◌, map}
use Prim.Native.Nat.{ℕ, zero, suc, ◌+◌, ◌<◌, ◌≤◌}
use native.Mathlib.Nat.{eq-or-lt_of_le}
use native.Mathlib.Omega.{arith}
use lib.ListN.{length, get_or}
use Rattle.counts.specs.Count.{◌∈◌, ind, sum, count, listed}
use Rattle.counts.proofs.TestLaws.{is_false}
use Rattle.counts.proofs.CountLaws.{count-off, count-some}
use Rattle.counts.proofs.MapLaws.{map-mem}
use Rattle.counts.proofs.ListedLaws.{listed-mem}

module _ {A : Type 0} (lt : A → A → Type 0) where
  abbrev pub Ascending : List A → Type 0
  Ascending [] = Unit {0}
  Ascending (x ∷ xs) = ((y : A) → y ∈ xs → lt x y) × Ascending xs

  abbrev pub Steps : List A → Type 0
  Steps [] = Unit {0}
  Steps (x ∷ []) = Unit {0}
  Steps (x ∷ y ∷ ys) = lt x y × Steps (y ∷ ys)

  module _ (trans : (x y z : A) → lt x y → lt y z → lt x z) where
    above : (x y : A) (ys : List A) → lt x y → Ascending (y ∷ ys) → (z : A) → z ∈ y ∷ ys → lt x z
    above x y ys l a z m = go (Memᴰ.cases_cons m)
      where
        go : (z ≡ y) ⊎ (z ∈ ys) → lt x z
        go (inl e) = rw e l
        go (inr k) = trans x y z l (a.0 z k)

    pub ascending : (xs : List A) → Steps xs → Ascending xs
    ascending [] s = tt
    ascending (x ∷ []) s = ((λ y m. absurd (Memᴰ.not-nil m)), tt)
    ascending (x ∷ y ∷ ys) s =
        let a = ascending (y ∷ ys) s.1 in
        (above x y ys s.0 a, a)

  module _ (f : ℕ → A) where
    pub rising : (n : ℕ) → ((i j k : ℕ) → i < n → j < n → k < n → lt (f i) (f j) → lt (f j) (f k) → lt (f i) (f k))
        → ((i : ℕ) → suc i < n → lt (f i) (f (suc i)))
        → (i j : ℕ) → i < j → j < n → lt (f i) (f j)
    rising n trans step i zero l h = absurd (omega arith)
    rising n trans step i (suc j) l h = go (eq-or-lt_of_le l) (λ g. rising n trans step i j g (omega arith))
      where
        go : (suc i ≡ suc j) ⊎ (suc (suc i) ≤ suc j) → (i < j → lt (f i) (f j)) → lt (f i) (f (suc j))
        go (inl e) ih = rw e at (step i (omega arith))
        go (inr g) ih = trans i j (suc j) (omega arith) (omega arith) h (ih (omega arith)) (step j h)

    pub listed-ascending : (a k : ℕ) → ((i j : ℕ) → a ≤ i → i < j → j < a + k → lt (f i) (f j))
        → Ascending (listed f a k)
    unfolding listed
    listed-ascending a zero h = tt
    listed-ascending a (suc k) h =
        (first, listed-ascending (suc a) k (λ i j l g e. h i j (omega arith) g (omega arith)))
      where
        first : (y : A) → y ∈ listed f (suc a) k → lt (f a) y
        first y m =
            let r = listed-mem f (suc a) k y m in
            rw r.3 (h a r.0 (omega arith) (omega arith) (omega arith))

  pub ascending-map : (f : A → A) → ((x y : A) → lt x y → lt (f x) (f y)) → (xs : List A) → Ascending xs
      → Ascending (map f xs)
  ascending-map f keeps [] a = tt
  ascending-map f keeps (x ∷ xs) a = (
    (λ y m. let w = map-mem f xs y m in subst (lt (f x)) (sym w.2) (keeps x w.0 (a.0 w.0 w.1))),
    ascending-map f keeps xs a.1,
  )

  get_or-mem : (xs : List A) (i : ℕ) (d : A) → i < length xs → get_or xs i d ∈ xs
  get_or-mem [] i d h = absurd (omega arith)
  get_or-mem (x ∷ xs) zero d h = Memᴰ.head refl
  get_or-mem (x ∷ xs) (suc i) d h = Memᴰ.tail (get_or-mem xs i d (omega arith))

  pub ascending-at : (d : A) (xs : List A) → Ascending xs → (i j : ℕ) → i < j → j < length xs
      → lt (get_or xs i d) (get_or xs j d)
  ascending-at d [] a i j l h = absurd (omega arith)
  ascending-at d (x ∷ xs) a i zero l h = absurd (omega arith)
  ascending-at d (x ∷ xs) a zero (suc j) l h = a.0 (get_or xs j d) (get_or-mem xs j d (omega arith))
  ascending-at d (x ∷ xs) a (suc i) (suc j) l h = ascending-at d xs a.1 i j (omega arith) (omega arith)

  module _ (irrefl : (x : A) → lt x x → ⊥) (same : A → A → Bool) (same_true : (x y : A) → same x y ≡ true → x ≡ y) where
    ind-le : (b : Bool) → ind b ≤ 1
    ind-le true = omega arith
    ind-le false = omega arith

    pub single : (xs : List A) → Ascending xs → (x : A) → x ∈ xs → count (λ y. same y x) xs ≤ 1
    unfolding sum
    single (y ∷ ys) a x m = go (Memᴰ.cases_cons m) (λ k. single ys a.1 x k)
      where
        go : (x ≡ y) ⊎ (x ∈ ys) → (x ∈ ys → count (λ z. same z x) ys ≤ 1)
            → ind (same y x) + count (λ z. same z x) ys ≤ 1
        go (inl e) ih =
            let off = count-off (λ z. same z x) ys
            (λ z k. is_false _ (λ t. irrefl y (subst (lt y) (same_true z x t ∙ e) (a.0 z k)))) in
            omega (arith, ind-le (same y x))
        go (inr k) ih =
            let off = is_false (same y x) (λ t. irrefl y (subst (lt y) (sym (same_true y x t)) (a.0 x k))) in
            omega (arith, ih k, ap ind off)
    single [] a x m = elim m [ ]

    pub once : (same_refl : (x : A) → same x x ≡ true) (f : A → A) (xs : List A)
        → Ascending xs → ((x : A) → x ∈ xs → f x ∈ xs)
        → (x : A) → x ∈ xs → count (λ y. same y (f x)) xs ≡ 1
    once same_refl f xs a closed x m =
        omega (
          arith,
          single xs a (f x) (closed x m),
          count-some (λ y. same y (f x)) xs (f x) (closed x m) (same_refl (f x)),
        )
