-- The telescope: items with keys, sets among them, and f on the sets' parities. An item is kept if f changes as it is
-- passed, from below it to at or below it. Then every cut keeps an odd number exactly where f holds of the cut.
--     parities K         of each set, whether an odd number of its items lie below K
--     kept x             f of the parities changes as x is passed
--     telescope          for the cut of all keys below K, where the keys differ
--     carried            its companion: what holds of no parities and is carried past each item holds at every cut
--     cut_level          a cut that is closed downward is one of all keys below some K
--     telescope-cut, carried-cut   so both hold of any such cut
-- The induction is on K, not on the items, so nothing is sorted. Assumes nothing.
use mathlib.Core.Path.{◌≡◌, refl, sym, ap, ap₂, ◌∙◌, subst, fun_ext}
use mathlib.Core.Logic.{◌⊎◌, inl, inr}
use mathlib.Core.Bool.{Bool, true, false, ◌&&◌, true≢false}
use mathlib.Core.List.{List}
use Prim.Native.Nat.{ℕ, zero, suc, ◌+◌, ◌*◌, ◌≤◌}
use lib.Dec.{ltb, eqb}
use native.Mathlib.Omega.{arith}
use borrow.Author.Tests.{eqb-true, ltb-true, ltb-false, lt-ltb, le-ltb, eq-eqb, ne_eqb}
use Rattle.counts.specs.Count.{◌∈◌, ind, count, odd, ◌⊕◌}
use Rattle.counts.proofs.TestLaws.{and-true, xor-back, Side, less, equal, more, side}
use Rattle.counts.proofs.SumLaws.{sum-ext, sum-add, sum-mul}
use Rattle.counts.proofs.CountLaws.{count-ext, count-off, count-le}
use Rattle.counts.proofs.ParityLaws.{odd-add}
use Rattle.counts.proofs.HighestLaws.{Top, highest}

module _ {A : Type 0} (xs : List A) (on : A → Bool) (key : A → ℕ) where
  -- ---- one key more

  nothing : (w : A → Bool) → count (λ x. on x && ltb (key x) 0 && w x) xs ≡ 0
  nothing w = count-off _ xs (λ x m. go x (on x))
    where
      go : (x : A) (b : Bool) → b && ltb (key x) 0 && w x ≡ false
      go x true = simp (le-ltb (key x) 0 (omega arith))
      go x false = refl

  one_key : (K : ℕ) (w : A → Bool)
      → count (λ x. on x && ltb (key x) (suc K) && w x) xs
      ≡ count (λ x. on x && ltb (key x) K && w x) xs + count (λ x. on x && eqb (key x) K && w x) xs
  one_key K w =
      sum-ext _ _ xs (λ x m. go x (on x) (side (key x) K))
      ∙ sum-add (λ x. ind (on x && ltb (key x) K && w x)) (λ x. ind (on x && eqb (key x) K && w x)) xs
    where
      go : (x : A) (b : Bool) → Side (key x) K
          → ind (b && ltb (key x) (suc K) && w x) ≡ ind (b && ltb (key x) K && w x) + ind (b && eqb (key x) K && w x)
      go x true (less h) =
          simp (lt-ltb (key x) (suc K) (omega arith), lt-ltb _ _ h, ne_eqb (key x) K (omega arith)) (omega arith)
      go x true (equal h) =
          simp (lt-ltb (key x) (suc K) (omega arith), le-ltb (key x) K (omega arith), eq-eqb _ _ h) (omega arith)
      go x true (more h) =
          simp (le-ltb (key x) (suc K) h, le-ltb (key x) K (omega arith), ne_eqb (key x) K (omega arith))
      go x false s = refl

  -- where no item has the key K, passing it changes no count
  no_key : (K : ℕ) → count (λ x. on x && eqb (key x) K) xs ≡ 0 → (w : A → Bool)
      → count (λ x. on x && ltb (key x) (suc K) && w x) xs ≡ count (λ x. on x && ltb (key x) K && w x) xs
  no_key K e w =
      omega (
        arith,
        one_key K w,
        count-le (λ x. on x && eqb (key x) K && w x) (λ x. on x && eqb (key x) K) xs (λ x m h. (and-true _ _ h).0),
      )

  -- ---- the parities, and what f makes of them

  module _ {J : Type 0} (has : J → A → Bool) where
    abbrev pub parities : ℕ → J → Bool
    parities K j = odd (count (λ x. on x && ltb (key x) K && has j x) xs)

    parities-none : parities 0 ≡ (λ j. false)
    parities-none = fun_ext (λ j. ap odd (nothing (has j)))

    parities-same : (K : ℕ) → count (λ x. on x && eqb (key x) K) xs ≡ 0 → parities (suc K) ≡ parities K
    parities-same K e = fun_ext (λ j. ap odd (no_key K e (has j)))

    pub carried : (Q : (J → Bool) → Type 0) → Q (λ j. false)
        → ((x : A) → x ∈ xs → on x ≡ true → Q (parities (key x)) → Q (parities (suc (key x))))
        → (K : ℕ) → Q (parities K)
    carried Q start step zero = subst Q (sym parities-none) start
    carried Q start step (suc K) = go (highest (λ x. on x && eqb (key x) K) (λ x. 0) xs) (carried Q start step K)
      where
        go : ((x : A) → x ∈ xs → on x && eqb (key x) K ≡ false) ⊎ Top (λ x. on x && eqb (key x) K) (λ x. 0) xs
            → Q (parities K) → Q (parities (suc K))
        go (inl none) q = subst Q (sym (parities-same K (count-off _ xs none))) q
        go (inr t) q =
            let h = and-true _ _ t.passes in
            let e = eqb-true _ _ h.1 in
            subst (λ k. Q (parities (suc k))) e
            (step t.it t.member h.0 (subst (λ k. Q (parities k)) (sym e) q))

    module _ (f : (J → Bool) → Bool) where
      abbrev pub kept : A → Bool
      kept x = f (parities (suc (key x))) ⊕ f (parities (key x))

      -- the items of key K are all kept, or none
      at-kept : (K : ℕ)
          → count (λ x. on x && eqb (key x) K && kept x) xs
          ≡ ind (f (parities (suc K)) ⊕ f (parities K)) * count (λ x. on x && eqb (key x) K) xs
      at-kept K =
          sum-ext _ _ xs (λ x m. go x (on x) (eqb (key x) K) refl)
          ∙ sum-mul (ind (f (parities (suc K)) ⊕ f (parities K))) (λ x. ind (on x && eqb (key x) K)) xs
        where
          go : (x : A) (a b : Bool) → eqb (key x) K ≡ b
              → ind (a && b && kept x) ≡ ind (f (parities (suc K)) ⊕ f (parities K)) * ind (a && b)
          go x true true e = rw (eqb-true (key x) K e) (omega arith)
          go x true false e = omega arith
          go x false b e = omega arith

      module _ (none : f (λ j. false) ≡ false) (distinct : (k : ℕ) → count (λ x. on x && eqb (key x) k) xs ≤ 1) where
        pub telescope : (K : ℕ) → odd (count (λ x. on x && ltb (key x) K && kept x) xs) ≡ f (parities K)
        telescope zero = ap odd (nothing kept) ∙ sym (ap f parities-none ∙ none)
        telescope (suc K) = go (count (λ x. on x && eqb (key x) K) xs) refl (telescope K)
          where
            go : (n : ℕ) → count (λ x. on x && eqb (key x) K) xs ≡ n
                → odd (count (λ x. on x && ltb (key x) K && kept x) xs) ≡ f (parities K)
                → odd (count (λ x. on x && ltb (key x) (suc K) && kept x) xs) ≡ f (parities (suc K))
            go zero e ih = ap odd (no_key K e kept) ∙ ih ∙ sym (ap f (parities-same K e))
            go (suc zero) e ih =
                let d : Bool = f (parities (suc K)) ⊕ f (parities K) in
                let a : ℕ = count (λ x. on x && ltb (key x) K && kept x) xs in
                let g : count (λ x. on x && ltb (key x) (suc K) && kept x) xs ≡ a + ind d =
                one_key K kept ∙ ap (λ n. a + n) (at-kept K ∙ ap (λ n. ind d * n) e ∙ omega arith)
                in
                ap odd g ∙ odd-add a d ∙ ap (λ b. b ⊕ d) ih ∙ xor-back (f (parities (suc K))) (f (parities K))
            go (suc (suc n)) e ih = absurd (omega (arith, distinct K))

  -- ---- any cut D of the items that are on, closed downward

  module _ (D : A → Bool)
      (down : (x y : A) → x ∈ xs → y ∈ xs → on x ≡ true → on y ≡ true → key x ≤ key y → D y ≡ true → D x ≡ true) where
    pub cut_level : (K : ℕ) × ((x : A) → x ∈ xs → on x && D x ≡ on x && ltb (key x) K)
    cut_level = go (highest (λ x. on x && D x) key xs)
      where
        go : ((x : A) → x ∈ xs → on x && D x ≡ false) ⊎ Top (λ x. on x && D x) key xs
            → (K : ℕ) × ((x : A) → x ∈ xs → on x && D x ≡ on x && ltb (key x) K)
        go (inl off) = (0, λ x m. off x m ∙ sym (never (on x) (le-ltb (key x) 0 (omega arith))))
          where
            never : (a : Bool) {b : Bool} → b ≡ false → a && b ≡ false
            never true e = e
            never false e = refl
        go (inr t) = (suc (key t.it), λ x m. cases x m (on x) (D x) (ltb (key x) (suc (key t.it))) refl refl refl)
          where
            cases : (x : A) → x ∈ xs → (a b c : Bool) → on x ≡ a → D x ≡ b → ltb (key x) (suc (key t.it)) ≡ c
                → a && b ≡ a && c
            cases x m true true true p q r = refl
            cases x m true true false p q r =
                absurd (omega (arith, ltb-false (key x) (suc (key t.it)) r, t.greatest x m (ap₂ ◌&&◌ p q)))
            cases x m true false true p q r =
                let s = and-true _ _ t.passes in
                let l : key x ≤ key t.it = omega (arith, ltb-true (key x) (suc (key t.it)) r) in
                absurd (true≢false (sym (down x t.it m t.member p s.0 l s.1) ∙ q))
            cases x m true false false p q r = refl
            cases x m false b c p q r = refl

    -- what is counted in the cut is what is counted below its level
    in_cut : (w : A → Bool)
        → count (λ x. on x && D x && w x) xs ≡ count (λ x. on x && ltb (key x) cut_level.0 && w x) xs
    in_cut w = count-ext _ _ xs (λ x m. ap (λ b. b && w x) (cut_level.1 x m))

    module _ {J : Type 0} (has : J → A → Bool) where
      abbrev pub parities_in : J → Bool
      parities_in j = odd (count (λ x. on x && D x && has j x) xs)

      parities-cut : parities_in ≡ parities has cut_level.0
      parities-cut = fun_ext (λ j. ap odd (in_cut (has j)))

      pub carried-cut : (Q : (J → Bool) → Type 0) → Q (λ j. false)
          → ((x : A) → x ∈ xs → on x ≡ true → Q (parities has (key x)) → Q (parities has (suc (key x)))) → Q parities_in
      carried-cut Q start step = subst Q (sym parities-cut) (carried has Q start step cut_level.0)

      pub telescope-cut : (f : (J → Bool) → Bool) → f (λ j. false) ≡ false
          → ((k : ℕ) → count (λ x. on x && eqb (key x) k) xs ≤ 1)
          → odd (count (λ x. on x && D x && kept has f x) xs) ≡ f parities_in
      telescope-cut f none distinct =
          ap odd (in_cut (kept has f)) ∙ telescope has f none distinct cut_level.0 ∙ ap f (sym parities-cut)
