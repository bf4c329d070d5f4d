-- Members of a list in the order of their keys, taken by turns: the first, the second, .. where the keys differ.
--     uneven xs on key x     of those that are on, an odd number comes up to x: x is the first, the third, ..
--     keys xs on key w       the sum of the keys of those that are on and pass w
--     turns-sum              where an even number is on, the second, the fourth, .. come to more than the first, the
--                            third, .. : by 1 at least for each two
-- Assumes nothing.
use mathlib.Core.Path.{◌≡◌, refl, ap, ◌∙◌}
use mathlib.Core.Bool.{Bool, true, false, not, ◌&&◌}
use mathlib.Core.List.{List}
use Prim.Native.Nat.{ℕ, zero, suc, ◌+◌, ◌*◌, ◌/◌, ◌%◌, ◌<◌, ◌≤◌}
use native.Mathlib.Omega.{arith}
use lib.Dec.{ltb, leb, eqb}
use borrow.Author.Tests.{lt-ltb, le-ltb, le-leb, lt-leb, eqb-true, eqb-false, eq-eqb, ne_eqb}
use Rattle.counts.specs.Count.{◌∈◌, ind, sum, count, odd, Even}
use Rattle.counts.proofs.TestLaws.{Side, less, equal, more, side}
use Rattle.counts.proofs.SumLaws.{sum-ext, sum-add, sum-mul, sum-zero, sum-member}
use Rattle.counts.proofs.ParityLaws.{odd-off}

-- one key more, K, which c have: u are below it, and o and e are the sums of both turns below it
one-turn : (u c K o e : ℕ) → c ≤ 1 → o + (u + 1) / 2 ≤ e + ind (odd u) * K
    → o + ind (odd (u + c)) * K * c + (u + c + 1) / 2
    ≤ e + ind (not (odd (u + c))) * K * c + ind (odd (u + c)) * suc K
one-turn u c K o e most h =
    go c (odd u) (odd (u + c)) (parity u (odd u) refl) (parity (u + c) (odd (u + c)) refl) most h
  where
    parity : (n : ℕ) (b : Bool) → odd n ≡ b → n % 2 ≡ ind b
    parity n true e = eqb-true _ _ e
    parity n false e = omega (arith, eqb-false (n % 2) 1 e)

    go : (c : ℕ) (p q : Bool) → u % 2 ≡ ind p → (u + c) % 2 ≡ ind q → c ≤ 1 → o + (u + 1) / 2 ≤ e + ind p * K
        → o + ind q * K * c + (u + c + 1) / 2 ≤ e + ind (not q) * K * c + ind q * suc K
    go zero true true a b l h = omega arith
    go zero true false a b l h = omega arith
    go zero false true a b l h = omega arith
    go zero false false a b l h = omega arith
    go (suc zero) true true a b l h = omega arith
    go (suc zero) true false a b l h = omega arith
    go (suc zero) false true a b l h = omega arith
    go (suc zero) false false a b l h = omega arith
    go (suc (suc n)) p q a b l h = absurd (omega arith)

module _ {A : Type 0} (xs : List A) (on : A → Bool) (key : A → ℕ) where
  abbrev pub uneven : A → Bool
  uneven x = odd (count (λ y. on y && leb (key y) (key x)) xs)

  abbrev pub keys : (A → Bool) → ℕ
  keys w = sum (λ x. ind (on x && w x) * key x) xs

  -- the weight of those below K, and of those at K
  abbrev below : (A → ℕ) → ℕ → ℕ
  below f K = sum (λ x. ind (on x && ltb (key x) K) * f x) xs

  abbrev level : (A → ℕ) → ℕ → ℕ
  level f K = sum (λ x. ind (on x && eqb (key x) K) * f x) xs

  abbrev under : ℕ → ℕ
  under K = below (λ x. 1) K

  abbrev turned : (Bool → Bool) → A → ℕ
  turned w x = ind (w (uneven x)) * key x

  plain : (p : A → Bool) → sum (λ x. ind (p x) * 1) xs ≡ count p xs
  plain p = sum-ext _ _ xs (λ x m. omega arith)

  none_below : (f : A → ℕ) → below f 0 ≡ 0
  none_below f = sum-ext _ _ xs (λ x m. go x (on x)) ∙ sum-zero xs
    where
      go : (x : A) (b : Bool) → ind (b && ltb (key x) 0) * f x ≡ 0
      go x true = rw (le-ltb (key x) 0 (omega arith)) (omega arith)
      go x false = omega arith

  more-below : (f : A → ℕ) (K : ℕ) → below f (suc K) ≡ below f K + level f K
  more-below f K = sum-ext _ _ xs (λ x m. go x (on x) (side (key x) K)) ∙ sum-add _ _ xs
    where
      go : (x : A) (b : Bool) → Side (key x) K
          → ind (b && ltb (key x) (suc K)) * f x ≡ ind (b && ltb (key x) K) * f x + ind (b && eqb (key x) K) * f x
      go x true (less h) =
          rw (lt-ltb (key x) (suc K) (omega arith), lt-ltb _ _ h, ne_eqb (key x) K (omega arith)) (omega arith)
      go x true (equal h) =
          rw (lt-ltb (key x) (suc K) (omega arith), le-ltb (key x) K (omega arith), eq-eqb _ _ h) (omega arith)
      go x true (more h) =
          rw (le-ltb (key x) (suc K) h, le-ltb (key x) K (omega arith), ne_eqb (key x) K (omega arith)) (omega arith)
      go x false s = omega arith

  -- past every key
  all-below : (f : A → ℕ) (K : ℕ) → ((x : A) → x ∈ xs → key x < K) → below f K ≡ sum (λ x. ind (on x) * f x) xs
  all-below f K h = sum-ext _ _ xs (λ x m. go x (on x) (lt-ltb (key x) K (h x m)))
    where
      go : (x : A) (b : Bool) → ltb (key x) K ≡ true → ind (b && ltb (key x) K) * f x ≡ ind b * f x
      go x true e = rw e refl
      go x false e = refl

  uneven-under : (x : A) → uneven x ≡ odd (under (suc (key x)))
  uneven-under x = ap odd (sum-ext _ _ xs (λ y m. go (on y) (key y) (side (key y) (key x))))
    where
      go : (b : Bool) (n : ℕ) → Side n (key x) → ind (b && leb n (key x)) ≡ ind (b && ltb n (suc (key x))) * 1
      go true n (less h) = rw (le-leb n (key x) (omega arith), lt-ltb n (suc (key x)) (omega arith)) refl
      go true n (equal h) = rw (le-leb n (key x) (omega arith), lt-ltb n (suc (key x)) (omega arith)) refl
      go true n (more h) = rw (lt-leb n (key x) h, le-ltb n (suc (key x)) h) refl
      go false n s = refl

  -- all those at K have one turn
  turned-level : (w : Bool → Bool) (K : ℕ)
      → level (turned w) K ≡ ind (w (odd (under (suc K)))) * K * level (λ x. 1) K
  turned-level w K = sum-ext _ _ xs (λ x m. go x (on x) (eqb (key x) K) refl) ∙ sum-mul _ _ xs
    where
      go : (x : A) (a b : Bool) → eqb (key x) K ≡ b
          → ind (a && b) * (ind (w (uneven x)) * key x) ≡ ind (w (odd (under (suc K)))) * K * (ind (a && b) * 1)
      go x true true e = rw (uneven-under x, eqb-true (key x) K e) (omega arith)
      go x true false e = omega arith
      go x false b e = omega arith

  module _ (distinct : (k : ℕ) → count (λ x. on x && eqb (key x) k) xs ≤ 1) where
    by-turns : (K : ℕ)
        → below (turned (λ b. b)) K + (under K + 1) / 2 ≤ below (turned not) K + ind (odd (under K)) * K
    by-turns zero = omega (arith, none_below (turned (λ b. b)), none_below (λ x. 1))
    by-turns (suc K) =
        let most : level (λ x. 1) K ≤ 1 = rw (plain (λ x. on x && eqb (key x) K)) (distinct K) in
        rw (
          more-below (turned (λ b. b)) K,
          more-below (turned not) K,
          turned-level (λ b. b) K,
          turned-level not K,
          more-below (λ x. 1) K,
        )
        (one-turn (under K) (level (λ x. 1) K) K _ _ most (by-turns K))

    pub turns-sum : Even (count on xs) → keys uneven + count on xs / 2 ≤ keys (λ x. not (uneven x))
    turns-sum even = go (suc (sum key xs)) (λ x m. omega (arith, sum-member key xs x m))
      where
        both : (a b : Bool) (n : ℕ) → ind a * (ind b * n) ≡ ind (a && b) * n
        both true b n = omega arith
        both false b n = omega arith

        all : (w : Bool → Bool) (K : ℕ) → ((x : A) → x ∈ xs → key x < K) → below (turned w) K ≡ keys (λ x. w (uneven x))
        all w K h = all-below (turned w) K h ∙ sum-ext _ _ xs (λ x m. both (on x) (w (uneven x)) (key x))

        go : (K : ℕ) → ((x : A) → x ∈ xs → key x < K) → keys uneven + count on xs / 2 ≤ keys (λ x. not (uneven x))
        go K h =
            let total : under K ≡ count on xs = all-below (λ x. 1) K h ∙ plain on in
            let off : ind (odd (under K)) ≡ 0 = ap ind ((odd-off (under K)).1 (ap (λ n. n % 2) total ∙ even)) in
            omega (arith, by-turns K, all (λ b. b) K h, all not K h, ap (λ n. n * K) off)
