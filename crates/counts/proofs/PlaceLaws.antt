-- What a chain over `0..n` answers, in the words of specs/Count.antt: std's `find` and `count_by` over the places.
--     find_from             the first place from a place on, by the index of the first member that passes
--     first_place_is        the first place is `first_from`, where that lies below n
--     count_places_is, any_place_is    the count is `count` over the list; there is one exactly if some member passes
--     first_place_some, first_place_none    what a place that was found is; that none was
--     first_place_or, first_place_found    the place, or n where there is none: `first_from`, with its range
--     any_first_place       one was found exactly if some member passes
--     some_is, some_below, none_below    a first place, as a search found it or did not
--     next_or               the next place, where there is none the end
--     placing               for a function's tactic line: what is known of a place that was found or not
-- Assumes nothing.
use mathlib.Core.Path.{◌≡◌, refl, sym, ap, ap₂, ◌∙◌}
use mathlib.Core.Bool.{Bool, true, false, cond, ◌||◌, true≢false}
use Prim.Native.Nat.{ℕ, zero, suc, ◌+◌, ◌<◌, zero-le}
use native.Mathlib.Numerals.{add-one}
use native.Mathlib.Omega.{arith}
use lib.Dec.{ltb}
use native.Mathlib.Nat.{zero-add}
use Rattle.std.proofs.lemmas.List.Recursion.{is_count_by}
use borrow.Author.Tests.{lt-ltb, le-ltb, ltb-true, ltb-false}
use Rattle.std.specs.Prelude.{Option, Some, None, find}
use Rattle.std.specs.List.{list_any}
use Rattle.std.specs.Option.{unwrap_or, is_some}
use mathlib.Core.Logic.{◌↔◌}
use Rattle.std.specs.List.{range_with_len}
use Rattle.counts.specs.Count.{ind, sum, count, any, first_index, listed}
use Rattle.counts.specs.Scan.{first_from, Found, first_place, next_place, count_places, any_place}
use Rattle.counts.proofs.ScanLaws.{first_from-high, any-first}
use Rattle.counts.proofs.FirstLaws.{first_index-most}
use Rattle.counts.proofs.ListedLaws.{listed-length}
use Rattle.counts.proofs.StepLaws.{first_high}
use Rattle.std.specs.Prelude.{max, ◌-◌}

abbrev pub below : ℕ → ℕ → Option ℕ
below n r = cond (ltb r n) (Some r) None

module _ {A : Type 0} (p : A → Bool) (f : ℕ → A) where
  pub find_from : (a k : ℕ) → find (λ i. p (f i)) (range_with_len a k) ≡ below (a + k) (a + first_index p (listed f a k))
  unfolding first_index listed
  find_from a zero = rw (le-ltb (a + 0) (a + 0) (omega arith)) refl
  find_from a (suc k) = go (p (f a)) (find_from (a + 1) k)
    where
      go : (b : Bool) → find (λ i. p (f i)) (range_with_len (a + 1) k) ≡ below (a + 1 + k) (a + 1 + first_index p (listed f (a + 1) k))
          → cond b (Some a) (find (λ i. p (f i)) (range_with_len (a + 1) k))
          ≡ below (a + suc k) (a + cond b 0 (suc (first_index p (listed f (suc a) k))))
      go true ih = by-sum (a + 0) (omega arith)
        where
          by-sum : (r : ℕ) → r ≡ a → Some a ≡ below (a + suc k) r
          by-sum r e = rw (e, lt-ltb a (a + suc k) (omega arith)) refl
      go false ih = ih ∙ rest (a + 1) (add-one a)
        where
          rest : (b : ℕ) → b ≡ suc a
              → below (b + k) (b + first_index p (listed f b k))
              ≡ below (a + suc k) (a + suc (first_index p (listed f (suc a) k)))
          rest b e = rw e (ends (suc a + k) (suc a + first_index p (listed f (suc a) k)) (omega arith) (omega arith))
            where
              ends : (x y : ℕ) → x ≡ a + suc k → y ≡ a + suc (first_index p (listed f (suc a) k))
                  → below x y ≡ below (a + suc k) (a + suc (first_index p (listed f (suc a) k)))
              ends x y d g = rw (d, g) refl

  pub first_place_is : (n : ℕ) → first_place p f n ≡ below n (first_from p f 0 n)
  unfolding first_from
  first_place_is n = find_from 0 n ∙ ap₂ below (zero-add n) (ap (λ k. 0 + first_index p (listed f 0 k)) (omega arith))

  count_from : (a k : ℕ) → count (λ i. p (f i)) (range_with_len a k) ≡ count p (listed f a k)
  unfolding sum listed
  count_from a zero = refl
  count_from a (suc k) = ap (λ m. ind (p (f a)) + m) (count_from (a + 1) k ∙ ap (λ j. count p (listed f j k)) (add-one a))

  pub count_places_is : (n : ℕ) → count_places p f n ≡ count p (listed f 0 n)
  unfolding sum
  count_places_is n =
      sym (is_count_by (count (λ i. p (f i))) (λ i. p (f i)) refl (λ x xs. step (p (f x)) (count (λ i. p (f i)) xs)) (range_with_len 0 n))
      ∙ count_from 0 n
    where
      step : (b : Bool) (m : ℕ) → ind b + m ≡ cond b (1 + m) m
      step true m = refl
      step false m = zero-add m

  any_from : (a k : ℕ) → list_any (λ i. p (f i)) (range_with_len a k) ≡ any p (listed f a k)
  unfolding any listed
  any_from a zero = refl
  any_from a (suc k) = ap (λ b. p (f a) || b) (any_from (a + 1) k ∙ ap (λ j. any p (listed f j k)) (add-one a))

  pub any_place_is : (n : ℕ) → any_place p f n ≡ any p (listed f 0 n)
  any_place_is n = any_from 0 n

  -- what a place that was found is; that none was
  pub first_place_some : {n i : ℕ} → first_place p f n ≡ Some i → (i ≡ first_from p f 0 n) × (i < n)
  first_place_some {n} {i} e = go (ltb (first_from p f 0 n) n) refl (sym (first_place_is n) ∙ e)
    where
      go : (b : Bool) → ltb (first_from p f 0 n) n ≡ b → cond b (Some (first_from p f 0 n)) None ≡ Some i
          → (i ≡ first_from p f 0 n) × (i < n)
      go true t h = let g : first_from p f 0 n ≡ i = ap (λ o. unwrap_or o n) h in
          (sym g, omega (arith, ltb-true (first_from p f 0 n) n t))
      go false t h = absurd (true≢false (sym (ap is_some h)))

  pub first_place_none : (n : ℕ) → (first_place p f n ≡ None) ↔ (ltb (first_from p f 0 n) n ≡ false)
  first_place_none n = (
    (λ e. go (ltb (first_from p f 0 n) n) (sym (first_place_is n) ∙ e)),
    (λ t. first_place_is n ∙ ap (λ b. cond b (Some (first_from p f 0 n)) None) t),
  )
    where
      go : (b : Bool) → cond b (Some (first_from p f 0 n)) None ≡ None → b ≡ false
      go true h = absurd (true≢false (ap is_some h))
      go false h = refl

  pub first_place_or : (n : ℕ) → unwrap_or (first_place p f n) n ≡ first_from p f 0 n
  first_place_or n = ap (λ o. unwrap_or o n) (first_place_is n) ∙ go (ltb (first_from p f 0 n) n) refl
    where
      go : (b : Bool) → ltb (first_from p f 0 n) n ≡ b → unwrap_or (cond b (Some (first_from p f 0 n)) None) n ≡ first_from p f 0 n
      go true t = refl
      go false t = omega (arith, ltb-false (first_from p f 0 n) n t, first_from-high p f 0 n zero-le)

  pub first_place_found : (n : ℕ) → Found p f 0 n (unwrap_or (first_place p f n) n)
  first_place_found n = record {
    is = first_place_or n;
    low = zero-le;
    high = rw (first_place_or n) (first_from-high p f 0 n zero-le);
  }

  pub any_first_place : (n : ℕ) → is_some (first_place p f n) ≡ any p (listed f 0 n)
  any_first_place n = ap is_some (first_place_is n) ∙ go (ltb (first_from p f 0 n) n) ∙ sym (any-first p f n)
    where
      go : (b : Bool) → is_some (cond b (Some (first_from p f 0 n)) None) ≡ b
      go true = refl
      go false = refl

  -- the same, in the form that a function's tactic line finds
  pub some_is : (n : ℕ) {i : ℕ} → first_place p f n ≡ Some i → first_from p f 0 n ≡ i
  some_is n e = sym (first_place_some e).0

  pub some_below : {n i : ℕ} → first_place p f n ≡ Some i → i < n
  some_below e = (first_place_some e).1

  pub none_below : (n : ℕ) → first_place p f n ≡ None → ltb (first_from p f 0 n) n ≡ false
  none_below n e = (first_place_none n).0 e

  pub next_or : (a n : ℕ) → unwrap_or (next_place p f a n) (max a n) ≡ first_from p f a n
  unfolding first_from
  next_or a n = ap (λ o. unwrap_or o (max a n)) (find_from a (n - a)) ∙ go (ltb r (a + (n - a))) refl
    where
      r : ℕ
      r = a + first_index p (listed f a (n - a))

      go : (b : Bool) → ltb r (a + (n - a)) ≡ b → unwrap_or (cond b (Some r) None) (max a n) ≡ r
      go true e = refl
      go false e =
          let most = first_index-most p (f a) (listed f a (n - a)) in
          omega (arith, ltb-false r (a + (n - a)) e, most, listed-length f a (n - a))

pub ruleset placing = (first_high, some_is, some_below, none_below)
