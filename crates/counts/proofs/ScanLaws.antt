-- The first place from a on at which f passes a test: `first_from` of specs/Scan.antt, for any test p and any f.
--     first_from-end, -hit, -miss              its value by the first step
--     first_from-low, -high, -passes, -fails   its range, and what stands at the first place, and before it
--     first_from-least                         what passes is no earlier
--     first_from-unique                        what passes where nothing before it does is the first
--     first_from-none, any-first               no place passes; it is below n exactly if some member passes
-- Assumes nothing.
use mathlib.Core.Path.{◌≡◌, sym, ap, ◌∙◌}
use mathlib.Core.Logic.{◌↔◌, ⊎_elim}
use mathlib.Core.Bool.{Bool, true, false, true≢false}
use Prim.Native.Nat.{ℕ, suc, ◌+◌, ◌-◌, ◌≤◌, ◌<◌, zero-le}
use native.Mathlib.Omega.{arith}
use lib.Dec.{ltb}
use borrow.Author.Tests.{ltb-true, ltb-false, lt-ltb}
use Rattle.counts.specs.Count.{◌∈◌, any, first_index, listed}
use Rattle.counts.specs.Scan.{first_from}
use Rattle.counts.proofs.TestLaws.{is_false, same_test, lt-or-le, Side, less, equal, more, side}
use Rattle.counts.proofs.FirstLaws.{first_index-most, first_index-passes, first_index-fails}
use Rattle.counts.proofs.ListedLaws.{listed-length, listed_at, listed-mem, mem-listed}
use Rattle.counts.proofs.HighestLaws.{any-member}

module _ {A : Type 0} (p : A → Bool) (f : ℕ → A) where
  -- ---- the first from a place on

  pub first_from-end : (i n : ℕ) → n ≤ i → first_from p f i n ≡ i
  unfolding first_from first_index listed
  first_from-end i n l = go (n - i) (omega arith)
    where
      go : (k : ℕ) → k ≡ 0 → i + first_index p (listed f i k) ≡ i
      go k e = rw e (omega arith)

  pub first_from-hit : (i n : ℕ) → i < n → p (f i) ≡ true → first_from p f i n ≡ i
  unfolding first_from first_index listed
  first_from-hit i n l t = go (n - i) (n - suc i) (omega arith)
    where
      go : (k j : ℕ) → k ≡ suc j → i + first_index p (listed f i k) ≡ i
      go k j e = rw (e, t) (omega arith)

  pub first_from-miss : (i n : ℕ) → i < n → p (f i) ≡ false → first_from p f i n ≡ first_from p f (suc i) n
  unfolding first_from first_index listed
  first_from-miss i n l t = go (n - i) (n - suc i) (omega arith)
    where
      go : (k j : ℕ) → k ≡ suc j → i + first_index p (listed f i k) ≡ suc i + first_index p (listed f (suc i) j)
      go k j e = rw (e, t) (omega arith)

-- what stands at the first place, and before it
module _ {A : Type 0} (p : A → Bool) (f : ℕ → A) (a n : ℕ) (le : a ≤ n) where
  pub first_from-low : a ≤ first_from p f a n
  unfolding first_from
  first_from-low = omega arith

  pub first_from-high : first_from p f a n ≤ n
  unfolding first_from
  first_from-high = omega (arith, first_index-most p (f a) (listed f a (n - a)), listed-length f a (n - a))

  pub first_from-passes : first_from p f a n < n → p (f (first_from p f a n)) ≡ true
  unfolding first_from
  first_from-passes l =
      let i : ℕ = first_index p (listed f a (n - a)) in
      let short : i < n - a = omega arith in
      sym (ap p (listed_at f (f a) a (n - a) i short))
      ∙ first_index-passes p (f a) (listed f a (n - a)) (omega (arith, listed-length f a (n - a)))

  pub first_from-fails : (i : ℕ) → a ≤ i → i < first_from p f a n → p (f i) ≡ false
  unfolding first_from
  first_from-fails i h l =
      let k : ℕ = i - a in
      let there : a + k ≡ i = omega arith in
      let short : k < n - a = omega (arith, first_index-most p (f a) (listed f a (n - a)), listed-length f a (n - a)) in
      ap (λ j. p (f j)) (sym there)
      ∙ sym (ap p (listed_at f (f a) a (n - a) k short))
      ∙ first_index-fails p (f a) (listed f a (n - a)) k (omega arith)

  pub first_from-least : (i : ℕ) → a ≤ i → p (f i) ≡ true → first_from p f a n ≤ i
  first_from-least i h t =
      ⊎_elim (λ l. absurd (true≢false (sym t ∙ first_from-fails i h l))) (λ l. l) (lt-or-le i (first_from p f a n))

  pub first_from-unique : (i : ℕ) → a ≤ i → i ≤ n → (i < n → p (f i) ≡ true)
      → ((j : ℕ) → a ≤ j → j < i → p (f j) ≡ false) → i ≡ first_from p f a n
  first_from-unique i h k passes fails = by_side (side i (first_from p f a n))
    where
      by_side : Side i (first_from p f a n) → i ≡ first_from p f a n
      by_side (less l) = absurd (true≢false (sym (passes (omega (arith, first_from-high))) ∙ first_from-fails i h l))
      by_side (equal e) = e
      by_side (more l) =
          absurd (true≢false (sym (first_from-passes (omega arith)) ∙ fails (first_from p f a n) first_from-low l))

  pub first_from-none : (ltb (first_from p f a n) n ≡ false) ↔ ((i : ℕ) → a ≤ i → i < n → p (f i) ≡ false)
  first_from-none = (
    (λ e i h l. first_from-fails i h (omega (arith, ltb-false (first_from p f a n) n e))),
    (λ h. is_false _ (λ t. let l = ltb-true _ _ t in true≢false (sym (first_from-passes l) ∙ h _ first_from-low l))),
  )

module _ {A : Type 0} where
  pub any-first : (p : A → Bool) (f : ℕ → A) (n : ℕ) → any p (listed f 0 n) ≡ ltb (first_from p f 0 n) n
  any-first p f n = same_test _ _ (λ t. there ((any-member p (listed f 0 n)).0 t)) (λ t. back (ltb-true _ _ t))
    where
      there : (x : A) × (x ∈ listed f 0 n) × (p x ≡ true) → ltb (first_from p f 0 n) n ≡ true
      there h =
          let at = listed-mem f 0 n h.0 h.1 in
          let least = first_from-least p f 0 n zero-le at.0 at.1 (sym (ap p at.3) ∙ h.2) in
          lt-ltb (first_from p f 0 n) n (omega (arith, at.2))

      back : first_from p f 0 n < n → any p (listed f 0 n) ≡ true
      back l =
          let i : ℕ = first_from p f 0 n in
          let member = mem-listed f 0 n i zero-le (omega arith) in
          (any-member p (listed f 0 n)).1 (f i, member, first_from-passes p f 0 n zero-le l)
