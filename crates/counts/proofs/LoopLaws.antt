-- What a loop that looks for the first, counts or sums holds on its way, and the laws that keep it:
-- for any test p, any value v and any f.
--     Seen p f a n i      from a up to i none passed, so the first from i on is the first from a on
--     `Counted p f i m` and `Summed v f b i m` of specs/Scan.antt are what a loop that counts or sums holds at i
--     scanning            for `search`: what closes the goals of such a loop
-- Each law takes what the code has, b ≡ p (f i) and b ≡ true, and gives the next invariant or the contract.
-- Loops that read f i into a variable first: ReadLaws.antt.
-- Assumes nothing.
use mathlib.Core.Path.{◌≡◌, refl, sym, ap, ◌∙◌}
use mathlib.Core.Bool.{Bool, true, false}
use Prim.Native.Nat.{ℕ, ◌+◌, ◌≤◌, ◌<◌}
use native.Mathlib.Numerals.{add-one}
use native.Mathlib.Omega.{arith}
use Rattle.counts.specs.Count.{ind, sum, count, listed}
use Rattle.counts.specs.Scan.{first_from, Found, Counted, Summed}
use Rattle.counts.proofs.SumLaws.{sum-append}
use Rattle.counts.proofs.ListedLaws.{listed-snoc}
use Rattle.counts.proofs.ScanLaws.{first_from-end, first_from-hit, first_from-miss}

pub record Seen {A : Type 0} (p : A → Bool) (f : ℕ → A) (a n i : ℕ) : Type 0 where
  pub low : a ≤ i
  pub high : i ≤ n
  pub rest : first_from p f i n ≡ first_from p f a n

module _ {A : Type 0} (p : A → Bool) (f : ℕ → A) {a n : ℕ} where
  pub seen_none : a ≤ n → Seen p f a n a
  seen_none h = record { low = omega arith; high = h; rest = refl }

  pub seen_more : {i : ℕ} {b : Bool} → Seen p f a n i → i < n → b ≡ p (f i) → b ≡ false → Seen p f a n (i + 1)
  seen_more {i} s l e t = record {
    low = omega (arith, s.low);
    high = omega arith;
    rest = ap (λ j. first_from p f j n) (add-one i) ∙ sym (first_from-miss p f i n l (sym e ∙ t)) ∙ s.rest;
  }

  pub seen-hit : {i : ℕ} {b : Bool} → Seen p f a n i → i < n → b ≡ p (f i) → b ≡ true → Found p f a n i
  seen-hit {i} s l e t =
      record { is = sym (first_from-hit p f i n l (sym e ∙ t)) ∙ s.rest; low = s.low; high = s.high }

  pub seen_all : {i : ℕ} → Seen p f a n i → n ≤ i → Found p f a n n
  seen_all {i} s l =
      let e : i ≡ n = omega (arith, s.high) in
      record {
        is = sym e ∙ sym (first_from-end p f i n l) ∙ s.rest;
        low = omega (arith, s.low);
        high = omega arith;
      }

-- ---- one more term

module _ {A : Type 0} (v : A → ℕ) (f : ℕ → A) where
  pub sum_more : (i : ℕ) → sum v (listed f 0 (i + 1)) ≡ sum v (listed f 0 i) + v (f i)
  unfolding sum
  sum_more i =
      ap (λ n. sum v (listed f 0 n)) (add-one i)
      ∙ ap (sum v) (listed-snoc f 0 i)
      ∙ sum-append v (listed f 0 i) _
      ∙ go (0 + i) (omega arith)
    where
      go : (j : ℕ) → j ≡ i → sum v (listed f 0 i) + (v (f j) + 0) ≡ sum v (listed f 0 i) + v (f i)
      go j e = rw e (omega arith)

-- ---- how many

module _ {A : Type 0} (p : A → Bool) (f : ℕ → A) where
  pub count-more : (i : ℕ) → count p (listed f 0 (i + 1)) ≡ count p (listed f 0 i) + ind (p (f i))
  count-more i = sum_more (λ x. ind (p x)) f i

  pub counted_none : Counted p f 0 0
  unfolding sum listed
  counted_none = record { is = refl; most = omega arith }

  pub counted-yes : {i m k : ℕ} {b : Bool} → Counted p f i m → b ≡ p (f i) → b ≡ true → k ≡ m + 1
      → Counted p f (i + 1) k
  counted-yes {i} {m} {k} s e t h =
      record { is = omega (arith, s.is, count-more i, ap ind (sym e ∙ t)); most = omega (arith, s.most) }

  pub counted-no : {i m k : ℕ} {b : Bool} → Counted p f i m → b ≡ p (f i) → b ≡ false → k ≡ m → Counted p f (i + 1) k
  counted-no {i} {m} {k} s e t h =
      record { is = omega (arith, s.is, count-more i, ap ind (sym e ∙ t)); most = omega (arith, s.most) }

  pub counted-all : {i m n : ℕ} → Counted p f i m → i ≤ n → n ≤ i → Counted p f n m
  counted-all {i} {m} {n} s a b =
      let e : i ≡ n = omega arith in
      record { is = s.is ∙ ap (λ j. count p (listed f 0 j)) e; most = omega (arith, s.most) }

-- ---- how much

module _ {A : Type 0} (v : A → ℕ) (f : ℕ → A) where
  pub summed-none : {b : ℕ} → Summed v f b 0 0
  unfolding sum listed
  summed-none = record { is = refl; most = omega arith }

  pub summed-more : {b i m t k : ℕ} {x : A} → Summed v f b i m → x ≡ f i → t ≡ v x → t ≤ b → k ≡ m + t
      → Summed v f b (i + 1) k
  summed-more {b} {i} {m} {t} {k} s e g l h =
      record { is = omega (arith, s.is, sum_more v f i, ap v e); most = omega (arith, s.most) }

  pub summed-all : {b i m n : ℕ} → Summed v f b i m → i ≤ n → n ≤ i → Summed v f b n m
  summed-all {b} {i} {m} {n} s l h =
      let e : i ≡ n = omega arith in
      record { is = s.is ∙ ap (λ j. sum v (listed f 0 j)) e; most = rw (sym e) s.most }

pub ruleset scanning =
    (seen_none, seen-hit, seen_more, seen_all, counted_none, counted-yes, counted-no, counted-all)
