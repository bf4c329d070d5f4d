-- What a chain or a loop over f a, f (a + 1), .. answers, as a contract says it: the first place, whether there is one,
-- how many, or their sum. Those with 'place' are std's words over the places.
--     first_place p f n     the first place i below n at which f i passes p, where there is one
--     next_place p f a n    the first place from a on, below n, at which f i passes p, where there is one
--     any_place p f n       whether there is one
--     count_places p f n    how many there are
--     first_from p f a n    the first place i from a on, below n, at which f i passes p; n where there is none
--     Found p f a n r       r is that place, with its range, which is what most callers want
--     Counted p f n m       m of the f 0 .. f (n - 1) pass p, and no more than n can
--     Summed v f b n m      m is the sum of v over f 0 .. f (n - 1), no more than n terms of b each
-- Assumes nothing.
use Rattle.std.specs.Prelude.{◌≡◌, Bool, ℕ, ◌+◌, ◌-◌, ◌*◌, ◌≤◌, Option, find, count_by}
use Rattle.std.specs.List.{range_with_len, list_any}
use Rattle.counts.specs.Count.{sum, count, first_index, listed}

abbrev pub first_place : {A : Type 0} → (A → Bool) → (ℕ → A) → ℕ → Option ℕ
first_place p f n = find (λ i. p (f i)) (range_with_len 0 n)

abbrev pub next_place : {A : Type 0} → (A → Bool) → (ℕ → A) → ℕ → ℕ → Option ℕ
next_place p f a n = find (λ i. p (f i)) (range_with_len a (n - a))

abbrev pub any_place : {A : Type 0} → (A → Bool) → (ℕ → A) → ℕ → Bool
any_place p f n = list_any (λ i. p (f i)) (range_with_len 0 n)

abbrev pub count_places : {A : Type 0} → (A → Bool) → (ℕ → A) → ℕ → ℕ
count_places p f n = count_by (λ i. p (f i)) (range_with_len 0 n)

unfoldable pub first_from : {A : Type 0} → (A → Bool) → (ℕ → A) → ℕ → ℕ → ℕ
first_from p f a n = a + first_index p (listed f a (n - a))

pub record Found {A : Type 0} (p : A → Bool) (f : ℕ → A) (a n r : ℕ) : Type 0 where
  pub is : r ≡ first_from p f a n
  pub low : a ≤ r
  pub high : r ≤ n

pub record Counted {A : Type 0} (p : A → Bool) (f : ℕ → A) (n m : ℕ) : Type 0 where
  pub is : m ≡ count p (listed f 0 n)
  pub most : m ≤ n

pub record Summed {A : Type 0} (v : A → ℕ) (f : ℕ → A) (b n m : ℕ) : Type 0 where
  pub is : m ≡ sum v (listed f 0 n)
  pub most : m ≤ n * b
