-- Loops that read f i into a variable x and then test x: the laws of ScanLaws.antt, as such a loop meets them; and what
-- a first place or a count says of the whole list.
--     read-hit, read_more      looking for the first
--     read-yes, read_no        counting
--     reading                  for `search`: what closes the goals of such a loop
--     found_from               a first place, with its range
--     found-passes             what stands at a first place passes
--     found-any                a first place is below n exactly if some member passes
-- Assumes nothing.
use mathlib.Core.Path.{◌≡◌, sym, ap, ◌∙◌}
use mathlib.Core.Bool.{Bool, true, false}
use Prim.Native.Nat.{ℕ, ◌+◌, ◌<◌}
use native.Mathlib.Omega.{arith}
use lib.Dec.{ltb}
use Rattle.counts.specs.Count.{any, listed}
use Rattle.counts.specs.Scan.{first_from, Found, Counted}
use Rattle.counts.proofs.ScanLaws.{any-first, first_from-low, first_from-high, first_from-passes}
use Rattle.counts.proofs.LoopLaws.{Seen, seen_none, seen-hit, seen_more, seen_all}
use Rattle.counts.proofs.LoopLaws.{counted_none, counted-yes, counted-no, counted-all}
use Rattle.counts.proofs.LoopLaws.{summed-none, summed-more, summed-all}

module _ {A : Type 0} (p : A → Bool) (f : ℕ → A) where
  pub read-hit : {a n i : ℕ} {x : A} {b : Bool} → Seen p f a n i → i < n → x ≡ f i → b ≡ p x → b ≡ true
      → Found p f a n i
  read-hit s l r e t = seen-hit p f s l (e ∙ ap p r) t

  pub read_more : {a n i : ℕ} {x : A} {b : Bool} → Seen p f a n i → i < n → x ≡ f i → b ≡ p x → b ≡ false
      → Seen p f a n (i + 1)
  read_more s l r e t = seen_more p f s l (e ∙ ap p r) t

  pub read-yes : {i m k : ℕ} {x : A} {b : Bool} → Counted p f i m → x ≡ f i → b ≡ p x → b ≡ true → k ≡ m + 1
      → Counted p f (i + 1) k
  read-yes s r e t h = counted-yes p f s (e ∙ ap p r) t h

  pub read_no : {i m k : ℕ} {x : A} {b : Bool} → Counted p f i m → x ≡ f i → b ≡ p x → b ≡ false → k ≡ m
      → Counted p f (i + 1) k
  read_no s r e t h = counted-no p f s (e ∙ ap p r) t h

  pub found_from : {a n r : ℕ} → r ≡ first_from p f a n → a < n → Found p f a n r
  found_from {a} {n} e l = record {
    is = e;
    low = omega (arith, first_from-low p f a n (omega arith));
    high = omega (arith, first_from-high p f a n (omega arith));
  }

  pub found-passes : {a n r : ℕ} → Found p f a n r → r < n → p (f r) ≡ true
  found-passes {a} {n} h l =
      ap (λ i. p (f i)) h.is
      ∙ first_from-passes p f a n (omega (arith, h.low, h.high)) (omega (arith, h.is))

  pub found-any : {n r : ℕ} → Found p f 0 n r → ltb r n ≡ any p (listed f 0 n)
  found-any {n} {r} h = ap (λ i. ltb i n) h.is ∙ sym (any-first p f n)

pub ruleset reading = (
  seen_none,
  read-hit,
  read_more,
  seen_all,
  counted_none,
  read-yes,
  read_no,
  counted-all,
  summed-none,
  summed-more,
  summed-all,
)
