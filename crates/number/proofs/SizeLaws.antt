-- How many bytes a number of a chart file takes, of whatever bytes.
--     Size bs at n next    of the number n that the bytes bs begin with, from the place `at` to the place `next`: it
--                          takes a byte at the least and three at the most, all of them there, and no more than it
--                          needs
--     number_in-size       so it is of every number that is taken
--     number_in-append     bytes past the third change nothing of it
-- Assumes nothing.
use mathlib.Core.Path.{◌≡◌, refl, ap}
use mathlib.Core.Bool.{Bool, true, false, cond}
use mathlib.Core.List.{List, [], ◌∷◌, ◌++◌}
use Prim.Native.Nat.{ℕ, ◌+◌, ◌*◌, ◌<◌, ◌≤◌}
use native.Mathlib.Omega.{arith}
use lib.Dec.{eqb}
use lib.ListN.{length}
use Rattle.counts.proofs.TestLaws.{tests}
use Rattle.std.specs.Prelude.{Ok, Err}
use Rattle.number.specs.declared.NumberRefusal.{NumberRefusal}
use Rattle.number.specs.declared.NumberRefusal.TheVariants.{Overlong}
use Rattle.number.specs.Numbers.{Number, got, goes_on, bits, number_in}
use Rattle.number.specs.Groups.{last_group, third_group, second_group, first_group}
use Rattle.number.proofs.NumberLaws.{number_in-groups}

-- two values that are one number are one after the other
abbrev parts : Number → ℕ × ℕ
parts (Ok x) = x
parts (Err r) = (0, 0)

got-one : {m end n next : ℕ} → got m end ≡ got n next → (m ≡ n) × (end ≡ next)
got-one e = (ap (λ a. (parts a).0) e, ap (λ a. (parts a).1) e)

-- a refusal is no value
not-value : {r : NumberRefusal} {n next : ℕ} → ◌≡◌ {A = Number} (Err r) (got n next) → ⊥
not-value e = let o : ◌≡◌ {A = ℕ} 0 1 = cc in omega arith

-- ---- where a number ends

pub record Size (bs : List ℕ) (at n next : ℕ) : Type 0 where
  pub after : at < next
  pub within : next ≤ at + length bs
  pub most : next ≤ at + 3
  pub small : n < 2097152
  pub one : n < 128 → next ≡ at + 1
  pub two : n < 16384 → next ≤ at + 2

-- a last group after another is not zero
last-size : (b m at end n next : ℕ) → last_group b m at end ≡ got n next → (0 < b) × (m ≡ n) × (end ≡ next)
last-size b m at end n next e = go (eqb b 0) refl e
  where
    go : (t : Bool) → eqb b 0 ≡ t → cond t (Err (Overlong at)) (got m end) ≡ got n next
        → (0 < b) × (m ≡ n) × (end ≡ next)
    go true h e = absurd (not-value e)
    go false h e = let w = got-one e in (omega (arith, tests), w.0, w.1)

-- a third group makes the number at least 16,384
third-size : (m : ℕ) (bs : List ℕ) (at n next : ℕ) → m < 16384 → third_group m bs at ≡ got n next
    → (16384 ≤ n) × (n < 2097152) × (at + 3 ≡ next) × (0 < length bs)
unfolding third_group
third-size m [] at n next l e = absurd (not-value e)
third-size m (b ∷ bs) at n next l e = go (goes_on b) refl e
  where
    go : (t : Bool) → goes_on b ≡ t
        → cond t (Err (Overlong at)) (last_group b (m + 16384 * bits b) at (at + 3)) ≡ got n next
        → (16384 ≤ n) × (n < 2097152) × (at + 3 ≡ next) × (0 < length (b ∷ bs))
    go true h e = absurd (not-value e)
    go false h e = let w = last-size b (m + 16384 * bits b) at (at + 3) n next e in omega (arith, tests)

-- a second group makes it at least 128; c is the byte of the first
second-size : (c m : ℕ) (bs : List ℕ) (at n next : ℕ) → m < 128 → second_group m bs at ≡ got n next
    → Size (c ∷ bs) at n next
unfolding second_group
second-size c m [] at n next l e = absurd (not-value e)
second-size c m (b ∷ bs) at n next l e = go (goes_on b) refl e
  where
    go : (t : Bool) → goes_on b ≡ t
        → cond t (third_group (m + 128 * bits b) bs at) (last_group b (m + 128 * bits b) at (at + 2)) ≡ got n next
        → Size (c ∷ b ∷ bs) at n next
    go true h e = let w = third-size (m + 128 * bits b) bs at n next (omega arith) e in omega arith
    go false h e = let w = last-size b (m + 128 * bits b) at (at + 2) n next e in omega (arith, tests)

-- a number that has only a first group is below 128
first-size : (bs : List ℕ) (at n next : ℕ) → first_group bs at ≡ got n next → Size bs at n next
unfolding first_group
first-size [] at n next e = absurd (not-value e)
first-size (b ∷ bs) at n next e = go (goes_on b) refl e
  where
    go : (t : Bool) → goes_on b ≡ t → cond t (second_group (bits b) bs at) (got (bits b) (at + 1)) ≡ got n next
        → Size (b ∷ bs) at n next
    go true h e = second-size b (bits b) bs at n next (omega arith) e
    go false h e = omega (arith, got-one e)

pub number_in-size : (bs : List ℕ) (at n next : ℕ) → number_in bs at ≡ got n next → Size bs at n next
number_in-size bs at n next e = first-size bs at n next (rw (number_in-groups bs at) at e)

-- ---- which bytes count

first-append : (bs more : List ℕ) (at : ℕ) → 3 ≤ length bs → first_group (bs ++ more) at ≡ first_group bs at
unfolding first_group
first-append [] more at l = absurd (omega arith)
first-append (a ∷ []) more at l = absurd (omega arith)
first-append (a ∷ b ∷ []) more at l = absurd (omega arith)
first-append (a ∷ b ∷ c ∷ bs) more at l = refl

-- three bytes settle a number, whatever follows
pub number_in-append : (bs more : List ℕ) (at : ℕ) → 3 ≤ length bs → number_in (bs ++ more) at ≡ number_in bs at
number_in-append bs more at l =
    rw (number_in-groups (bs ++ more) at, number_in-groups bs at) (first-append bs more at l)
