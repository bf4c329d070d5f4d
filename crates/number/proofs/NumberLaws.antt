-- Laws of one number of a file.
--     number_in-groups  the number, group by group
-- Assumes nothing.
use mathlib.Core.Path.{◌≡◌, refl}
use mathlib.Core.Bool.{Bool, true, false, cond, not, ◌&&◌}
use mathlib.Core.List.{List, [], ◌∷◌}
use Prim.Native.Nat.{ℕ, suc, ◌+◌, ◌*◌}
use native.Mathlib.Omega.{arith}
use borrow.Author.Tests.{lt-ltb, lt-leb}
use lib.Dec.{ltb, leb, eqb}
use lib.ListN.{length, get_or, take}
use Rattle.counts.specs.Count.{first_index}
use Rattle.std.specs.Prelude.{Err}
use Rattle.number.specs.declared.NumberRefusal.TheVariants.{Ends, Overlong}
use Rattle.number.specs.Numbers.{Number, got, goes_on, bits, last_of, value_of, number_in}
use Rattle.number.specs.Groups.{last_group, third_group, second_group, first_group}

-- the number whose last group is the one after k others
abbrev chosen : ℕ → List ℕ → ℕ → Number
chosen k bs at =
    cond (ltb 2 k) (Err (Overlong at))
    (cond (leb (length bs) k) (Err (Ends at))
    (cond (ltb 0 k && eqb (get_or bs k 0) 0) (Err (Overlong at)) (got (value_of (take (k + 1) bs)) (at + (k + 1)))))

abbrev next : Bool → ℕ → ℕ
next high k = cond (not high) 0 (suc k)

third : (a b : ℕ) (bs : List ℕ) (at : ℕ)
    → chosen (suc (suc (last_of bs))) (a ∷ b ∷ bs) at ≡ third_group (bits a + 128 * bits b) bs at
unfolding third_group first_index value_of
third a b [] at = refl
third a b (c ∷ bs) at = go (goes_on c)
  where
    go : (high : Bool) → chosen (suc (suc (next high (last_of bs)))) (a ∷ b ∷ c ∷ bs) at
        ≡ cond high (Err (Overlong at)) (last_group c (bits a + 128 * bits b + 16384 * bits c) at (at + 3))
    go true = rw (lt-ltb 2 (suc (suc (suc (last_of bs)))) (omega arith)) refl
    go false =
        let low = bits a + 128 * bits b in
        let value : bits a + 128 * (bits b + 128 * (bits c + 128 * 0)) ≡ low + 16384 * bits c = omega arith in
        rw (lt-leb (suc (suc (suc (length bs)))) 2 (omega arith), value) refl

second : (a : ℕ) (bs : List ℕ) (at : ℕ) → chosen (suc (last_of bs)) (a ∷ bs) at ≡ second_group (bits a) bs at
unfolding second_group first_index value_of
second a [] at = refl
second a (b ∷ bs) at = go (goes_on b)
  where
    go : (high : Bool) → chosen (suc (next high (last_of bs))) (a ∷ b ∷ bs) at
        ≡ cond high (third_group (bits a + 128 * bits b) bs at) (last_group b (bits a + 128 * bits b) at (at + 2))
    go true = third a b bs at
    go false =
        let value : bits a + 128 * (bits b + 128 * 0) ≡ bits a + 128 * bits b = omega arith in
        rw (lt-leb (suc (suc (length bs))) 1 (omega arith), value) refl

pub number_in-groups : (bs : List ℕ) (at : ℕ) → number_in bs at ≡ first_group bs at
unfolding number_in first_group first_index value_of
number_in-groups [] at = refl
number_in-groups (a ∷ bs) at = go (goes_on a)
  where
    go : (high : Bool) → chosen (next high (last_of bs)) (a ∷ bs) at
        ≡ cond high (second_group (bits a) bs at) (got (bits a) (at + 1))
    go true = second a bs at
    go false =
        let value : bits a + 128 * 0 ≡ bits a = omega arith in
        rw (lt-leb (suc (length bs)) 0 (omega arith), value) refl
