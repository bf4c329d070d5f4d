-- One number of a chart file group by group, as the bytes are met.
--     first_group bs at       the number whose bytes are bs, at the place `at`. That it is `number_in` is a law of
--                             proofs/NumberLaws.antt
--     second_group n bs at    the same where the first group gives n, bs being the bytes after it
--     third_group n bs at     the same where the first two groups give n
--     last_group b n at next  the number n, whose last group b comes after another
-- Assumes nothing.
use Rattle.std.specs.Prelude.{cond, List, [], ◌∷◌, ℕ, ◌+◌, ◌*◌, eqb, Err}
use Rattle.number.specs.declared.NumberRefusal.TheVariants.{Ends, Overlong}
use Rattle.number.specs.Numbers.{Number, got, goes_on, bits}

abbrev pub last_group : ℕ → ℕ → ℕ → ℕ → Number
last_group b n at next = cond (eqb b 0) (Err (Overlong at)) (got n next)

unfoldable pub third_group : ℕ → List ℕ → ℕ → Number
third_group n [] at = Err (Ends at)
third_group n (b ∷ bs) at = cond (goes_on b) (Err (Overlong at)) (last_group b (n + 16384 * bits b) at (at + 3))

unfoldable pub second_group : ℕ → List ℕ → ℕ → Number
unfolding third_group
second_group n [] at = Err (Ends at)
second_group n (b ∷ bs) at =
    cond (goes_on b) (third_group (n + 128 * bits b) bs at) (last_group b (n + 128 * bits b) at (at + 2))

unfoldable pub first_group : List ℕ → ℕ → Number
unfolding second_group third_group
first_group [] at = Err (Ends at)
first_group (b ∷ bs) at = cond (goes_on b) (second_group (bits b) bs at) (got (bits b) (at + 1))
