-- How a question may end (demand 1: "with an answer or a numbered refusal of document 01"; "a refused question leaves
-- the lent arrays untouched").
--     is_from l h k     k is one of l to h
--     is_refusal k      k is a refusal's number by document 01's tables: 1 to 13, 21 to 23 or 31 to 36
--     Numbered k        a question that gives the number k is answered, which is number 0, or k is a refusal's
--     Ends B k lent out     and where it is refused, the B that was lent is as it was
-- Assumes nothing.
use Rattle.std.specs.Prelude.{◌≡◌, ◌⊎◌, Bool, true, ◌&&◌, ◌||◌, ℕ, leb}

abbrev pub is_from : ℕ → ℕ → ℕ → Bool
is_from l h k = leb l k && leb k h

abbrev pub is_refusal : ℕ → Bool
is_refusal k = is_from 1 13 k || is_from 21 23 k || is_from 31 36 k

abbrev pub Numbered : ℕ → Type 0
Numbered k = (k ≡ 0) ⊎ (is_refusal k ≡ true)

abbrev pub Ends : (B : Type 0) → ℕ → B → B → Type 0
Ends B k lent out = (k ≡ 0) ⊎ ((is_refusal k ≡ true) × (out ≡ lent))
