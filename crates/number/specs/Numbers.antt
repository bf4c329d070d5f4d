-- One number of a chart file (document 01, "The chart file": "A number is written in groups of seven bits, lowest
-- first, high bit set on all but the last"). bs are the bytes from its first one on, which is at the place `at`.
--     Number           a number and the place after it, or why there is none
--     got n next       the number n, and the place `next` after it
--     goes_on b        the high bit of the byte b is set
--     bits b           its seven bits
--     last_of bs       how many groups have their high bit set before the first that has not; the length where all have
--     value_of gs      what the groups gs make, lowest first
--     number_in bs at  the number, and the place after it; or, "The place is the first byte of the number",
--                      Overlong at  "a third group with its high bit set, whatever follows"
--                      Ends at      "bytes end inside a number or before it"
--                      Overlong at  "or a last group of zero after another"
--     number_at s at    the number at the place `at` of a file s
--     told r            the number and the place of each refusal
--     number_refusal a  so of an answer a: 0 and 0 where there is a number
--     written z         "Signed n is written as 2n, or -2n-1 below zero"
--     signed n          the signed number that is written as n: `signed-written`, `written-signed` are laws of
--                       proofs/SignedLaws.antt
-- Assumes nothing.
use Rattle.std.specs.Prelude.{Bool, cond, not, ◌&&◌, List, [], ◌∷◌, ℕ, ◌+◌, ◌*◌, ◌/◌, ◌%◌, ltb, leb, eqb, ℤ, pos}
use Rattle.std.specs.Prelude.{negsuc, length, get_or, take, drop, Result, Ok, Err}
use Rattle.counts.specs.Count.{first_index}
use Rattle.chart.specs.declared.Refusal.{Refusal}
use Rattle.chart.specs.Verdicts.{no_refusal}
use Rattle.number.specs.declared.NumberRefusal.{NumberRefusal}
use Rattle.number.specs.declared.NumberRefusal.TheVariants.{Ends, Overlong}

abbrev pub Number : Type 0
Number = Result (ℕ × ℕ) NumberRefusal

abbrev pub got : ℕ → ℕ → Number
got n next = Ok (n, next)

abbrev pub goes_on : ℕ → Bool
goes_on b = leb 128 b

abbrev pub bits : ℕ → ℕ
bits b = b % 128

abbrev pub last_of : List ℕ → ℕ
last_of bs = first_index (λ b. not (goes_on b)) bs

unfoldable pub value_of : List ℕ → ℕ
value_of [] = 0
value_of (b ∷ gs) = bits b + 128 * value_of gs

unfoldable pub number_in : List ℕ → ℕ → Number
unfolding value_of
number_in bs at =
    let k = last_of bs in
    cond (ltb 2 k) (Err (Overlong at))
    (cond (leb (length bs) k) (Err (Ends at))
    (cond (ltb 0 k && eqb (get_or bs k 0) 0) (Err (Overlong at)) (got (value_of (take (k + 1) bs)) (at + (k + 1)))))

abbrev pub number_at : List ℕ → ℕ → Number
number_at s at = number_in (drop at s) at

abbrev pub told : NumberRefusal → Refusal
told (Ends at) = record { number = 31; index = at }
told (Overlong at) = record { number = 32; index = at }

abbrev pub number_refusal : Number → Refusal
number_refusal (Ok x) = no_refusal
number_refusal (Err r) = told r

abbrev pub written : ℤ → ℕ
written (pos n) = 2 * n
written (negsuc n) = 2 * n + 1

unfoldable pub signed : ℕ → ℤ
signed n = cond (eqb (n % 2) 0) (pos (n / 2)) (negsuc (n / 2))
