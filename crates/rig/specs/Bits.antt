-- An answer of the boundary is one number of 64 bits.
--     packed v n c k     bits 0 to 31 the value, index or place v; bits 32 to 47 the refusal's number n, 0 where the
--                        question was answered; bits 48 to 55 the chart named c; bits 56 to 63 a kind k
--     value_of, number_of, chart_of, kind_of  these four, read from an answer
--     length_of            bits 32 to 63, where the answer is a run: how many numbers it has
--     cycles_of, faces_of  bits 0 to 15 and 16 to 31, where the answer is of faces: how many cycles and faces there are
--     of_refusal r         a refusal that names no chart: its number, and its index or place
-- Assumes nothing.
use Rattle.std.specs.Prelude.{ℕ, ◌+◌, ◌*◌, ◌^◌, ◌/◌, ◌%◌}
use Rattle.chart.specs.declared.Refusal.{Refusal}

unfoldable pub packed : ℕ → ℕ → ℕ → ℕ → ℕ
packed v n c k = v + 2 ^ 32 * (n + 2 ^ 16 * (c + 2 ^ 8 * k))

unfoldable pub value_of : ℕ → ℕ
value_of a = a % 2 ^ 32

unfoldable pub number_of : ℕ → ℕ
number_of a = (a / 2 ^ 32) % 2 ^ 16

unfoldable pub length_of : ℕ → ℕ
length_of a = a / 2 ^ 32

unfoldable pub cycles_of : ℕ → ℕ
cycles_of a = a % 2 ^ 16

unfoldable pub faces_of : ℕ → ℕ
faces_of a = (a / 2 ^ 16) % 2 ^ 16

unfoldable pub chart_of : ℕ → ℕ
chart_of a = (a / 2 ^ 48) % 2 ^ 8

unfoldable pub kind_of : ℕ → ℕ
kind_of a = a / 2 ^ 56

abbrev pub of_refusal : Refusal → ℕ
of_refusal r = packed r.index r.number 0 0
