-- What document 01's bench examples speak of: charts, as arrays of numbers, gauge cards and readings.
--     square              corners (0,0) and (4,4)
--     last_mark_zero      the same with its last mark 0
--     bottom_marked_zero  the same with both halves of the bottom side marked 0
--     square_with_hole    the square plus the hole (0,0), (2,1), (1,2)
--     neighbour           the square's neighbour, corners (4,0) and (8,4)
--     large_triangle      (-32768,-32768), (32767,-32768), (-32768,32767)
--     square_file         document 01's file of the square, byte by byte
--     zero, half, one, two, thousand    as floats: m * 2 ^ e
--     doubled, shifted, halved    bridges: gain 2, zero 0; gain 1, zero 1; gain 0.5, zero 0
--     spring             rate 1, pin 1,000
--     reads p r          the pressure p and the row r, not refused
--     as_told k i        a refusal as C and the programs read it: its number k, with the index i
-- Assumes nothing.
use Rattle.std.specs.Prelude.{false, List, [], ◌∷◌, ℕ, ℤ, pos, negsuc, Float, Ok}
use Rattle.std.specs.Float.{fin}
use Rattle.chart.specs.declared.Refusal.{Refusal}
use Rattle.gauge.specs.declared.Card.{Card}
use Rattle.gauge.specs.declared.Card.TheVariants.{Spring, Bridge}
use Rattle.gauge.specs.Readings.{Gauged}

abbrev pub square : List ℤ
square =
    pos 0 ∷ pos 0 ∷ pos 4 ∷ pos 0 ∷ pos 1
    ∷ pos 0 ∷ pos 0 ∷ pos 0 ∷ pos 4 ∷ pos 0
    ∷ pos 0 ∷ pos 4 ∷ pos 0 ∷ pos 0 ∷ pos 0
    ∷ pos 0 ∷ pos 4 ∷ pos 4 ∷ pos 4 ∷ pos 0
    ∷ pos 4 ∷ pos 0 ∷ pos 0 ∷ pos 0 ∷ pos 1
    ∷ pos 4 ∷ pos 0 ∷ pos 4 ∷ pos 4 ∷ pos 1
    ∷ pos 4 ∷ pos 4 ∷ pos 0 ∷ pos 4 ∷ pos 0
    ∷ pos 4 ∷ pos 4 ∷ pos 4 ∷ pos 0 ∷ pos 1
    ∷ []

abbrev pub square_file : List ℕ
square_file =
    8
    ∷ 0 ∷ 0 ∷ 8 ∷ 0 ∷ 1
    ∷ 0 ∷ 0 ∷ 0 ∷ 8 ∷ 0
    ∷ 0 ∷ 8 ∷ 0 ∷ 0 ∷ 0
    ∷ 0 ∷ 8 ∷ 8 ∷ 8 ∷ 0
    ∷ 8 ∷ 0 ∷ 0 ∷ 0 ∷ 1
    ∷ 8 ∷ 0 ∷ 8 ∷ 8 ∷ 1
    ∷ 8 ∷ 8 ∷ 0 ∷ 8 ∷ 0
    ∷ 8 ∷ 8 ∷ 8 ∷ 0 ∷ 1
    ∷ []

abbrev pub last_mark_zero : List ℤ
last_mark_zero =
    pos 0 ∷ pos 0 ∷ pos 4 ∷ pos 0 ∷ pos 1
    ∷ pos 0 ∷ pos 0 ∷ pos 0 ∷ pos 4 ∷ pos 0
    ∷ pos 0 ∷ pos 4 ∷ pos 0 ∷ pos 0 ∷ pos 0
    ∷ pos 0 ∷ pos 4 ∷ pos 4 ∷ pos 4 ∷ pos 0
    ∷ pos 4 ∷ pos 0 ∷ pos 0 ∷ pos 0 ∷ pos 1
    ∷ pos 4 ∷ pos 0 ∷ pos 4 ∷ pos 4 ∷ pos 1
    ∷ pos 4 ∷ pos 4 ∷ pos 0 ∷ pos 4 ∷ pos 0
    ∷ pos 4 ∷ pos 4 ∷ pos 4 ∷ pos 0 ∷ pos 0
    ∷ []

abbrev pub bottom_marked_zero : List ℤ
bottom_marked_zero =
    pos 0 ∷ pos 0 ∷ pos 4 ∷ pos 0 ∷ pos 0
    ∷ pos 0 ∷ pos 0 ∷ pos 0 ∷ pos 4 ∷ pos 0
    ∷ pos 0 ∷ pos 4 ∷ pos 0 ∷ pos 0 ∷ pos 0
    ∷ pos 0 ∷ pos 4 ∷ pos 4 ∷ pos 4 ∷ pos 0
    ∷ pos 4 ∷ pos 0 ∷ pos 0 ∷ pos 0 ∷ pos 0
    ∷ pos 4 ∷ pos 0 ∷ pos 4 ∷ pos 4 ∷ pos 1
    ∷ pos 4 ∷ pos 4 ∷ pos 0 ∷ pos 4 ∷ pos 0
    ∷ pos 4 ∷ pos 4 ∷ pos 4 ∷ pos 0 ∷ pos 1
    ∷ []

abbrev pub square_with_hole : List ℤ
square_with_hole =
    pos 0 ∷ pos 0 ∷ pos 4 ∷ pos 0 ∷ pos 1
    ∷ pos 0 ∷ pos 0 ∷ pos 2 ∷ pos 1 ∷ pos 0
    ∷ pos 0 ∷ pos 0 ∷ pos 1 ∷ pos 2 ∷ pos 1
    ∷ pos 0 ∷ pos 0 ∷ pos 0 ∷ pos 4 ∷ pos 0
    ∷ pos 0 ∷ pos 4 ∷ pos 0 ∷ pos 0 ∷ pos 0
    ∷ pos 0 ∷ pos 4 ∷ pos 4 ∷ pos 4 ∷ pos 0
    ∷ pos 1 ∷ pos 2 ∷ pos 0 ∷ pos 0 ∷ pos 1
    ∷ pos 1 ∷ pos 2 ∷ pos 2 ∷ pos 1 ∷ pos 1
    ∷ pos 2 ∷ pos 1 ∷ pos 1 ∷ pos 2 ∷ pos 1
    ∷ pos 2 ∷ pos 1 ∷ pos 0 ∷ pos 0 ∷ pos 0
    ∷ pos 4 ∷ pos 0 ∷ pos 0 ∷ pos 0 ∷ pos 1
    ∷ pos 4 ∷ pos 0 ∷ pos 4 ∷ pos 4 ∷ pos 1
    ∷ pos 4 ∷ pos 4 ∷ pos 0 ∷ pos 4 ∷ pos 0
    ∷ pos 4 ∷ pos 4 ∷ pos 4 ∷ pos 0 ∷ pos 1
    ∷ []

abbrev pub neighbour : List ℤ
neighbour =
    pos 4 ∷ pos 0 ∷ pos 8 ∷ pos 0 ∷ pos 1
    ∷ pos 4 ∷ pos 0 ∷ pos 4 ∷ pos 4 ∷ pos 0
    ∷ pos 4 ∷ pos 4 ∷ pos 4 ∷ pos 0 ∷ pos 0
    ∷ pos 4 ∷ pos 4 ∷ pos 8 ∷ pos 4 ∷ pos 0
    ∷ pos 8 ∷ pos 0 ∷ pos 4 ∷ pos 0 ∷ pos 1
    ∷ pos 8 ∷ pos 0 ∷ pos 8 ∷ pos 4 ∷ pos 1
    ∷ pos 8 ∷ pos 4 ∷ pos 4 ∷ pos 4 ∷ pos 0
    ∷ pos 8 ∷ pos 4 ∷ pos 8 ∷ pos 0 ∷ pos 1
    ∷ []

abbrev pub large_triangle : List ℤ
large_triangle =
    negsuc 32767 ∷ negsuc 32767 ∷ pos 32767 ∷ negsuc 32767 ∷ pos 1
    ∷ negsuc 32767 ∷ negsuc 32767 ∷ negsuc 32767 ∷ pos 32767 ∷ pos 0
    ∷ negsuc 32767 ∷ pos 32767 ∷ negsuc 32767 ∷ negsuc 32767 ∷ pos 0
    ∷ negsuc 32767 ∷ pos 32767 ∷ pos 32767 ∷ negsuc 32767 ∷ pos 0
    ∷ pos 32767 ∷ negsuc 32767 ∷ negsuc 32767 ∷ pos 32767 ∷ pos 0
    ∷ pos 32767 ∷ negsuc 32767 ∷ negsuc 32767 ∷ negsuc 32767 ∷ pos 1
    ∷ []

-- ---- gauges

abbrev pub half : Float
half = fin false 1 (negsuc 0)

abbrev pub one : Float
one = fin false 1 (pos 0)

abbrev pub two : Float
two = fin false 1 (pos 1)

abbrev pub thousand : Float
thousand = fin false 125 (pos 3)

abbrev pub zero : Float
zero = fin false 0 (pos 0)

abbrev pub doubled : Card
doubled = Bridge two zero

abbrev pub shifted : Card
shifted = Bridge one one

abbrev pub halved : Card
halved = Bridge half zero

abbrev pub spring : Card
spring = Spring one thousand

abbrev pub reads : Float → ℤ → Gauged
reads p r = Ok (record { pressure = p; row = r })

-- ---- refusals

abbrev pub as_told : ℕ → ℕ → Refusal
as_told k i = record { number = k; index = i }
