-- Touching at examples, computed: what the definition answers where a reading could go astray. No program runs
-- `touches` yet, so these are its tests. Assumes nothing.
use mathlib.Core.Path.{◌≡◌, refl}
use mathlib.Core.Bool.{true, false}
use Prim.Native.Nat.{ℕ}
use Rattle.plane.specs.declared.Segment.{Segment}
use Rattle.plane.specs.Turns.{turns_left, turns_right, straight}
use Rattle.plane.specs.Touching.{within, splits, touches}

segment : ℕ → ℕ → ℕ → ℕ → Segment
segment x y u v = record { a = record { x = x; y = y }; b = record { x = u; y = v } }

-- the shared point is no point of the grid
crossing : touches (segment 0 0 1 1) (segment 0 1 1 0) ≡ true
unfolding touches splits within turns_left turns_right straight segment
crossing = refl

-- the two diagonals of the whole grid, which cross between its columns
diagonals : touches (segment 0 0 65535 65535) (segment 0 65535 65535 0) ≡ true
unfolding touches splits within turns_left turns_right straight segment
diagonals = refl

-- an end of one inside the other
tee : touches (segment 0 0 4 0) (segment 2 0 2 5) ≡ true
unfolding touches splits within turns_left turns_right straight segment
tee = refl

-- in line: overlapping, one inside the other, upright, from one end; and end to end, which is no touch
overlap : touches (segment 0 0 4 4) (segment 2 2 6 6) ≡ true
unfolding touches splits within turns_left turns_right straight segment
overlap = refl

nested : touches (segment 0 0 9 3) (segment 3 1 6 2) ≡ true
unfolding touches splits within turns_left turns_right straight segment
nested = refl

upright : touches (segment 5 0 5 4) (segment 5 3 5 9) ≡ true
unfolding touches splits within turns_left turns_right straight segment
upright = refl

one_end : touches (segment 0 0 4 4) (segment 0 0 2 2) ≡ true
unfolding touches splits within turns_left turns_right straight segment
one_end = refl

end_to_end : touches (segment 0 0 4 4) (segment 4 4 6 6) ≡ false
unfolding touches splits within turns_left turns_right straight segment
end_to_end = refl

-- a common corner, the segment itself, and one that ends just short of the other are no touch
corner : touches (segment 0 0 4 0) (segment 0 0 0 4) ≡ false
unfolding touches splits within turns_left turns_right straight segment
corner = refl

itself : touches (segment 0 0 4 1) (segment 0 0 4 1) ≡ false
unfolding touches splits within turns_left turns_right straight segment
itself = refl

short : touches (segment 0 0 65535 65534) (segment 1 1 1 65535) ≡ false
unfolding touches splits within turns_left turns_right straight segment
short = refl
