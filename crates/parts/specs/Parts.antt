-- The parts of a chart array that are handed back (document 01, "Points, corners and heads").
--     Part s a r         r is that very part of s, from number `a.from` up to number `a.upto`: its numbers, and where
--                        it points
--     nowhere            the empty part at an array's beginning
--     at_corner p r      r's dominating end is p; off_corner is the opposite
--     first_there s p, first_past s p  the first record at p, and the first later one that is not; the number of
--                        records where there is none
--     run_of s p         where the run of records at p lies in s: from the one to the other; nowhere if there is none
--     Run s p r          r is that run of s
--     whole_record s     s has a whole record left: five numbers
--     from_second a b    the smaller head is the second array's: it has one, and comes strictly earlier or the first
--                        has none
--     head_of a b        which array holds the smaller head, none where both have fewer than five numbers
--     holder h a b, first_record h   the array of a and b that the head h is a part of, and which part
--     SmallerHead a b r  r is the smaller head of a and b, a part of whichever holds it; else the empty part at the
--                        first array's beginning
-- These ask nothing of the array: it need be no chart. Assumes nothing.
use Rattle.std.specs.Prelude.{◌≡◌, Bool, not, cond, ◌&&◌, ◌||◌, List, ℕ, ◌+◌, ◌-◌, ◌*◌, ltb, leb, ℤ, length, take, drop}
use Rattle.std.specs.Prelude.{Option, Some, None}
use Rattle.std.specs.Borrow.{Bor}
use Rattle.counts.specs.Scan.{first_from}
use Rattle.plane.specs.declared.Point.{Point}
use Rattle.plane.specs.Points.{same}
use Rattle.record.specs.declared.Record.{Record}
use Rattle.record.specs.Records.{width, record_at, record_count}
use Rattle.record.specs.Order.{precedes}
use Rattle.parts.specs.declared.Span.{Span}
use Rattle.parts.specs.declared.Which.{Which}
use Rattle.parts.specs.declared.Which.TheVariants.{First, Second}

-- a number takes two bytes
pub record Part (s : Bor (List ℤ)) (a : Span) (r : Bor (List ℤ)) : Type 0 where
  pub numbers : r.now ≡ take (a.upto - a.from) (drop a.from s.now)
  pub array : r.ref_ptr.0 ≡ s.ref_ptr.0
  pub place : r.ref_ptr.1 ≡ s.ref_ptr.1 + a.from * 2

abbrev pub nowhere : Span
nowhere = record { from = 0; upto = 0 }

-- ---- the run at a corner

abbrev pub at_corner : Point → Record → Bool
at_corner p r = same r.dom p

abbrev pub off_corner : Point → Record → Bool
off_corner p r = not (at_corner p r)

abbrev pub first_there : List ℤ → Point → ℕ
first_there s p = first_from (at_corner p) (record_at s) 0 (record_count s)

abbrev pub first_past : List ℤ → Point → ℕ
first_past s p = first_from (off_corner p) (record_at s) (first_there s p) (record_count s)

unfoldable pub run_of : List ℤ → Point → Span
run_of s p =
    cond (ltb (first_there s p) (record_count s))
    (record { from = width * first_there s p; upto = width * first_past s p }) nowhere

abbrev pub Run : Bor (List ℤ) → Point → Bor (List ℤ) → Type 0
Run s p r = Part s (run_of s.now p) r

-- ---- the smaller head

abbrev pub whole_record : List ℤ → Bool
whole_record s = leb width (length s)

unfoldable pub from_second : List ℤ → List ℤ → Bool
from_second a b = whole_record b && (not (whole_record a) || precedes (record_at b 0) (record_at a 0))

unfoldable pub head_of : List ℤ → List ℤ → Option Which
head_of a b = cond (from_second a b) (Some Second) (cond (whole_record a) (Some First) None)

abbrev pub holder : Option Which → Bor (List ℤ) → Bor (List ℤ) → Bor (List ℤ)
holder None a b = a
holder (Some First) a b = a
holder (Some Second) a b = b

abbrev pub first_record : Option Which → Span
first_record None = nowhere
first_record (Some w) = record { from = 0; upto = width }

abbrev pub SmallerHead : Bor (List ℤ) → Bor (List ℤ) → Bor (List ℤ) → Type 0
SmallerHead a b r = let h = head_of a.now b.now in Part (holder h a b) (first_record h) r
