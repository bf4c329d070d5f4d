-- Document 01's starred bench examples, proved against its rules: one statement, computed.
--     Starred     what they say
--     starred     they hold
-- Assumes nothing.
use mathlib.Core.Path.{◌≡◌, refl}
use mathlib.Core.Bool.{true, false}
use mathlib.Core.List.{[], ◌∷◌}
use lib.IntN.{pos, negsuc}
use lib.Ieee.{fin, fits}
use Rattle.counts.specs.Count.{sum, keep, any, first_index, listed}
use Rattle.counts.specs.Scan.{first_from}
use Rattle.plane.specs.Turns.{turns_left, turns_right, straight}
use Rattle.plane.specs.Touching.{within, splits, touches}
use Rattle.plane.specs.Columns.{counted_for, below_point, holds, ends_at}
use Rattle.grid.specs.Coordinates.{up, point_of}
use Rattle.record.specs.Records.{record_at, records}
use Rattle.record.specs.Order.{square_length, leads, earlier, precedes}
use Rattle.segment.specs.Segments.{segment, is_record}
use Rattle.std.specs.Prelude.{Ok, Err}
use Rattle.chart.specs.declared.ChartRefusal.TheVariants.{NoOtherHalf, WrongMark}
use Rattle.chart.specs.Verdicts.{told, judged, verdict}
use Rattle.area.specs.Areas.{total, share, area_of}
use Rattle.question.specs.declared.Place.TheVariants.{Inside, Edge, Outside}
use Rattle.question.specs.Places.{place_of, placed}
use Rattle.walks.specs.Ways.{way_back, clockwise, walked}
use Rattle.walks.specs.Walks.{onward, cut_at, walk_all, cycles_of}
use Rattle.walks.specs.Cycles.{least, start_of, first_that, cycle_of, first_of, cycle_number}
use Rattle.walks.specs.Faces.{is_outer, face_number, outer_in, smallest, nearest_to, face_from}
use Rattle.faces.specs.declared.answer.FaceCounts.{FaceCounts}
use Rattle.faces.specs.Lists.{labels_of, entries_of, cycle_list, listed_in, faces_of}
use Rattle.combined.specs.Kept.{either}
use Rattle.combined.specs.Results.{inserted, in_order}
use Rattle.sides.specs.declared.Op.TheVariants.{Union, Intersection, Difference}
use Rattle.join.specs.Joinings.{joined_in, outcome, answer_of}
use Rattle.gauge.specs.Values.{size, is_multiple, has_minus, units}
use Rattle.gauge.specs.Cards.{is_factor, is_from, sound}
use Rattle.gauge.specs.declared.GaugeRefusal.TheVariants.{AtPin, OffGrid}
use Rattle.gauge.specs.Readings.{pressure, row, at_pin, refusal, number_of, Gauges}
use Rattle.promises.specs.Bench.{square, last_mark_zero, bottom_marked_zero, square_with_hole, neighbour, large_triangle}
use Rattle.promises.specs.Bench.{doubled, shifted, halved, spring, reads, as_told}

pub record Starred : Type 0 where
  pub square-accepted : verdict square ≡ Ok tt
  pub square-inside : placed square (point_of (pos 2) (pos 2)) ≡ Ok Inside
  pub square-edge : placed square (point_of (pos 4) (pos 2)) ≡ Ok Edge
  pub square-outside : placed square (point_of (pos 5) (pos 2)) ≡ Ok Outside
  pub square-area : area_of square ≡ Ok (pos 32)
  pub last-mark-zero : (verdict last_mark_zero ≡ Err (NoOtherHalf 5)) × (told (NoOtherHalf 5) ≡ as_told 6 5)
  pub bottom-marked-zero : (verdict bottom_marked_zero ≡ Err (WrongMark 0)) × (told (WrongMark 0) ≡ as_told 9 0)
  pub hole-accepted : verdict square_with_hole ≡ Ok tt
  pub hole-outside : placed square_with_hole (point_of (pos 1) (pos 1)) ≡ Ok Outside
  pub hole-inside : placed square_with_hole (point_of (pos 3) (pos 3)) ≡ Ok Inside
  pub hole-area : area_of square_with_hole ≡ Ok (pos 29)
  pub hole-faces : (c : FaceCounts) × (faces_of square_with_hole 14 4 ≡ Ok c) × (c.cycles ≡ 2) × (c.faces ≡ 1)
  pub hole-labels : labels_of square_with_hole
      ≡ 0 ∷ 1 ∷ 1 ∷ 0 ∷ 0 ∷ 0 ∷ 1 ∷ 1 ∷ 1 ∷ 1 ∷ 0 ∷ 0 ∷ 0 ∷ 0 ∷ []
  pub hole-cycles : cycle_list square_with_hole ≡ 0 ∷ 0 ∷ 1 ∷ 0 ∷ []
  pub triangle-accepted : verdict large_triangle ≡ Ok tt
  pub triangle-inside : placed large_triangle (point_of (negsuc 0) (negsuc 0)) ≡ Ok Inside
  pub triangle-edge : placed large_triangle (point_of (pos 0) (negsuc 0)) ≡ Ok Edge
  pub triangle-outside : placed large_triangle (point_of (pos 0) (pos 0)) ≡ Ok Outside
  pub triangle-area : area_of large_triangle ≡ Ok (pos 4294836225)
  pub neighbours-union : answer_of (outcome Union square neighbour 60) ≡ Ok 12
  pub neighbours-intersection : outcome Intersection square neighbour 0 ≡ Ok []
  pub neighbours-difference : outcome Difference square neighbour 40 ≡ Ok (records square)
  pub doubled-read : Gauges doubled (pos 16383) (reads (fin false 16383 (pos 1)) (pos 32766))
  pub doubled-refused : Gauges doubled (pos 16384) (Err OffGrid) × (number_of OffGrid ≡ 23)
  pub shifted-refused : Gauges shifted (negsuc 32767) (Err OffGrid) × (number_of OffGrid ≡ 23)
  pub halved-read : Gauges halved (negsuc 0) (reads (fin true 1 (negsuc 0)) (pos 0))
  pub spring-read : Gauges spring (pos 999) (reads (fin false 999 (pos 0)) (pos 999))
  pub spring-refused : Gauges spring (pos 1000) (Err AtPin) × (number_of AtPin ≡ 22)

pub starred : Starred
unfolding sum keep any first_index listed first_from up record_at precedes earlier leads square_length segment is_record
    touches splits within turns_left turns_right straight counted_for ends_at below_point holds
    verdict judged place_of placed total share area_of either inserted in_order joined_in outcome
    way_back clockwise walked onward cut_at walk_all cycles_of least start_of first_that cycle_of first_of cycle_number
    is_outer face_number outer_in smallest nearest_to face_from entries_of listed_in faces_of
    fits size is_multiple has_minus units is_factor is_from sound pressure row at_pin refusal
starred = record {
  square-accepted = refl;
  square-inside = refl;
  square-edge = refl;
  square-outside = refl;
  square-area = refl;
  last-mark-zero = (refl, refl);
  bottom-marked-zero = (refl, refl);
  hole-accepted = refl;
  hole-outside = refl;
  hole-inside = refl;
  hole-area = refl;
  hole-faces = (_, refl, refl, refl);
  hole-labels = refl;
  hole-cycles = refl;
  triangle-accepted = refl;
  triangle-inside = refl;
  triangle-edge = refl;
  triangle-outside = refl;
  triangle-area = refl;
  neighbours-union = refl;
  neighbours-intersection = refl;
  neighbours-difference = refl;
  doubled-read = record { number = refl; exact = record { held = refl; value = (refl, refl) }; place = refl };
  doubled-refused = (
    record { number = refl; exact = record { held = refl; value = (refl, refl) }; place = refl },
    refl,
  );
  shifted-refused = (
    record { number = refl; exact = record { held = refl; value = (refl, refl) }; place = refl },
    refl,
  );
  halved-read = record { number = refl; exact = record { held = refl; value = (refl, refl) }; place = refl };
  spring-read = record { number = refl; exact = record { held = refl; value = (refl, refl) }; place = refl };
  spring-refused = (
    record { number = refl; exact = record { held = refl; value = (refl, refl) }; place = refl },
    refl,
  );
}
