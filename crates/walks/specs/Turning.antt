-- What is met first on turning clockwise around a corner (document 01: "turn clockwise from the way back to the first
-- segment met"). b, e and f are records at one corner; e and f are met on turning clockwise from b.
--     quarter b e      how far the turn to e goes: 0 less than straight on, 1 straight on, 2 further, 3 all the way
--                      round to b
--     sooner b e f     e is met before f
-- That `clockwise` of specs/Ways.antt is met before any other: `clockwise-first` of proofs/ClockwiseLaws.antt.
-- Assumes nothing.
use Rattle.std.specs.Prelude.{Bool, cond, ◌&&◌, ◌||◌, ℕ, ltb, eqb}
use Rattle.counts.specs.Count.{◌⊕◌}
use Rattle.plane.specs.Turns.{turns_left, turns_right}
use Rattle.record.specs.declared.Record.{Record}
use Rattle.record.specs.Order.{left}

abbrev pub quarter : Record → Record → ℕ
quarter b e =
    cond (turns_right b.dom b.other e.other) 0
    (cond (turns_left b.dom b.other e.other) 2 (cond (left b ⊕ left e) 1 3))

abbrev pub sooner : Record → Record → Record → Bool
sooner b e f =
    ltb (quarter b e) (quarter b f)
    || (eqb (quarter b e) (quarter b f) && turns_right b.dom e.other f.other)
