-- What a number of a file gives the array, by what the code has seen of it; `fielding` has the four that the code takes.
--     fielded          the number is one for its place of the array
--     unfit            it is none
--     field_got        the bytes are a number
--     field_refused    they are none
-- And by the place of the array and by what is on the grid:
--     mark-unfit, mark-value    a mark. A bound k is any that refuses no more, so that a wrong one is refused for what it
--                      lets through
--     coordinate-on, coordinate-off    a coordinate
--     field-mark, field-coordinate     the one or the other
--     field_at-value, field_at-refused    what the number at a place gives
-- Assumes nothing.
use mathlib.Core.Path.{◌≡◌, refl, ap}
use mathlib.Core.Bool.{Bool, true, false, cond}
use mathlib.Core.List.{List}
use Prim.Native.Nat.{ℕ, ◌%◌, ◌^◌, ◌≤◌, ◌<◌}
use native.Mathlib.Omega.{arith}
use borrow.Author.Tests.{le-leb, lt-leb, eq-eqb, ne_eqb}
use lib.IntN.{ℤ}
use lib.Signed.{mag}
use mir.Syntax.{w16, w64}
use mir.Val.{SFits, to_z, of_z}
use mir.ValLaws.{to_z-of_z, to_z_pos}
use Rattle.std.specs.Prelude.{Option, Some, None, Err}
use Rattle.grid.specs.declared.Coord.{Coord}
use Rattle.grid.specs.Coordinates.{on_grid, located, coord_of}
use Rattle.record.specs.Records.{width}
use Rattle.file.specs.declared.FileRefusal.TheVariants.{NoNumber, Unfit}
use Rattle.number.specs.declared.NumberRefusal.{NumberRefusal}
use Rattle.number.specs.Numbers.{Number, got, number_at, signed}
use Rattle.file.specs.Fields.{Field, put, coordinate_for, mark_for, number_for, fit, field, field_in, field_at}

module _ (k n at next : ℕ) where
  pub fielded : (z : ℤ) → number_for k n ≡ Some z → field k n at next ≡ put z next
  unfolding field
  fielded z e = ap (λ o. fit o at next) e

  pub unfit : number_for k n ≡ None → field k n at next ≡ Err (Unfit at)
  unfolding field
  unfit e = ap (λ o. fit o at next) e

module _ (s : List ℕ) (k at : ℕ) where
  pub field_got : (n next : ℕ) → number_at s at ≡ got n next → field_at s k at ≡ field k n at next
  field_got n next e = ap (field_in k at) e

  pub field_refused : (r : NumberRefusal) → number_at s at ≡ Err r → field_at s k at ≡ Err (NoNumber r)
  field_refused r e = ap (field_in k at) e

-- ---- by the place and by what is on the grid

module _ (n at next : ℕ) where
  pub mark-unfit : (k : ℕ) {f : Field} → 1 ≤ k → k < n → f ≡ Err (Unfit at) → f ≡ fit (mark_for n) at next
  mark-unfit k l h e = rw (lt-leb n 1 (omega arith)) e

  pub mark-value : n ≤ 1 → put (to_z w16 n) next ≡ fit (mark_for n) at next
  mark-value h = rw (le-leb n 1 h, to_z_pos w16 n (omega arith)) refl

  -- what a place on the grid, or off it, gives
  abbrev field_by : Option Coord → Field
  field_by (Some c) = put c.v next
  field_by None = Err (Unfit at)

  coordinate-is : fit (coordinate_for n) at next ≡ field_by (located (signed n))
  unfolding coordinate_for located
  coordinate-is = go (on_grid (signed n))
    where
      go : (b : Bool) → fit (cond b (Some (signed n)) None) at next ≡ field_by (cond b (Some (coord_of (signed n))) None)
      go true = refl
      go false = refl

  found : {z : Option Coord} {w : ℤ} → mag w < 2 ^ 63 → w ≡ signed n → z ≡ located (to_z w64 (of_z w64 w))
      → field_by z ≡ fit (coordinate_for n) at next
  found {z} {w} h is e = rw (coordinate-is, ← is, e, to_z-of_z w64 w (record { sfits = h })) refl

  pub coordinate-on : {z : Option Coord} {w : ℤ} {c : Coord} → mag w < 2 ^ 63 → w ≡ signed n
      → z ≡ located (to_z w64 (of_z w64 w)) → z ≡ Some c → SFits w16 c.v
      → put (to_z w16 (of_z w16 c.v)) next ≡ fit (coordinate_for n) at next
  coordinate-on {c = c} h is e on fits = rw (to_z-of_z w16 c.v fits, ← found h is e, on) refl

  pub coordinate-off : {z : Option Coord} {w : ℤ} {f : Field} → mag w < 2 ^ 63 → w ≡ signed n
      → z ≡ located (to_z w64 (of_z w64 w)) → z ≡ None → f ≡ Err (Unfit at) → f ≡ fit (coordinate_for n) at next
  coordinate-off h is e off f = rw (← found h is e, off) f

  pub field-mark : (k : ℕ) {f : Field} → k % width ≡ 4 → f ≡ fit (mark_for n) at next → f ≡ field k n at next
  unfolding field number_for
  field-mark k h e = rw (eq-eqb (k % width) 4 h) e

  pub field-coordinate : (k : ℕ) {f : Field} → (k % width ≡ 4 → ⊥) → f ≡ fit (coordinate_for n) at next
      → f ≡ field k n at next
  unfolding field number_for
  field-coordinate k h e = rw (ne_eqb (k % width) 4 h) e

module _ (s : List ℕ) (k at : ℕ) {a : Number} where
  pub field_at-value : {n next : ℕ} {f : Field} → a ≡ number_at s at → a ≡ got n next → f ≡ field k n at next
      → f ≡ field_at s k at
  field_at-value h e i = rw (← h, e) i

  pub field_at-refused : {r : NumberRefusal} → a ≡ number_at s at → a ≡ Err r → Err (NoNumber r) ≡ field_at s k at
  field_at-refused h e = rw (← h, e) refl

pub ruleset fielding = (fielded, unfit, field_got, field_refused)
