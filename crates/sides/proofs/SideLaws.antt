-- What is kept and how it is marked (specs/Kept.antt), from what the functions inside answer.
--     joined_by-union, joined_by-intersection, joined_by-difference  `joined_by`, by the operation
--     upper_side-marked     the upper side of a segment lies in a chart exactly if its counted mark there is 1
--     joining-upper         whether it lies in the result
--     kept_first-is         the same of a record of the first chart
--     kept_second-had, kept_second-new  and of the second, by whether the first has its segment
--     side_mark-in, side_mark-out       the mark, by the upper side
--     side_marked-is                    and the record with it
-- Whether the two sides differ in the result, `keeps-sides`, is a law of promises (Tests).
-- Assumes nothing.
use mathlib.Core.Path.{◌≡◌, refl, sym, ap, ap₂, ◌∙◌}
use mathlib.Core.Bool.{Bool, true, false, not, cond, ◌&&◌, ◌||◌}
use mathlib.Core.List.{List}
use Prim.Native.Nat.{ℕ}
use lib.Dec.{eqb}
use lib.IntN.{ℤ}
use Rattle.counts.specs.Count.{odd}
use Rattle.plane.specs.declared.Segment.{Segment}
use Rattle.grid.specs.Coordinates.{up}
use Rattle.record.specs.declared.Record.{Record}
use Rattle.record.specs.Records.{records, unmarked, marked}
use Rattle.segment.specs.Segments.{segment}
use Rattle.among.specs.Among.{has_segment, mark_count, counted_mark}
use Rattle.region.specs.TwoSides.{upper_side}
use Rattle.combined.specs.Kept.{upper_sides, keeps}
use Rattle.combined.specs.Results.{with_mark}
use Rattle.sides.specs.declared.Op.{Op}
use Rattle.sides.specs.declared.Op.TheVariants.{Union, Intersection, Difference}
use Rattle.sides.specs.Operations.{joined_by, joining, both}
use Rattle.sides.specs.Kept.{kept_first, kept_second, side_mark, side_marked}

module _ {op : Op} (x y : Bool) where
  pub joined_by-union : op ≡ Union → x || y ≡ joined_by op x y
  joined_by-union e = rw e refl

  pub joined_by-intersection : op ≡ Intersection → x && y ≡ joined_by op x y
  joined_by-intersection e = rw e refl

  pub joined_by-difference : op ≡ Difference → x && not y ≡ joined_by op x y
  joined_by-difference e = rw e refl

pub upper_side-marked : (rs : List Record) (t : Segment) {m : ℕ} → m ≡ counted_mark rs t
    → eqb m marked ≡ upper_side rs t
unfolding up
upper_side-marked rs t e = ap (λ m. eqb m marked) e ∙ go (odd (mark_count rs t))
  where
    go : (b : Bool) → eqb (cond b marked unmarked) marked ≡ b
    go true = refl
    go false = refl

module _ (op : Op) (a b : List ℤ) (t : Segment) {x y : Bool} (first : x ≡ upper_side (records a) t)
    (second : y ≡ upper_side (records b) t) where
  pub joining-upper : {u : Bool} → u ≡ joined_by op x y → u ≡ joining op (upper_sides (both a b) t)
  joining-upper e = e ∙ ap₂ (joined_by op) first second

module _ (op : Op) (a b : List ℤ) (r : Record) {t : Segment} (is : t ≡ segment r) where
  pub kept_first-is : {k : Bool} → k ≡ keeps (joining op) (both a b) t → k ≡ kept_first op a b r
  unfolding kept_first
  kept_first-is e = e ∙ ap (keeps (joining op) (both a b)) is

  module _ {h : Bool} (had : h ≡ has_segment (records a) t) where
    pub kept_second-had : h ≡ true → false ≡ kept_second op a b r
    unfolding kept_second kept_first
    kept_second-had e = rw (← is, ← had, e) refl

    pub kept_second-new : {k : Bool} → h ≡ false → k ≡ keeps (joining op) (both a b) t → k ≡ kept_second op a b r
    unfolding kept_second kept_first
    kept_second-new e k =
        let absent = sym (had ∙ ap (has_segment (records a)) is) ∙ e in
        kept_first-is k ∙ sym (ap (λ h. not h && kept_first op a b r) absent)

  pub side_marked-is : {m : ℕ} → m ≡ side_mark op a b t → with_mark m r ≡ side_marked op a b r
  unfolding side_marked
  side_marked-is e = ap (λ m. with_mark m r) (e ∙ ap (side_mark op a b) is)

module _ (op : Op) (a b : List ℤ) (t : Segment) {u : Bool} (is : u ≡ joining op (upper_sides (both a b) t)) where
  pub side_mark-in : u ≡ true → marked ≡ side_mark op a b t
  side_mark-in e = rw (← is, e) refl

  pub side_mark-out : u ≡ false → unmarked ≡ side_mark op a b t
  side_mark-out e = rw (← is, e) refl
