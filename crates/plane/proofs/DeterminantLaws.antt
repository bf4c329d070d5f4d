-- The three tests of specs/Turns.antt are the determinant's sign; and what they say when the points change places.
--     determinant-is    the determinant is plus less minus
--     turns_left-is, turns_right-is, straight-is   the tests are its sign
--     plus_turn, minus-turn, turns_left-turn    from the next corner: the same
--     plus-swap, minus-swap, turns_left-swap, turns_right-swap   two corners exchanged: the other way
-- Assumes nothing.
use mathlib.Core.Path.{◌≡◌, sym, ap, ap₂, ◌∙◌}
use mathlib.Core.Logic.{◌↔◌}
use mathlib.Core.Bool.{true}
use Prim.Native.Nat.{ℕ, ◌+◌, ◌*◌}
use native.Mathlib.Omega.{arith}
use lib.Dec.{ltb, eqb}
use lib.IntN.{pos, ◌-ℤ◌, ◌*ℤ◌}
use lib.Signed.{lt_z}
use borrow.Author.Tests.{eqb-true, eq-eqb}
use Rattle.plane.specs.declared.Point.{Point}
use Rattle.plane.specs.Turns.{direction, determinant, plus, minus, turns_left, turns_right, straight}
use Rattle.plane.proofs.DifferenceLaws.{diff, diff-same, diff-sub, diff-mul}
use Rattle.plane.proofs.DifferenceLaws.{diff-positive, diff-negative, diff-zero}

pub determinant-is : (p q r : Point)
    → determinant (direction p q) (direction p r) ≡ pos (plus p q r) -ℤ pos (minus p q r)
determinant-is p q r = over p.x p.y q.x q.y r.x r.y
  where
    -- at (a, b), (c, d) and (e, f)
    over : (a b c d e f : ℕ)
        → diff c a *ℤ diff f b -ℤ diff d b *ℤ diff e a ≡ diff (a * d + c * f + e * b) (b * c + d * e + f * a)
    over a b c d e f =
        let more = c * f + a * b + (d * a + b * e) in
        let less = c * b + a * f + (d * e + b * a) in
        ap₂ (λ z w. z -ℤ w) (diff-mul c a f b) (diff-mul d b e a)
        ∙ diff-sub (c * f + a * b) (c * b + a * f) (d * e + b * a) (d * a + b * e)
        ∙ diff-same more less (a * d + c * f + e * b) (b * c + d * e + f * a) (omega arith)

pub turns_left-is : (p q r : Point) → turns_left p q r ≡ lt_z (pos 0) (determinant (direction p q) (direction p r))
unfolding turns_left
turns_left-is p q r =
    sym (ap (λ z. lt_z (pos 0) z) (determinant-is p q r) ∙ diff-positive (plus p q r) (minus p q r))

pub turns_right-is : (p q r : Point) → turns_right p q r ≡ lt_z (determinant (direction p q) (direction p r)) (pos 0)
unfolding turns_right
turns_right-is p q r =
    sym (ap (λ z. lt_z z (pos 0)) (determinant-is p q r) ∙ diff-negative (plus p q r) (minus p q r))

pub straight-is : (p q r : Point) → (straight p q r ≡ true) ↔ (determinant (direction p q) (direction p r) ≡ pos 0)
unfolding straight
straight-is p q r = (onward, back)
  where
    onward : eqb (minus p q r) (plus p q r) ≡ true → determinant (direction p q) (direction p r) ≡ pos 0
    onward e =
        determinant-is p q r
        ∙ (diff-zero (plus p q r) (minus p q r)).1 (sym (eqb-true (minus p q r) (plus p q r) e))

    back : determinant (direction p q) (direction p r) ≡ pos 0 → eqb (minus p q r) (plus p q r) ≡ true
    back e =
        let level = (diff-zero (plus p q r) (minus p q r)).0 (sym (determinant-is p q r) ∙ e) in
        eq-eqb (minus p q r) (plus p q r) (sym level)

pub plus_turn : (p q r : Point) → plus q r p ≡ plus p q r
plus_turn p q r = omega arith

pub minus-turn : (p q r : Point) → minus q r p ≡ minus p q r
minus-turn p q r = omega arith

-- two corners exchanged exchange plus and minus
pub plus-swap : (p q r : Point) → plus q p r ≡ minus p q r
plus-swap p q r = omega arith

pub minus-swap : (p q r : Point) → minus q p r ≡ plus p q r
minus-swap p q r = omega arith

pub turns_left-turn : (p q r : Point) → turns_left q r p ≡ turns_left p q r
unfolding turns_left
turns_left-turn p q r = ap₂ ltb (minus-turn p q r) (plus_turn p q r)

pub turns_right-swap : (p q r : Point) → turns_right q p r ≡ turns_left p q r
unfolding turns_right turns_left
turns_right-swap p q r = ap₂ ltb (plus-swap p q r) (minus-swap p q r)

pub turns_left-swap : (p q r : Point) → turns_left q p r ≡ turns_right p q r
turns_left-swap p q r = sym (turns_right-swap q p r)
