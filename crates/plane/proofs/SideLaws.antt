-- What the tests on turns and on segments say, as facts about the two sums of a turn.
--     Left p q r, Right p q r, Level p q r    r lies left of the line from p to q, right of it, on it
--     Apart p q r u                           r and u lie on different sides of that line
--     splits-true, splits-intro, within-true, within-intro    the tests, both ways
-- Assumes nothing.
use mathlib.Core.Path.{◌≡◌}
use mathlib.Core.Logic.{◌⊎◌, inl, inr}
use mathlib.Core.Bool.{true, ◌&&◌}
use Prim.Native.Nat.{◌<◌}
use borrow.Author.Tests.{ltb-true, lt-ltb, eqb-true, eq-eqb}
use Rattle.counts.proofs.TestLaws.{and-true, and_intro, or-true, or_left, or_right}
use Rattle.plane.specs.declared.Point.{Point}
use Rattle.plane.specs.declared.Segment.{Segment}
use Rattle.plane.specs.Points.{before}
use Rattle.plane.specs.Turns.{plus, minus, turns_left, turns_right, straight}
use Rattle.plane.specs.Touching.{within, splits}

abbrev pub Left : Point → Point → Point → Type 0
Left p q r = minus p q r < plus p q r

abbrev pub Right : Point → Point → Point → Type 0
Right p q r = plus p q r < minus p q r

abbrev pub Level : Point → Point → Point → Type 0
Level p q r = minus p q r ≡ plus p q r

-- r and u lie on different sides of the line from p to q
abbrev pub Apart : Point → Point → Point → Point → Type 0
Apart p q r u = (Left p q r × Right p q u) ⊎ (Right p q r × Left p q u)

pub splits-true : (s t : Segment) → splits s t ≡ true → Apart s.a s.b t.a t.b
unfolding splits turns_left turns_right
splits-true s t e = go (or-true _ _ e)
  where
    go : (turns_left s.a s.b t.a && turns_right s.a s.b t.b ≡ true)
        ⊎ (turns_right s.a s.b t.a && turns_left s.a s.b t.b ≡ true)
        → Apart s.a s.b t.a t.b
    go (inl h) = let g = and-true _ _ h in inl (ltb-true _ _ g.0, ltb-true _ _ g.1)
    go (inr h) = let g = and-true _ _ h in inr (ltb-true _ _ g.0, ltb-true _ _ g.1)

pub splits-intro : (s t : Segment) → Apart s.a s.b t.a t.b → splits s t ≡ true
unfolding splits turns_left turns_right
splits-intro s t (inl h) = or_left _ (and_intro (lt-ltb _ _ h.0) (lt-ltb _ _ h.1))
splits-intro s t (inr h) =
    or_right (turns_left s.a s.b t.a && turns_right s.a s.b t.b)
    (and_intro (lt-ltb _ _ h.0) (lt-ltb _ _ h.1))

pub within-true : (s : Segment) (p : Point) → within s p ≡ true
    → (before s.a p ≡ true) × (before p s.b ≡ true) × Level s.a s.b p
unfolding within straight
within-true s p e =
    let h = and-true _ _ e in
    let g = and-true _ _ h.0 in
    (g.0, g.1, eqb-true _ _ h.1)

pub within-intro : (s : Segment) (p : Point) → before s.a p ≡ true → before p s.b ≡ true → Level s.a s.b p
    → within s p ≡ true
unfolding within straight
within-intro s p lo hi l =
    and_intro (and_intro lo hi) (eq-eqb (minus s.a s.b p) (plus s.a s.b p) l)
