-- Heights of segments as whole numbers: a device of the proofs. No contract and no promise speaks of them; what they
-- say of a point and a segment is said by turns (specs/Sides.antt), and `above-is`, `on-is`, `below-is` join the two.
-- A height is taken at a half column: k is the column k / 2, so a column is 2 * c and the middle of the strip between
-- columns x and x + 1 is 2 * x + 1. It is scaled by 2 * M, where M is a multiple of every width below W, so it is
-- whole; W lies past every segment spoken of.
--     Scale W M       every width below W divides M
--     height M s k    2 * M times the height of s at half column k, for s not vertical and k between its ends
--     key M s x       the height in the middle of the strip from column x to column x + 1
--     Spans W s k     s is not vertical and ends before column W, and k lies between its ends or at one
--     Inside s k      k lies strictly between them
-- Assumes nothing.
use mathlib.Core.Path.{◌≡◌}
use Prim.Native.Nat.{ℕ, ◌+◌, ◌-◌, ◌*◌, ◌/◌, ◌<◌, ◌≤◌}
use Rattle.plane.specs.declared.Segment.{Segment}

pub record Scale (W M : ℕ) : Type 0 where
  pub positive : 0 < M
  pub divides : (d : ℕ) → 0 < d → d < W → M / d * d ≡ M

unfoldable pub height : ℕ → Segment → ℕ → ℕ
height M s k = M / (s.b.x - s.a.x) * (s.a.y * (2 * s.b.x - k) + s.b.y * (k - 2 * s.a.x))

abbrev pub key : ℕ → Segment → ℕ → ℕ
key M s x = height M s (2 * x + 1)

pub record Spans (W : ℕ) (s : Segment) (k : ℕ) : Type 0 where
  pub slanted : s.a.x < s.b.x
  pub small : s.b.x < W
  pub from : 2 * s.a.x ≤ k
  pub upto : k ≤ 2 * s.b.x

pub record Inside (s : Segment) (k : ℕ) : Type 0 where
  pub past : 2 * s.a.x < k
  pub ahead : k < 2 * s.b.x
