-- Points and their order (document 01: "Points are ordered by x, then y").
--     before p q      p is the smaller
--     same p q        they are one point
--     Forward s       a is the smaller end of s, as of every segment of a chart
--     is_segment s t  t is the segment s
-- Assumes nothing.
use Rattle.std.specs.Prelude.{◌≡◌, Bool, true, ◌&&◌, ◌||◌, ltb, eqb}
use Rattle.plane.specs.declared.Point.{Point}
use Rattle.plane.specs.declared.Segment.{Segment}

abbrev pub before : Point → Point → Bool
before p q = ltb p.x q.x || (eqb p.x q.x && ltb p.y q.y)

abbrev pub same : Point → Point → Bool
same p q = eqb p.x q.x && eqb p.y q.y

abbrev pub Forward : Segment → Type 0
Forward s = before s.a s.b ≡ true

abbrev pub is_segment : Segment → Segment → Bool
is_segment s t = same t.a s.a && same t.b s.b
