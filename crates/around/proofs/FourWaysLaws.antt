-- What lies on the left of a record e, counted around its corner, by the way that it goes there. Counted are the
-- segments of a part that come to the column of the corner from the left at or below it, and the records of the part at
-- the corner that come at or before e.
--     goes-right, goes-up     of a left half, by the upper side of its segment: it goes right, or straight up
--     goes_left, goes_down    of a right half, by the lower side: it goes left, or straight down
-- Assumes nothing.
use mathlib.Core.Path.{◌≡◌, refl, sym, ap, ◌∙◌}
use mathlib.Core.Bool.{Bool, true, false, ◌&&◌}
use mathlib.Core.List.{List}
use Prim.Native.Nat.{ℕ, suc, ◌+◌, ◌-◌, ◌*◌, ◌<◌, ◌≤◌}
use native.Mathlib.Omega.{arith}
use lib.Dec.{leb}
use borrow.Author.Tests.{le-leb, lt-leb}
use Rattle.counts.specs.Count.{◌∈◌, count, odd, Even}
use Rattle.counts.proofs.CountLaws.{count-ext, count-off}
use Rattle.counts.proofs.ParityLaws.{odd-same}
use Rattle.plane.specs.declared.Point.{Point}
use Rattle.plane.specs.declared.Segment.{Segment}
use Rattle.plane.specs.Points.{same, is_segment}
use Rattle.plane.specs.Columns.{covers, reaches}
use Rattle.plane.proofs.Heights.{Scale, key}
use Rattle.plane.proofs.PointLaws.{same_true}
use Rattle.plane.proofs.ColumnLaws.{covers-is}
use Rattle.record.specs.declared.Record.{Record}
use Rattle.record.specs.Order.{left}
use Rattle.segment.specs.Segments.{segment}
use Rattle.segment.proofs.SegmentLaws.{segment-left, segment-right}
use Rattle.region.proofs.Charts.{upper, lower, from_left, to_right, under, up_to}
use Rattle.region.proofs.ChartLaws.{segments, room}
use Rattle.region.proofs.SlantLaws.{upper-strip, lower-strip}
use Rattle.region.proofs.UprightLaws.{upper-left, lower-right}
use Rattle.counts.proofs.JoinedLaws.{and-always, and-never, and-moved}
use Rattle.around.proofs.Parts.{Part, Ranked}
use Rattle.around.proofs.PartChartLaws.{part_small, part-clear, part-chart, part-single, outside}
use Rattle.around.proofs.PartChartLaws.{by-halves, even-corner}
use Rattle.around.proofs.SlopeLaws.{scaled}
use Rattle.around.proofs.TurnedLaws.{half-less}
use Rattle.around.proofs.EarlierLaws.{up-last, down-last, right-turn, left-turn}
use Rattle.around.proofs.BesideLaws.{right-strip, left-strip, below-corner}

module _ {rs : List Record} {rank : Record → ℕ} (ranked : Ranked rs rank) {C : List Record} (part : Part rs C)
    (M : ℕ) (scale : Scale (room rs) M) (e : Record) (n : e ∈ rs) where
  abbrev d : Point
  d = e.dom

  abbrev s : Segment
  s = segment e

  abbrev ss : List Segment
  ss = segments C

  abbrev early : Record → Bool
  early r = same r.dom d && leb (rank r) (rank e)

  abbrev tops : ℕ
  tops = count (from_left M d.x (suc (2 * M * d.y))) ss

  single : (t : Segment) → t ∈ ss → count (is_segment t) ss ≤ 1
  single t m = part-single ranked part t

  even-below : Even (count (to_right M d.x (2 * M * d.y)) ss + tops + count (λ t. same t.b d) ss)
  even-below = below-corner M scale (part-chart ranked part) single d (outside ranked part e n)

  -- a left half comes after every right half
  late : left e ≡ false → (r : Record) → r ∈ C → left r ≡ true → early r ≡ false
  late g r m h =
      and-never (same r.dom d) (leb (rank r) (rank e)) (λ q.
      lt-leb (rank r) (rank e) (half-less ranked e r n (part.sub r m) (sym (same_true r.dom d q)) g h))

  module _ (g : left e ≡ true) where
    start : s.a ≡ d
    start = ap (λ u. u.a) (segment-left e g)

    pub goes-right : s.a.x < s.b.x → upper ss s ≡ odd (tops + count early C)
    goes-right slanted =
        let small = part_small ranked e n in
        let clear = part-clear ranked part e n in
        upper-strip M scale (part-chart ranked part).chart s small clear d.x
        ((covers-is d.x s).1 (omega (arith, ap (λ p. p.x) start)))
        ∙ odd-same (count (up_to M s d.x) ss) (tops + count early C) (omega (
          arith,
          right-strip M scale (part-chart ranked part) single d (outside ranked part e n) s slanted small clear start,
          even-below,
          by-halves ranked part early lower-start (λ t. same t.b d) lefts rights,
        ))
      where
        lower-start : Segment → Bool
        lower-start t = covers d.x t && same t.a d && leb (key M t d.x) (key M s d.x)

        lefts : (r : Record) → r ∈ C → left r ≡ true → early r ≡ lower-start (segment r)
        lefts r m h =
            and-moved (covers d.x (segment r)) (same r.dom d) _ _ (λ q.
            right-turn ranked M scale r e (part.sub r m) n (same_true r.dom d q) h g slanted
            ∙ ap (λ p. covers p.x (segment r) && leb (key M (segment r) p.x) (key M s p.x)) start)
            ∙ ap (λ u. covers d.x (segment r) && same u.a d && leb (key M (segment r) d.x) (key M s d.x))
            (sym (segment-left r h))

        rights : (r : Record) → r ∈ C → left r ≡ false → early r ≡ same (segment r).b d
        rights r m h =
            and-always (same r.dom d) (leb (rank r) (rank e)) (λ q. le-leb (rank r) (rank e)
            (omega (arith, half-less ranked r e (part.sub r m) n (same_true r.dom d q) h g)))
            ∙ ap (λ u. same u.b d) (sym (segment-right r h))

    pub goes-up : s.a.x ≡ s.b.x → s.a.y < s.b.y → upper ss s ≡ odd (tops + count early C)
    goes-up upright up =
        let level = ap (λ p. 2 * M * p.y) start in
        upper-left M scale (part-chart ranked part).chart s upright (part-clear ranked part e n) (suc (2 * M * d.y))
        (omega arith) (omega (arith, scaled M scale s.a.y s.b.y up))
        ∙ ap (λ p. odd (count (from_left M p.x (suc (2 * M * d.y))) ss)) start
        ∙ odd-same tops (tops + count early C) (omega (
          arith,
          even-corner ranked part d,
          count-ext early (λ r. same r.dom d) C all,
        ))
      where
        all : (r : Record) → r ∈ C → early r ≡ same r.dom d
        all r m =
            and-always (same r.dom d) (leb (rank r) (rank e)) (λ q. le-leb (rank r) (rank e)
            (up-last ranked M scale r e (part.sub r m) n (same_true r.dom d q) g upright up))

  module _ (g : left e ≡ false) where
    end : s.b ≡ d
    end = ap (λ u. u.b) (segment-right e g)

    pub goes_left : s.a.x < s.b.x → lower ss s ≡ odd (tops + count early C)
    goes_left slanted =
        let small = part_small ranked e n in
        let clear = part-clear ranked part e n in
        lower-strip M scale (part-chart ranked part).chart s small clear (part-single ranked part s) z
        ((covers-is z s).1 (omega (arith, column, ap (λ p. p.x) end)))
        ∙ odd-same (count (under M s z) ss) (tops + count early C) (omega (
          arith,
          left-strip M scale (part-chart ranked part) single d (outside ranked part e n) s slanted small clear end z
              column,
          by-halves ranked part early (λ t. false) higher-end (late g) rights,
          count-off (λ t. false) ss (λ t m. refl),
        ))
      where
        z : ℕ
        z = d.x - 1

        column : d.x ≡ suc z
        column = omega (arith, ap (λ p. p.x) end)

        higher-end : Segment → Bool
        higher-end t = reaches d.x t && same t.b d && leb (key M s z) (key M t z)

        rights : (r : Record) → r ∈ C → left r ≡ false → early r ≡ higher-end (segment r)
        rights r m h =
            and-moved (reaches d.x (segment r)) (same r.dom d) _ _ (λ q.
            left-turn ranked M scale r e (part.sub r m) n (same_true r.dom d q) h g slanted z
            (ap (λ p. p.x) end ∙ column)
            ∙ ap (λ p. reaches p.x (segment r) && leb (key M s z) (key M (segment r) z)) end)
            ∙ ap (λ u. reaches d.x (segment r) && same u.b d && leb (key M s z) (key M (segment r) z))
            (sym (segment-right r h))

    pub goes_down : s.a.x ≡ s.b.x → s.a.y < s.b.y → lower ss s ≡ odd (tops + count early C)
    goes_down upright up =
        let level = ap (λ p. 2 * M * p.y) end in
        lower-right M scale (part-chart ranked part).chart s upright (part-clear ranked part e n) (2 * M * d.y)
        (omega (arith, scaled M scale s.a.y s.b.y up)) (omega arith) (part-single ranked part s)
        ∙ ap (λ c. odd (count (to_right M c (2 * M * d.y)) ss)) (upright ∙ ap (λ p. p.x) end)
        ∙ odd-same (count (to_right M d.x (2 * M * d.y)) ss) (tops + count early C) (omega (
          arith,
          even-below,
          by-halves ranked part early (λ t. false) (λ t. same t.b d) (late g) rights,
          count-off (λ t. false) ss (λ t m. refl),
        ))
      where
        rights : (r : Record) → r ∈ C → left r ≡ false → early r ≡ same (segment r).b d
        rights r m h =
            and-always (same r.dom d) (leb (rank r) (rank e)) (λ q. le-leb (rank r) (rank e)
            (down-last ranked M scale r e (part.sub r m) n (same_true r.dom d q) h g upright up))
            ∙ ap (λ u. same u.b d) (sym (segment-right r h))
