-- What lies on the left of a record, counted around its corner from straight up.
--     top rs C p     how many segments of C come to the column of p from the left, at or below p
--     top-none       none does where no record of C starts before that column
--     around         C lies on the left of e exactly if these, and the records of C at the corner of e that come at or
--                    before it in document 01's order, are together an odd number
-- Assumes nothing.
use mathlib.Core.Path.{◌≡◌, refl, ap, ◌∙◌}
use mathlib.Core.Logic.{inl, inr}
use mathlib.Core.Bool.{Bool, true, false, ◌&&◌, cond}
use mathlib.Core.List.{List}
use Prim.Native.Nat.{ℕ, suc, ◌+◌, ◌*◌, ◌≤◌}
use native.Mathlib.Omega.{arith}
use lib.Dec.{leb}
use Rattle.counts.specs.Count.{◌∈◌, count, odd}
use Rattle.counts.proofs.TestLaws.{and-true, is_false}
use Rattle.counts.proofs.CountLaws.{count-off}
use Rattle.plane.specs.declared.Point.{Point}
use Rattle.plane.specs.declared.Segment.{Segment}
use Rattle.plane.specs.Points.{same}
use Rattle.plane.specs.Columns.{reaches}
use Rattle.plane.proofs.Heights.{Scale}
use Rattle.plane.proofs.PointLaws.{Before, before-true}
use Rattle.plane.proofs.ScaleLaws.{unit, unit-scale}
use Rattle.plane.proofs.ColumnLaws.{reaches-is}
use Rattle.record.specs.declared.Record.{Record}
use Rattle.record.specs.Order.{left}
use Rattle.segment.specs.Segments.{segment}
use Rattle.segment.proofs.SegmentLaws.{segment-left, segment-forward}
use Rattle.chart.proofs.OnceLaws.{sound-proper}
use Rattle.region.proofs.Charts.{upper, lower, from_left}
use Rattle.region.proofs.ChartLaws.{segments, segments-mem, room}
use Rattle.around.proofs.Parts.{Part, Ranked, left_of}
use Rattle.around.proofs.FourWaysLaws.{goes-right, goes-up, goes_left, goes_down}

unfoldable pub top : List Record → List Record → Point → ℕ
top rs C p = count (from_left (unit (room rs)) p.x (suc (2 * unit (room rs) * p.y))) (segments C)

module _ {rs : List Record} {rank : Record → ℕ} (ranked : Ranked rs rank) {C : List Record} (part : Part rs C) where
  pub top-none : (p : Point) → ((r : Record) → r ∈ C → p.x ≤ r.dom.x) → top rs C p ≡ 0
  unfolding top
  top-none p past = count-off _ (segments C) (λ t m. is_false _ (λ h. none t (segments-mem C t m) h))
    where
      none : (t : Segment) → (r : Record) × (r ∈ C) × (left r ≡ true) × (t ≡ segment r)
          → from_left (unit (room rs)) p.x (suc (2 * unit (room rs) * p.y)) t ≡ true → ⊥
      none t (r, n, l, u) h =
          let at = (reaches-is p.x t).0 (and-true (reaches p.x t) _ h).0 in
          omega (arith, at.0, past r n, ap (λ v. v.a.x) (u ∙ segment-left r l))

  pub around : (e : Record) → e ∈ rs
      → left_of C e ≡ odd (top rs C e.dom + count (λ r. same r.dom e.dom && leb (rank r) (rank e)) C)
  unfolding left_of top
  around e m = go (left e) refl (before-true _ _ (segment-forward e (sound-proper ranked.sound e m)))
    where
      M : ℕ
      M = unit (room rs)

      scale : Scale (room rs) M
      scale = unit-scale (room rs)

      go : (b : Bool) → left e ≡ b → Before (segment e).a (segment e).b
          → cond b (upper (segments C) (segment e)) (lower (segments C) (segment e))
          ≡ odd (count (from_left M e.dom.x (suc (2 * M * e.dom.y))) (segments C)
          + count (λ r. same r.dom e.dom && leb (rank r) (rank e)) C)
      go true h (inl l) = goes-right ranked part M scale e m h l
      go true h (inr l) = goes-up ranked part M scale e m h l.0 l.1
      go false h (inl l) = goes_left ranked part M scale e m h l
      go false h (inr l) = goes_down ranked part M scale e m h l.0 l.1
