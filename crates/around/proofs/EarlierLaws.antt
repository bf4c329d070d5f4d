-- Which records at the corner of e come at or before it, by the way that e goes.
--     up-last, down-last     it goes straight up: all of them; straight down: all right halves
--     right-turn             it goes right: of the left halves those that go right and are no higher beside the corner
--     left-turn              it goes left: of the right halves those that go left and are no lower
-- Right halves come before left halves: `half-less` of TurnedLaws.antt. Assumes nothing.
use mathlib.Core.Path.{◌≡◌, refl, sym, ap}
use mathlib.Core.Logic.{inl, inr}
use mathlib.Core.Bool.{Bool, true, false, ◌&&◌}
use mathlib.Core.List.{List}
use Prim.Native.Nat.{ℕ, suc, ◌<◌, ◌≤◌}
use native.Mathlib.Omega.{arith}
use lib.Dec.{leb}
use borrow.Author.Tests.{lt-leb}
use Rattle.counts.specs.Count.{◌∈◌}
use Rattle.counts.proofs.TestLaws.{is_false}
use Rattle.plane.specs.declared.Segment.{Segment}
use Rattle.plane.specs.Columns.{covers, reaches}
use Rattle.plane.proofs.Heights.{Scale, key}
use Rattle.plane.proofs.PointLaws.{Before, before-true}
use Rattle.plane.proofs.ColumnLaws.{covers-is, reaches-is}
use Rattle.record.specs.declared.Record.{Record}
use Rattle.record.specs.Order.{left}
use Rattle.segment.specs.Segments.{segment}
use Rattle.segment.proofs.SegmentLaws.{segment-forward}
use Rattle.chart.proofs.OnceLaws.{sound-proper}
use Rattle.region.proofs.ChartLaws.{room}
use Rattle.around.proofs.Parts.{Ranked}
use Rattle.around.proofs.PartChartLaws.{part_small}
use Rattle.around.proofs.TurnedLaws.{half-less, one-start, one_end}
use Rattle.around.proofs.RankLaws.{slant-up, slant-down, one_up, one_down, left-keys, right-keys}

module _ {rs : List Record} {rank : Record → ℕ} (ranked : Ranked rs rank) (M : ℕ) (scale : Scale (room rs) M)
    (r e : Record) (m : r ∈ rs) (n : e ∈ rs) (d : r.dom ≡ e.dom) where
  abbrev t : Segment
  t = segment r

  abbrev s : Segment
  s = segment e

  -- a segment goes right or straight up
  way : Before t.a t.b
  way = before-true t.a t.b (segment-forward r (sound-proper ranked.sound r m))

  pub up-last : left e ≡ true → s.a.x ≡ s.b.x → s.a.y < s.b.y → rank r ≤ rank e
  up-last g upright up = go (left r) refl way
    where
      go : (b : Bool) → left r ≡ b → Before t.a t.b → rank r ≤ rank e
      go true h (inl l) = omega (arith, slant-up ranked M scale r e m n d h g l upright up)
      go true h (inr l) = omega (arith, ap rank (one_up ranked M scale r e m n d h g l.0 l.1 upright up))
      go false h w = omega (arith, half-less ranked r e m n d h g)

  pub down-last : left r ≡ false → left e ≡ false → s.a.x ≡ s.b.x → s.a.y < s.b.y → rank r ≤ rank e
  down-last h g upright up = go way
    where
      go : Before t.a t.b → rank r ≤ rank e
      go (inl l) = omega (arith, slant-down ranked M scale r e m n d h g l upright up)
      go (inr l) = omega (arith, ap rank (one_down ranked M scale r e m n d h g l.0 l.1 upright up))

  pub right-turn : left r ≡ true → left e ≡ true → s.a.x < s.b.x
      → leb (rank r) (rank e) ≡ covers s.a.x t && leb (key M t s.a.x) (key M s s.a.x)
  right-turn h g slanted = go way
    where
      column : t.a.x ≡ s.a.x
      column = ap (λ p. p.x) (one-start ranked r e m n d h g)

      go : Before t.a t.b
          → leb (rank r) (rank e) ≡ covers s.a.x t && leb (key M t s.a.x) (key M s s.a.x)
      go (inl l) =
          rw ((covers-is s.a.x t).1 (omega (arith, column)))
          (left-keys ranked M scale r e m n d h g s.a.x (omega (arith, column, part_small ranked r m))
          (omega (arith, part_small ranked e n)))
      go (inr l) =
          rw (is_false (covers s.a.x t) (λ c. let k = (covers-is s.a.x t).0 c in omega (arith, column)))
          (lt-leb (rank r) (rank e) (slant-up ranked M scale e r n m (sym d) g h slanted l.0 l.1))

  pub left-turn : left r ≡ false → left e ≡ false → s.a.x < s.b.x → (z : ℕ) → s.b.x ≡ suc z
      → leb (rank r) (rank e) ≡ reaches s.b.x t && leb (key M s z) (key M t z)
  left-turn h g slanted z c = go way
    where
      column : t.b.x ≡ s.b.x
      column = ap (λ p. p.x) (one_end ranked r e m n d h g)

      go : Before t.a t.b → leb (rank r) (rank e) ≡ reaches s.b.x t && leb (key M s z) (key M t z)
      go (inl l) =
          rw ((reaches-is s.b.x t).1 (omega (arith, column)))
          (right-keys ranked M scale r e m n d h g z (omega (arith, column, part_small ranked r m))
          (omega (arith, part_small ranked e n)))
      go (inr l) =
          rw (is_false (reaches s.b.x t) (λ c. let k = (reaches-is s.b.x t).0 c in omega (arith, column)))
          (lt-leb (rank r) (rank e) (slant-down ranked M scale e r n m (sym d) g h slanted l.0 l.1))
