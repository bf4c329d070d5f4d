-- Two records r and e at one corner: which is the earlier, by their halves and by how their segments turn there.
--     half-less                right halves come before left halves
--     left_less, right-less    of two left halves r is the earlier if it turns left onto e; and of two right halves
--     one-start, one_end       two left halves start at one point, two right halves end at one
--     by_number                numbers that are in the order of the records tell it
-- Assumes nothing.
use mathlib.Core.Path.{◌≡◌, sym, ap, ap₂, ◌∙◌}
use mathlib.Core.Logic.{inr}
use mathlib.Core.Bool.{true, false}
use mathlib.Core.List.{List}
use Prim.Native.Nat.{ℕ, ◌<◌}
use native.Mathlib.Omega.{arith}
use lib.Dec.{leb}
use borrow.Author.Tests.{ltb-true, le-leb, lt-leb}
use Rattle.counts.specs.Count.{◌∈◌}
use Rattle.counts.proofs.TestLaws.{xor_self, or_left, Side, less, equal, more, side}
use Rattle.plane.specs.Turns.{turns_left}
use Rattle.plane.specs.Sides.{above}
use Rattle.record.specs.declared.Record.{Record}
use Rattle.record.specs.Order.{left, leads, earlier}
use Rattle.record.proofs.OrderLaws.{precedes-intro}
use Rattle.segment.specs.Segments.{segment}
use Rattle.segment.proofs.SegmentLaws.{segment-left, segment-right}
use Rattle.around.proofs.Parts.{Ranked}

module _ {rs : List Record} {rank : Record → ℕ} (ranked : Ranked rs rank) (r e : Record) (m : r ∈ rs) (n : e ∈ rs)
    (d : r.dom ≡ e.dom) where
  rank_less : earlier r e ≡ true → rank r < rank e
  rank_less h = ltb-true _ _ (ranked.follows r e m n ∙ precedes-intro r e (inr (d, h)))

  pub half-less : left r ≡ false → left e ≡ true → rank r < rank e
  unfolding earlier
  half-less h g = rank_less (rw (h, g))

  turn-less : left r ≡ left e → turns_left r.dom r.other e.other ≡ true → rank r < rank e
  unfolding earlier leads
  turn-less h t = rank_less (rw (xor_self (left r) (left e) h) (or_left _ t))

  -- by their segments
  pub left_less : left r ≡ true → left e ≡ true → above (segment e).b (segment r) ≡ true → rank r < rank e
  left_less h g t =
      turn-less (h ∙ sym g)
      (ap₂ (λ s u. above u.b s) (sym (segment-left r h)) (sym (segment-left e g)) ∙ t)

  pub right-less : left r ≡ false → left e ≡ false → turns_left (segment r).b (segment r).a (segment e).a ≡ true
      → rank r < rank e
  right-less h g t =
      turn-less (h ∙ sym g)
      (ap₂ (λ s u. turns_left s.b s.a u.a) (sym (segment-right r h)) (sym (segment-right e g)) ∙ t)

  pub one-start : left r ≡ true → left e ≡ true → (segment r).a ≡ (segment e).a
  one-start h g = ap (λ s. s.a) (segment-left r h) ∙ d ∙ sym (ap (λ s. s.a) (segment-left e g))

  pub one_end : left r ≡ false → left e ≡ false → (segment r).b ≡ (segment e).b
  one_end h g = ap (λ s. s.b) (segment-right r h) ∙ d ∙ sym (ap (λ s. s.b) (segment-right e g))

  -- a number for each, in the order of the records
  pub by_number : (j k : ℕ) → (j < k → rank r < rank e) → (j ≡ k → r ≡ e) → (k < j → rank e < rank r)
      → leb (rank r) (rank e) ≡ leb j k
  by_number j k before same after = go (side j k)
    where
      go : Side j k → leb (rank r) (rank e) ≡ leb j k
      go (less h) = le-leb (rank r) (rank e) (omega (arith, before h)) ∙ sym (le-leb j k (omega arith))
      go (equal h) =
          le-leb (rank r) (rank e) (omega (arith, ap rank (same h))) ∙ sym (le-leb j k (omega arith))
      go (more h) = lt-leb (rank r) (rank e) (after h) ∙ sym (lt-leb j k h)
