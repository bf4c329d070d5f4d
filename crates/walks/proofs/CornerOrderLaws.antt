-- The records of a region at one corner, by their places.
--     proper         the two ends of each differ
--     onto-later     of two of one half the course of the earlier turns counter-clockwise onto that of the later
--     halfway        right halves stand first, so between two of one half all are of that half
-- Assumes nothing.
use mathlib.Core.Path.{◌≡◌, refl, sym, ap, ◌∙◌}
use mathlib.Core.Logic.{◌⊎◌, inl, inr}
use mathlib.Core.Bool.{Bool, true, false, cond, ◌&&◌, true≢false}
use mathlib.Core.List.{List}
use Prim.Native.Nat.{ℕ, ◌<◌, zero-le}
use native.Mathlib.Omega.{arith}
use lib.Dec.{ltb}
use lib.IntN.{ℤ}
use borrow.Author.Tests.{eqb-true}
use Rattle.counts.specs.Count.{◌∈◌, ◌⊕◌}
use Rattle.counts.proofs.TestLaws.{and-true, or-true, is_false, xor_self}
use Rattle.counts.proofs.ListedLaws.{mem-listed}
use Rattle.plane.specs.Points.{before}
use Rattle.plane.specs.Turns.{turns_left, straight}
use Rattle.plane.proofs.PointLaws.{before-irrefl}
use Rattle.record.specs.declared.Record.{Record}
use Rattle.record.specs.Records.{record_at, record_count, records}
use Rattle.record.specs.Order.{left, Proper, square_length, leads, earlier}
use Rattle.record.proofs.CaseLaws.{earlier-halves}
use Rattle.record.proofs.OrderLaws.{Precedes, precedes-true}
use Rattle.chart.specs.Regions.{Region}
use Rattle.chart.proofs.OnceLaws.{sound-proper, region-rising, region-place}
use Rattle.walks.proofs.CourseLaws.{onto, turns_left-onto}
use Rattle.walks.proofs.AlignedLaws.{aligned-one}

module _ {s : List ℤ} (region : Region s) where
  member : (i : ℕ) → i < record_count s → record_at s i ∈ records s
  member i l = mem-listed (record_at s) 0 (record_count s) i zero-le (omega arith)

  pub proper : (i : ℕ) → i < record_count s → Proper (record_at s i)
  proper i l = sound-proper region.sound (record_at s i) (member i l)

  module _ (i j : ℕ) (l : i < j) (h : j < record_count s) (d : (record_at s i).dom ≡ (record_at s j).dom) where
    abbrev r : Record
    r = record_at s i

    abbrev e : Record
    e = record_at s j

    comes : earlier r e ≡ true
    comes = go (precedes-true r e (region-rising region i j l h))
      where
        go : Precedes r e → earlier r e ≡ true
        go (inl b) = absurd (before-irrefl e.dom (ap (λ p. before p e.dom) (sym d) ∙ b))
        go (inr b) = b.1

    right-first : left e ≡ false → left r ≡ false
    right-first q = is_false (left r) (λ p. true≢false (sym comes ∙ earlier-halves r e (sym p) (sym q)))

    pub onto-later : left r ≡ left e → onto r e ≡ true
    unfolding leads straight
    onto-later p = go (or-true (turns_left r.dom r.other e.other) _ lead)
      where
        alike : left r ⊕ left e ≡ false
        alike = xor_self (left r) (left e) p

        lead : leads r e ≡ true
        lead = ap (λ x. cond x (left e) (leads r e)) (sym alike) ∙ sym (earlier-halves r e refl refl) ∙ comes

        turns : turns_left r.dom r.other e.other ≡ onto r e
        turns =
            turns_left-onto r e (proper i (omega arith)) (proper j h) d
            ∙ ap (λ x. cond x (onto e r) (onto r e)) alike

        -- in line they would be one record
        go : (turns_left r.dom r.other e.other ≡ true)
            ⊎ (straight r.dom r.other e.other && ltb (square_length r) (square_length e) ≡ true)
            → onto r e ≡ true
        go (inl t) = sym turns ∙ t
        go (inr t) =
            let level = eqb-true _ _ (and-true (straight r.dom r.other e.other) _ t).0 in
            let one = aligned-one region.sound r e (member i (omega arith)) (member j h) d p level in
            absurd (omega (arith, region-place region i j (omega arith) h one))

  pub halfway : (i j k : ℕ) → i < j → j < k → k < record_count s → (record_at s i).dom ≡ (record_at s j).dom
      → (record_at s j).dom ≡ (record_at s k).dom → left (record_at s i) ≡ left (record_at s k)
      → left (record_at s i) ≡ left (record_at s j)
  halfway i j k l g h d c x = go (left (record_at s j)) (left (record_at s k)) refl refl
    where
      go : (a b : Bool) → left (record_at s j) ≡ a → left (record_at s k) ≡ b
          → left (record_at s i) ≡ left (record_at s j)
      go false b p q = right-first i j l (omega arith) d p ∙ sym p
      go true true p q = x ∙ q ∙ sym p
      go true false p q = absurd (true≢false (sym p ∙ right-first j k g h c q))
