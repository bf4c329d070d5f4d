-- Turning around a corner of a region, clockwise, each record is met once.
--     clockwise-one     a record is met from one only
--     clockwise-onto    and each is met from one
-- Assumes nothing.
use mathlib.Core.Path.{◌≡◌, refl, sym, ◌∙◌}
use mathlib.Core.Logic.{◌⊎◌, inl, inr}
use mathlib.Core.Bool.{Bool, true, false, true≢false}
use mathlib.Core.List.{List}
use Prim.Native.Nat.{ℕ, suc, ◌<◌, ◌≤◌, zero-le}
use native.Mathlib.Omega.{arith}
use lib.Dec.{ltb}
use lib.IntN.{ℤ}
use borrow.Author.Tests.{ltb-true, ltb-false}
use Rattle.counts.proofs.TestLaws.{lt-or-le}
use Rattle.counts.proofs.ScanLaws.{first_from-passes, first_from-least}
use Rattle.plane.specs.declared.Point.{Point}
use Rattle.plane.specs.Points.{same}
use Rattle.plane.proofs.PointLaws.{same_true}
use Rattle.record.specs.Records.{record_at, record_count}
use Rattle.parts.specs.Parts.{at_corner, first_there}
use Rattle.chart.specs.Regions.{Region}
use Rattle.walks.specs.Ways.{clockwise}
use Rattle.walks.proofs.TurnLaws.{Turned, is_same, together, clockwise-is}

module _ {s : List ℤ} (region : Region s) where
  turned-back : (e j k : ℕ) → j < record_count s → k < record_count s → Turned s e j → Turned s e k → j ≡ k
  turned-back e j k l h a b = go a.just b.just
    where
      one : (record_at s j).dom ≡ (record_at s k).dom
      one = sym a.at ∙ b.at

      go : (suc e ≡ j) ⊎ ((i : ℕ) → i < record_count s → (record_at s i).dom ≡ (record_at s j).dom → (j ≤ i) × (i ≤ e))
          → (suc e ≡ k) ⊎ ((i : ℕ) → i < record_count s → (record_at s i).dom ≡ (record_at s k).dom → (k ≤ i) × (i ≤ e))
          → j ≡ k
      go (inl x) (inl y) = omega arith
      go (inl x) (inr y) = absurd (omega (arith, y j l one))
      go (inr x) (inl y) = absurd (omega (arith, x k h (sym one)))
      go (inr x) (inr y) = omega (arith, x k h (sym one), y j l one)

  turned-one : (e f j : ℕ) → Turned s e j → Turned s f j → e ≡ f
  turned-one e f j a b = go a.just b.just
    where
      go : (suc e ≡ j) ⊎ ((i : ℕ) → i < record_count s → (record_at s i).dom ≡ (record_at s j).dom → (j ≤ i) × (i ≤ e))
          → (suc f ≡ j) ⊎ ((i : ℕ) → i < record_count s → (record_at s i).dom ≡ (record_at s j).dom → (j ≤ i) × (i ≤ f))
          → e ≡ f
      go (inl x) (inl y) = omega arith
      go (inl x) (inr y) = absurd (omega (arith, y e a.less a.at))
      go (inr x) (inl y) = absurd (omega (arith, x f b.less b.at))
      go (inr x) (inr y) = omega (arith, x f b.less b.at, y e a.less a.at)

  pub clockwise-one : (j k : ℕ) → j < record_count s → k < record_count s → clockwise s j ≡ clockwise s k → j ≡ k
  clockwise-one j k l h e =
      turned-back (clockwise s k) j k l h (rw e at (clockwise-is region j l)) (clockwise-is region k h)

  pub clockwise-onto : (e : ℕ) → e < record_count s → (j : ℕ) × (j < record_count s) × (clockwise s j ≡ e)
  clockwise-onto e l =
      go (ltb (suc e) (record_count s)) refl (same (record_at s (suc e)).dom (record_at s e).dom) refl
    where
      met : (j : ℕ) → j < record_count s → Turned s e j → (j : ℕ) × (j < record_count s) × (clockwise s j ≡ e)
      met j h a = (j, h, turned-one (clockwise s j) e j (clockwise-is region j h) a)

      p : Point
      p = (record_at s e).dom

      first : ℕ
      first = first_there s p

      lowest : (i : ℕ) → (record_at s i).dom ≡ p → first ≤ i
      lowest i d = first_from-least (at_corner p) (record_at s) 0 (record_count s) zero-le i zero-le (is_same _ _ d)

      short : first < record_count s
      short = omega (arith, lowest e refl)

      there : (record_at s first).dom ≡ p
      there = same_true _ _ (first_from-passes (at_corner p) (record_at s) 0 (record_count s) zero-le short)

      last : ((i : ℕ) → i < record_count s → (record_at s i).dom ≡ p → i ≤ e)
          → (j : ℕ) × (j < record_count s) × (clockwise s j ≡ e)
      last top =
          met first short
          (record {
            less = l;
            at = sym there;
            just = inr (λ i h d. let g = d ∙ there in (lowest i g, top i h g));
          })

      go : (b : Bool) → ltb (suc e) (record_count s) ≡ b
          → (c : Bool) → same (record_at s (suc e)).dom (record_at s e).dom ≡ c
          → (j : ℕ) × (j < record_count s) × (clockwise s j ≡ e)
      go true h true g =
          met (suc e) (ltb-true _ _ h) (record { less = l; at = sym (same_true _ _ g); just = inl refl })
      go true h false g = last (λ i k d. top i k d (lt-or-le e i))
        where
          top : (i : ℕ) → i < record_count s → (record_at s i).dom ≡ p → (e < i) ⊎ (i ≤ e) → i ≤ e
          top i k d (inr f) = f
          top i k d (inl f) =
              absurd (true≢false (sym (is_same _ _ (together region e (suc e) i (omega arith) f k (sym d) ∙ d)) ∙ g))
      go false h c g = last (λ i k d. omega (arith, ltb-false (suc e) (record_count s) h))
