-- The column lemma. At a column and a height: the segments that come from the left below that height, those that go
-- on to the right below it, and the vertical ones across it. A segment is in an odd number of these three sets exactly
-- if one of its ends, not both, lies on the column below that height; and a chart has an even number of ends there.
--     end_below M c η p    p lies on the column c below the height η
--     at-column            of one segment, the number of these sets that it is in, and of its ends there: one parity
--     column               of an even chart the three sets have together an even number of members
-- Assumes nothing.
use mathlib.Core.Path.{◌≡◌, refl, sym, ap}
use mathlib.Core.Logic.{inl, inr}
use mathlib.Core.Bool.{Bool, true, false, not, ◌&&◌, true≢false}
use mathlib.Core.List.{List}
use Prim.Native.Nat.{ℕ, ◌+◌, ◌*◌, ◌%◌, ◌<◌, ◌≤◌}
use lib.Dec.{ltb, eqb}
use native.Mathlib.Nat.{mul-le-mul_left}
use native.Mathlib.Omega.{arith}
use borrow.Author.Tests.{ltb-true, lt-ltb, le-ltb, eq-eqb, ne_eqb}
use Rattle.counts.specs.Count.{ind, count, Even}
use Rattle.counts.proofs.TestLaws.{leb-not, Side, less, equal, more, side}
use Rattle.counts.proofs.SumLaws.{sum-add, sum-parity}
use Rattle.plane.specs.declared.Point.{Point}
use Rattle.plane.specs.declared.Segment.{Segment}
use Rattle.plane.specs.Points.{Forward}
use Rattle.plane.proofs.Heights.{Scale, height}
use Rattle.plane.proofs.PointLaws.{Before, before-true}
use Rattle.plane.proofs.HeightLaws.{height-a, height-b}
use Rattle.region.proofs.Charts.{EvenChart, from_left, to_right, across}
use Rattle.region.proofs.EndLaws.{even-ends}

-- how m lies to n, with the outcomes of the three tests on it: a case of it settles them all
data Lies (m n : ℕ) : Bool → Bool → Bool → Type 0 where
  left : m < n → Lies m n true false false
  at : m ≡ n → Lies m n false true false
  right : n < m → Lies m n false false true

lies : (m n : ℕ) → Lies m n (ltb m n) (eqb m n) (ltb n m)
lies m n = go (side m n)
  where
    go : Side m n → Lies m n (ltb m n) (eqb m n) (ltb n m)
    go (less h) = rw (lt-ltb _ _ h, ne_eqb m n (omega arith), le-ltb n m (omega arith)) (left h)
    go (equal h) = rw (le-ltb m n (omega arith), eq-eqb m n h, le-ltb n m (omega arith)) (at h)
    go (more h) = rw (le-ltb m n (omega arith), ne_eqb m n (omega arith), lt-ltb _ _ h) (right h)

-- what passes p does so with q or without, where q is the stronger
rest : (p q : Bool) → (q ≡ true → p ≡ true) → ind (p && not q) + ind q ≡ ind p
rest true true h = refl
rest true false h = refl
rest false true h = absurd (true≢false (sym (h refl)))
rest false false h = refl

abbrev pub end_below : ℕ → ℕ → ℕ → Point → Bool
end_below M c η p = eqb p.x c && ltb (2 * M * p.y) η

module _ {W : ℕ} (M : ℕ) (scale : Scale W M) where
  module _ (c η : ℕ) where
    pub at-column : (t : Segment) → Forward t → t.b.x < W
        → (ind (from_left M c η t) + ind (to_right M c η t) + ind (across M c η t)) % 2
        ≡ (ind (end_below M c η t.a) + ind (end_below M c η t.b)) % 2
    at-column t f small =
        rw (leb-not c t.b.x, leb-not t.a.x c, leb-not η (2 * M * t.b.y))
        (go (before-true t.a t.b f) (lies t.a.x c) (lies t.b.x c))
      where
        onward : Before t.a t.b → t.a.x ≤ t.b.x
        onward (inl s) = omega arith
        onward (inr s) = omega arith

        upward : Before t.a t.b → t.a.x ≡ t.b.x → t.a.y ≤ t.b.y
        upward (inl s) e = omega arith
        upward (inr s) e = omega arith

        go : {a_left a_at a_right b_left b_at b_right : Bool} → Before t.a t.b
            → Lies t.a.x c a_left a_at a_right → Lies t.b.x c b_left b_at b_right
            → (ind (a_left && not b_left && ltb (height M t (2 * c)) η)
            + ind (not a_right && b_right && ltb (height M t (2 * c)) η)
            + ind (a_at && b_at && ltb (2 * M * t.a.y) η && not (ltb (2 * M * t.b.y) η))) % 2
            ≡ (ind (a_at && ltb (2 * M * t.a.y) η) + ind (b_at && ltb (2 * M * t.b.y) η)) % 2
        go o (left h) (left g) = refl
        go o (left h) (at g) =
            let end : height M t (2 * c) ≡ 2 * M * t.b.y = rw (← g) (height-b M scale t (omega arith) small) in
            omega (arith, ap (λ n. ind (ltb n η)) end)
        go o (left h) (right g) = omega arith
        go o (at h) (left g) = absurd (omega (arith, onward o))
        go o (at h) (at g) =
            let up = mul-le-mul_left (2 * M) (upward o (omega arith)) in
            let above = rest _ _ (λ l. lt-ltb (2 * M * t.a.y) η (omega (arith, ltb-true (2 * M * t.b.y) η l))) in
            omega arith
        go o (at h) (right g) =
            let start : height M t (2 * c) ≡ 2 * M * t.a.y = rw (← h) (height-a M scale t (omega arith) small) in
            omega (arith, ap (λ n. ind (ltb n η)) start)
        go o (right h) (left g) = refl
        go o (right h) (at g) = absurd (omega (arith, onward o))
        go o (right h) (right g) = refl

  pub column : {ss : List Segment} → EvenChart W ss → (c η : ℕ)
      → Even (count (from_left M c η) ss + count (to_right M c η) ss + count (across M c η) ss)
  column {ss} chart c η =
      omega (
        arith,
        sum-add (λ t. ind (from_left M c η t)) (λ t. ind (to_right M c η t)) ss,
        sum-add (λ t. ind (from_left M c η t) + ind (to_right M c η t)) (λ t. ind (across M c η t)) ss,
        sum-parity _ _ ss (λ t m. at-column c η t (chart.forward t m) (chart.small t m)),
        even-ends chart (end_below M c η),
      )
