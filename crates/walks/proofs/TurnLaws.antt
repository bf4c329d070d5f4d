-- Turning clockwise around a corner of a region, by the places of its records: `clockwise` of specs/Ways.antt.
--     together          records stand in order of their corners, so between two at one corner all are there
--     is_same           `same` of equal points
--     Turned s e j      record e is at the corner of record j, just before it; or j is the first there and e the last
--     clockwise-is      so it is with the record that is met clockwise from j
-- Assumes nothing.
use mathlib.Core.Path.{◌≡◌, refl, sym, ap, ◌∙◌}
use mathlib.Core.Logic.{◌⊎◌, inl, inr}
use mathlib.Core.Bool.{Bool, true, false, cond, true≢false}
use mathlib.Core.List.{List}
use Prim.Native.Nat.{ℕ, suc, ◌-◌, ◌<◌, ◌≤◌}
use native.Mathlib.Omega.{arith}
use lib.Dec.{eqb}
use lib.IntN.{ℤ}
use borrow.Author.Tests.{eqb-true, eq-eqb}
use Rattle.counts.specs.Scan.{first_from}
use Rattle.counts.proofs.TestLaws.{or-true, or_left, or_right, is_false, not-true, not-false, lt-or-le}
use Rattle.counts.proofs.ScanLaws.{first_from-low, first_from-high, first_from-passes, first_from-fails}
use Rattle.plane.specs.declared.Point.{Point}
use Rattle.plane.specs.Points.{before, same}
use Rattle.plane.proofs.PointLaws.{trichotomy, same_true, same_refl}
use Rattle.record.specs.Records.{record_at, record_count}
use Rattle.parts.specs.Parts.{off_corner}
use Rattle.parts.proofs.RunLaws.{doms-rise}
use Rattle.chart.specs.Regions.{Region}
use Rattle.walks.specs.Ways.{first_here, last_here, clockwise}

pub record Turned (s : List ℤ) (e j : ℕ) : Type 0 where
  pub less : e < record_count s
  pub at : (record_at s e).dom ≡ (record_at s j).dom
  pub just : (suc e ≡ j)
      ⊎ ((i : ℕ) → i < record_count s → (record_at s i).dom ≡ (record_at s j).dom → (j ≤ i) × (i ≤ e))

pub is_same : (p q : Point) → p ≡ q → same p q ≡ true
is_same p q e = ap (λ t. same t q) e ∙ same_refl q

module _ {s : List ℤ} (region : Region s) where
  pub together : (i j k : ℕ) → i ≤ j → j ≤ k → k < record_count s → (record_at s i).dom ≡ (record_at s k).dom
      → (record_at s j).dom ≡ (record_at s k).dom
  together i j k l h g e = by_order (trichotomy (record_at s j).dom (record_at s k).dom)
    where
      by_order : (before (record_at s j).dom (record_at s k).dom ≡ true)
          ⊎ (((record_at s j).dom ≡ (record_at s k).dom) ⊎ (before (record_at s k).dom (record_at s j).dom ≡ true))
          → (record_at s j).dom ≡ (record_at s k).dom
      by_order (inl b) =
          let low = doms-rise s region.ordered i j l (omega arith) in
          absurd (true≢false (sym b ∙ ap (λ t. before (record_at s j).dom t) (sym e) ∙ low))
      by_order (inr (inl d)) = d
      by_order (inr (inr b)) = absurd (true≢false (sym b ∙ doms-rise s region.ordered j k h g))

  -- ---- what is met clockwise

  module _ (j : ℕ) (l : j < record_count s) where
    past : ℕ
    past = first_from (off_corner (record_at s j).dom) (record_at s) j (record_count s)

    from_first : first_here s j ≡ true → Turned s (last_here s j) j
    unfolding past
    from_first t =
        record {
          less = omega (arith, beyond, high);
          at = at (past - 1) (omega (arith, beyond)) (omega (arith, beyond));
          just = inr (λ i h d. (no-earlier i h d (lt-or-le i j) (or-true _ _ t), no-later i h d (lt-or-le i past)));
        }
      where
        high : past ≤ record_count s
        high = first_from-high (off_corner (record_at s j).dom) (record_at s) j (record_count s) (omega arith)

        low : j ≤ past
        low = first_from-low (off_corner (record_at s j).dom) (record_at s) j (record_count s) (omega arith)

        off : past < record_count s → same (record_at s past).dom (record_at s j).dom ≡ false
        off h =
            not-true _
            (first_from-passes (off_corner (record_at s j).dom) (record_at s) j (record_count s) (omega arith) h)

        at : (i : ℕ) → j ≤ i → i < past → (record_at s i).dom ≡ (record_at s j).dom
        at i h g =
            same_true _ _
            (not-false _
            (first_from-fails (off_corner (record_at s j).dom) (record_at s) j (record_count s) (omega arith) i h g))

        not_at : (i : ℕ) → same (record_at s i).dom (record_at s j).dom ≡ false
            → (record_at s i).dom ≡ (record_at s j).dom
            → ⊥
        not_at i h d = true≢false (sym (is_same _ _ d) ∙ h)

        -- record j itself is at its corner
        beyond : j < past
        beyond = go (lt-or-le j past)
          where
            go : (j < past) ⊎ (past ≤ j) → j < past
            go (inl h) = h
            go (inr h) =
                let e : past ≡ j = omega (arith, low) in
                absurd (not_at past (off (omega (arith, h))) (ap (λ k. (record_at s k).dom) e))

        no-earlier : (i : ℕ) → i < record_count s → (record_at s i).dom ≡ (record_at s j).dom → (i < j) ⊎ (j ≤ i)
            → (eqb j 0 ≡ true) ⊎ (off_corner (record_at s j).dom (record_at s (j - 1)) ≡ true) → j ≤ i
        no-earlier i h d (inr g) f = g
        no-earlier i h d (inl g) (inl f) = absurd (omega (arith, eqb-true j 0 f))
        no-earlier i h d (inl g) (inr f) =
            absurd (not_at (j - 1) (not-true _ f) (together i (j - 1) j (omega arith) (omega arith) l d))

        no-later : (i : ℕ) → i < record_count s → (record_at s i).dom ≡ (record_at s j).dom → (i < past) ⊎ (past ≤ i)
            → i ≤ past - 1
        no-later i h d (inl g) = omega arith
        no-later i h d (inr g) =
            absurd
            (not_at past (off (omega arith)) (together j past i low g h (sym d) ∙ d))

    from-later : first_here s j ≡ false → Turned s (j - 1) j
    from-later t =
        record { less = omega arith; at = there; just = inl (omega (arith, later)) }
      where
        later : 0 < j
        later = go (lt-or-le 0 j)
          where
            go : (0 < j) ⊎ (j ≤ 0) → 0 < j
            go (inl h) = h
            go (inr h) = absurd (true≢false (sym (or_left _ (eq-eqb j 0 (omega arith))) ∙ t))

        there : (record_at s (j - 1)).dom ≡ (record_at s j).dom
        there = same_true _ _ (not-false _ (is_false _ (λ h. true≢false (sym (or_right (eqb j 0) h) ∙ t))))

    pub clockwise-is : Turned s (clockwise s j) j
    unfolding clockwise
    clockwise-is = go (first_here s j) refl
      where
        go : (b : Bool) → first_here s j ≡ b → Turned s (cond b (last_here s j) (j - 1)) j
        go true t = from_first t
        go false t = from-later t
