-- The areas below the segments of a sound chart that has each of them once, by the side that the chart has above them.
--     upper-less     below those with the chart above them lies less than below the others, unless it has none
-- Assumes nothing.
use mathlib.Core.Path.{◌≡◌, refl, sym, ap, ◌∙◌}
use mathlib.Core.Logic.{◌⊎◌, inl, inr}
use mathlib.Core.Bool.{Bool, true, false, not, ◌&&◌}
use mathlib.Core.List.{List}
use Prim.Native.Nat.{ℕ, ◌+◌, ◌*◌, ◌/◌, ◌%◌, ◌<◌, ◌≤◌, zero-le}
use native.Mathlib.Nat.{lt_of_mul-lt-mul_left, mul-lt-mul_of_pos_left}
use native.Mathlib.Omega.{arith}
use lib.Dec.{ltb, leb, eqb}
use borrow.Author.Tests.{ltb-true, ltb-false, eqb-true, le-leb, lt-leb, lt-ltb, le-ltb}
use Rattle.counts.specs.Count.{◌∈◌, ind, sum, count, any, Even, places}
use Rattle.counts.proofs.TestLaws.{and-true, is_false, lt-or-le}
use Rattle.counts.proofs.SumLaws.{sum-ext, sum-le, sum-add, sum-mul, sum-swap, sum-member, sum-parity}
use Rattle.counts.proofs.CountLaws.{count-off, count-some}
use Rattle.counts.proofs.ListedLaws.{mem-listed}
use Rattle.counts.proofs.HighestLaws.{any-member, any_none, at_most_one}
use Rattle.plane.specs.declared.Segment.{Segment}
use Rattle.plane.specs.Points.{is_segment}
use Rattle.plane.specs.Touching.{Touch}
use Rattle.plane.specs.Columns.{covers}
use Rattle.plane.proofs.Heights.{Scale, key}
use Rattle.plane.proofs.PointLaws.{Before, before-true, is_segment-refl}
use Rattle.plane.proofs.OrderLaws.{keys-differ}
use Rattle.plane.proofs.ColumnLaws.{covers-is, reaches-is, covers-spans}
use Rattle.region.proofs.Charts.{SoundChart, upper, from_left, to_right, across}
use Rattle.region.proofs.EndLaws.{even-ends}
use Rattle.region.proofs.ColumnLemma.{column}
use Rattle.region.proofs.AcrossLaws.{across-is, across-most}
use Rattle.region.proofs.SlantLaws.{upper-strip}
use Rattle.counts.proofs.TurnsLaws.{uneven, keys, turns-sum}
use Rattle.around.proofs.TrapezoidLaws.{trapezoid, strips-part}

module _ {W : ℕ} (M : ℕ) (scale : Scale W M) {ss : List Segment} (sound : SoundChart W ss)
    (single : (t : Segment) → count (is_segment t) ss ≤ 1) where
  -- ---- in one strip

  onward : (t : Segment) → t ∈ ss → t.a.x ≤ t.b.x
  onward t m = go (before-true t.a t.b (sound.chart.forward t m))
    where
      go : Before t.a t.b → t.a.x ≤ t.b.x
      go (inl l) = omega arith
      go (inr l) = omega arith

  -- a segment has one end up to the column x exactly if it covers the strip after it
  strip-even : (x : ℕ) → Even (count (covers x) ss)
  strip-even x =
      omega (
        arith,
        even-ends sound.chart (λ p. leb p.x x),
        sum-parity (λ t. ind (leb t.a.x x) + ind (leb t.b.x x)) (λ t. ind (covers x t)) ss
            (λ t m. go t (onward t m) (lt-or-le x t.a.x) (lt-or-le x t.b.x)),
      )
    where
      go : (t : Segment) → t.a.x ≤ t.b.x → (x < t.a.x) ⊎ (t.a.x ≤ x) → (x < t.b.x) ⊎ (t.b.x ≤ x)
          → (ind (leb t.a.x x) + ind (leb t.b.x x)) % 2 ≡ ind (covers x t) % 2
      go t o (inl l) (inl h) = rw (lt-leb _ _ l, lt-leb _ _ h) refl
      go t o (inl l) (inr h) = absurd (omega arith)
      go t o (inr l) (inl h) = rw (le-leb _ _ l, lt-leb _ _ h, lt-ltb _ _ h) refl
      go t o (inr l) (inr h) = rw (le-leb _ _ l, le-leb _ _ h, le-ltb _ _ h) refl

  distinct : (x k : ℕ) → count (λ t. covers x t && eqb (key M t x) k) ss ≤ 1
  distinct x k =
      at_most_one (λ t. covers x t && eqb (key M t x) k) (λ t s. is_segment s t) is_segment-refl ss
      (λ t m. single t) one
    where
      one : (t s : Segment) → t ∈ ss → s ∈ ss → covers x t && eqb (key M t x) k ≡ true
          → covers x s && eqb (key M s x) k ≡ true → t ≡ s
      one t s m n e g =
          let a = and-true (covers x t) _ e in
          let b = and-true (covers x s) _ g in
          go a.0 b.0 (eqb-true _ _ b.1 ∙ sym (eqb-true _ _ a.1)) (sound.clear s n t m)
        where
          go : covers x t ≡ true → covers x s ≡ true → key M s x ≡ key M t x → (t ≡ s) ⊎ (¬ (Touch s t)) → t ≡ s
          go a b h (inl same) = same
          go a b h (inr free) =
              absurd (keys-differ M scale s t free x (covers-spans x s (sound.chart.small s n) b).1
              (covers-spans x t (sound.chart.small t m) a).1 h)

  -- ---- over all strips

  abbrev in_turn : (Bool → Bool) → ℕ → ℕ
  in_turn w x = keys ss (covers x) (λ t. key M t x) (λ t. w (uneven ss (covers x) (λ t. key M t x) t))

  by-strips : (w : Bool → Bool)
      → sum (in_turn w) (places W) ≡ M * sum (λ s. ind (w (upper ss s)) * trapezoid s) ss
  by-strips w =
      sum-swap (λ x s. ind (covers x s && w (uneven ss (covers x) (λ t. key M t x) s)) * key M s x) (places W) ss
      ∙ sum-ext _ _ ss (λ s m. strips-part M scale s (sound.chart.small s m)
      (λ x. w (uneven ss (covers x) (λ t. key M t x) s)) (w (upper ss s)) (λ x h. ap w (sym
      (upper-strip M scale sound.chart s (sound.chart.small s m) (sound.clear s m) x h))))
      ∙ sum-mul M (λ s. ind (w (upper ss s)) * trapezoid s) ss

  slanted-less : (s : Segment) → s ∈ ss → s.a.x < s.b.x
      → sum (λ s. ind (upper ss s) * trapezoid s) ss < sum (λ s. ind (not (upper ss s)) * trapezoid s) ss
  slanted-less s m slanted =
      let pairs = sum-le (λ x. in_turn (λ b. b) x + count (covers x) ss / 2) (in_turn not) (places W)
      (λ x k. turns-sum ss (covers x) (λ t. key M t x) (distinct x) (strip-even x)) in
      let added = sum-add (in_turn (λ b. b)) (λ x. count (covers x) ss / 2) (places W) in
      let some = count-some (covers s.a.x) ss s m ((covers-is s.a.x s).1 (omega arith)) in
      let one = sum-member (λ x. count (covers x) ss / 2) (places W) s.a.x
      (mem-listed (λ i. i) 0 W s.a.x zero-le (omega (arith, sound.chart.small s m))) in
      lt_of_mul-lt-mul_left M (omega (arith, by-strips (λ b. b), by-strips not, strip-even s.a.x))

  -- ---- not all are vertical

  -- at its upper end a vertical one would be the only one across, with nothing left or right of the column
  some-slanted : (s : Segment) → s ∈ ss → (t : Segment) × (t ∈ ss) × (t.a.x < t.b.x)
  some-slanted s m = go (any slants ss) refl
    where
      slants : Segment → Bool
      slants t = ltb t.a.x t.b.x

      go : (b : Bool) → any slants ss ≡ b → (t : Segment) × (t ∈ ss) × (t.a.x < t.b.x)
      go true e = let w = (any-member slants ss).0 e in (w.0, w.1, ltb-true _ _ w.2)
      go false e = absurd (omega (
        arith,
        column M scale sound.chart s.a.x η,
        count-off (from_left M s.a.x η) ss (λ t n. is_false _ (λ h.
            let at = (reaches-is s.a.x t).0 (and-true _ _ h).0 in omega (arith, upright t n))),
        count-off (to_right M s.a.x η) ss (λ t n. is_false _ (λ h.
            let at = (covers-is s.a.x t).0 (and-true _ _ h).0 in omega (arith, upright t n))),
        across-most M s.a.x η sound (λ t n. single t),
        count-some (across M s.a.x η) ss s m ((across-is M s.a.x η s).1 (omega (arith, upright s m, rises))),
      ))
        where
          η : ℕ
          η = 2 * M * s.b.y

          upright : (t : Segment) → t ∈ ss → t.b.x ≡ t.a.x
          upright t n =
              let l : t.b.x ≤ t.a.x = ltb-false _ _ ((any_none slants ss).0 e t n) in
              omega (arith, onward t n)

          rises : 2 * M * s.a.y < 2 * M * s.b.y
          rises = up (before-true s.a s.b (sound.chart.forward s m))
            where
              up : Before s.a s.b → 2 * M * s.a.y < 2 * M * s.b.y
              up (inl h) = absurd (omega (arith, upright s m))
              up (inr h) = mul-lt-mul_of_pos_left {k = 2 * M} h.1 (omega (arith, scale.positive))

  pub upper-less : (s : Segment) → s ∈ ss
      → sum (λ s. ind (upper ss s) * trapezoid s) ss < sum (λ s. ind (not (upper ss s)) * trapezoid s) ss
  upper-less s m = let w = some-slanted s m in slanted-less w.0 w.1 w.2
