-- Lemma B: how many segments of an even chart lie below a segment s, in the strips that s spans. The chart need not
-- have s, it is only clear of it.
--     up_to-under     at or below s lie those strictly below it, and s itself as often as the chart has it
--     up_to-strips    Lemma B: the number at or below s has one parity in all these strips
-- Assumes nothing.
use mathlib.Core.Path.{◌≡◌, refl, sym, ap, ◌∙◌}
use mathlib.Core.Logic.{◌≢◌, ◌⊎◌, inl, inr}
use mathlib.Core.Bool.{Bool, true, false, ◌&&◌, true≢false}
use mathlib.Core.List.{List}
use Prim.Native.Nat.{ℕ, zero, suc, ◌+◌, ◌-◌, ◌*◌, ◌%◌, ◌<◌, ◌≤◌}
use native.Mathlib.Nat.{lt_of_mul-lt-mul_left}
use native.Mathlib.Omega.{arith}
use lib.Dec.{ltb, leb}
use borrow.Author.Tests.{le-ltb, le-leb}
use Rattle.counts.specs.Count.{◌∈◌, ind, count, odd}
use Rattle.counts.proofs.TestLaws.{and_same, is_false, leb-ltb}
use Rattle.counts.proofs.SumLaws.{sum-ext, sum-add}
use Rattle.counts.proofs.CountLaws.{count-ext, count-off}
use Rattle.counts.proofs.ParityLaws.{odd-same}
use Rattle.plane.specs.declared.Segment.{Segment}
use Rattle.plane.specs.Points.{is_segment}
use Rattle.plane.specs.Touching.{Touch}
use Rattle.plane.specs.Columns.{covers}
use Rattle.plane.proofs.Heights.{Scale, Spans, Inside, height, key}
use Rattle.plane.proofs.PointLaws.{is_segment-true, is_segment-refl}
use Rattle.plane.proofs.LevelLaws.{touch-upright}
use Rattle.plane.proofs.OrderLaws.{same-order, keys-differ}
use Rattle.plane.proofs.ColumnLaws.{covers-is, covers-spans, reaches-covers}
use Rattle.region.proofs.Charts.{EvenChart, Clear, from_left, to_right, across, under, up_to}
use Rattle.region.proofs.ColumnLemma.{column}
use Rattle.region.proofs.AcrossLaws.{across-is}

module _ {W : ℕ} (M : ℕ) (scale : Scale W M) {ss : List Segment} (chart : EvenChart W ss)
    (s : Segment) (small : s.b.x < W) (clear : Clear ss s) where
  -- ---- from one strip to the next

  -- at two half columns inside s that t spans, t is below s at both or at neither
  steady : (t : Segment) → t ∈ ss → (p k : ℕ) → Spans W t p → Spans W t k → Inside s p → Inside s k
      → ltb (height M t p) (height M s p) ≡ ltb (height M t k) (height M s k)
  steady t m p k tp tk ip ik = go (clear t m)
    where
      self : (j : ℕ) → ltb (height M s j) (height M s j) ≡ false
      self j = le-ltb (height M s j) (height M s j) (omega arith)

      go : (t ≡ s) ⊎ (¬ (Touch s t)) → ltb (height M t p) (height M s p) ≡ ltb (height M t k) (height M s k)
      go (inl e) = rw e (self p ∙ sym (self k))
      go (inr free) = same-order M scale s t free p k (omega arith) (omega arith) tp tk ip ik

  -- column x + 1 lies inside s, and s has the height η there
  module _ (x : ℕ) (from : s.a.x ≤ x) (upto : suc x < s.b.x) where
    abbrev η : ℕ
    η = height M s (2 * suc x)

    before-it : (t : Segment) → t ∈ ss → from_left M (suc x) η t ≡ under M s x t
    before-it t m =
        ap (λ b. b && ltb (height M t (2 * suc x)) η) (reaches-covers x t)
        ∙ and_same (covers x t) (λ h. let at = covers-spans x t (chart.small t m) h in
        steady t m (2 * suc x) (2 * x + 1) at.2 at.1 (omega arith) (omega arith))

    after-it : (t : Segment) → t ∈ ss → to_right M (suc x) η t ≡ under M s (suc x) t
    after-it t m =
        and_same (covers (suc x) t) (λ h. let at = covers-spans (suc x) t (chart.small t m) h in
        steady t m (2 * suc x) (2 * suc x + 1) at.0 at.1 (omega arith) (omega arith))

    none-across : (t : Segment) → t ∈ ss → across M (suc x) η t ≡ false
    none-across t m =
        is_false _ (λ e. let h = (across-is M (suc x) η t).0 e in never h.0 h.1 h.2 h.3 (clear t m))
      where
        -- it would touch s, which is not vertical
        never : t.a.x ≡ suc x → t.b.x ≡ suc x → 2 * M * t.a.y < η → η ≤ 2 * M * t.b.y
            → (t ≡ s) ⊎ (¬ (Touch s t)) → ⊥
        never left right lo hi (inl e) = omega (arith, ap (λ u. u.a.x) e)
        never left right lo hi (inr free) =
            let up : t.a.y < t.b.y = lt_of_mul-lt-mul_left (2 * M) (omega arith) in
            free (touch-upright M scale s t (suc x) (omega arith) (omega arith) left right up (omega arith) hi)

    step : count (under M s x) ss % 2 ≡ count (under M s (suc x)) ss % 2
    step =
        let left = count-ext (from_left M (suc x) η) (under M s x) ss before-it in
        let right = count-ext (to_right M (suc x) η) (under M s (suc x)) ss after-it in
        let none = count-off (across M (suc x) η) ss none-across in
        omega (arith, column M scale chart (suc x) η)

  -- n strips right of the first
  steps : (n c : ℕ) → s.a.x + n ≡ c → c < s.b.x
      → count (under M s c) ss % 2 ≡ count (under M s s.a.x) ss % 2
  steps zero c e h = ap (λ z. count (under M s z) ss % 2) (omega arith)
  steps (suc n) c e h =
      let last : c ≡ suc (s.a.x + n) = omega arith in
      ap (λ z. count (under M s z) ss % 2) last
      ∙ sym (step (s.a.x + n) (omega arith) (omega arith)) ∙ steps n (s.a.x + n) refl (omega arith)

  from_first : (c : ℕ) → covers c s ≡ true → count (under M s c) ss % 2 ≡ count (under M s s.a.x) ss % 2
  from_first c h = let at = (covers-is c s).0 h in steps (c - s.a.x) c (omega arith) (omega arith)

  -- ---- with s itself

  split : (x : ℕ) → covers x s ≡ true → (t : Segment) → t ∈ ss
      → ind (up_to M s x t) ≡ ind (under M s x t) + ind (is_segment s t)
  split x hx t m = go (is_segment s t) (covers x t) refl refl
    where
      differ : is_segment s t ≡ false → covers x t ≡ true → (t ≡ s) ⊎ (¬ (Touch s t)) → key M s x ≢ key M t x
      differ other h (inl e) = absurd (true≢false (sym (ap (is_segment s) e ∙ is_segment-refl s) ∙ other))
      differ other h (inr free) =
          keys-differ M scale s t free x (covers-spans x s small hx).1 (covers-spans x t (chart.small t m) h).1

      go : (a b : Bool) → is_segment s t ≡ a → covers x t ≡ b
          → ind (b && leb (key M t x) (key M s x)) ≡ ind (b && ltb (key M t x) (key M s x)) + ind a
      go true true e h =
          let level = ap (λ u. key M u x) (is_segment-true s t e) in
          rw (le-leb (key M t x) (key M s x) (omega arith), le-ltb (key M t x) (key M s x) (omega arith)) refl
      go true false e h = absurd (true≢false (sym (ap (covers x) (is_segment-true s t e) ∙ hx) ∙ h))
      go false true e h =
          let apart = differ e h (clear t m) in
          rw (leb-ltb (key M t x) (key M s x) (omega arith)) (omega arith)
      go false false e h = refl

  pub up_to-under : (x : ℕ) → covers x s ≡ true
      → count (up_to M s x) ss ≡ count (under M s x) ss + count (is_segment s) ss
  up_to-under x hx = sum-ext _ _ ss (split x hx) ∙ sum-add (λ t. ind (under M s x t)) (λ t. ind (is_segment s t)) ss

  pub up_to-strips : (x z : ℕ) → covers x s ≡ true → covers z s ≡ true
      → odd (count (up_to M s x) ss) ≡ odd (count (up_to M s z) ss)
  up_to-strips x z hx hz =
      odd-same (count (up_to M s x) ss) (count (up_to M s z) ss)
      (omega (arith, up_to-under x hx, up_to-under z hz, from_first x hx, from_first z hz))
