-- What a chart has beside a point d that lies inside none of its segments, below d and level with it. Below a height is
-- below d at η = 2 * M * d.y, and at or below d at η + 1.
--     right-strip     where s starts at d: at or below it, in the strip to the right, lies what goes on below d, and of
--                     what starts at d what is no higher
--     left-strip      where s ends at d: below it, in the strip to the left, lies what comes at or below d, but for
--                     what ends there and is no lower
--     below-corner    what goes on below d, what comes at or below it and what ends there are together an even number
-- Assumes nothing.
use mathlib.Core.Path.{◌≡◌, refl, sym, ap, ◌∙◌}
use mathlib.Core.Logic.{inl, inr}
use mathlib.Core.Bool.{Bool, true, false, ◌&&◌}
use mathlib.Core.List.{List}
use Prim.Native.Nat.{ℕ, suc, ◌+◌, ◌*◌, ◌<◌, ◌≤◌}
use native.Mathlib.Omega.{arith}
use lib.Dec.{ltb, leb}
use borrow.Author.Tests.{le-ltb, eq-eqb, ne_eqb}
use Rattle.counts.specs.Count.{◌∈◌, ind, count, Even}
use Rattle.counts.proofs.TestLaws.{and_same}
use Rattle.counts.proofs.SumLaws.{sum-ext, sum-add}
use Rattle.plane.specs.declared.Point.{Point}
use Rattle.plane.specs.declared.Segment.{Segment}
use Rattle.plane.specs.Points.{same, is_segment}
use Rattle.plane.specs.Touching.{within}
use Rattle.plane.specs.Columns.{vertical, covers, reaches}
use Rattle.plane.proofs.Heights.{Scale, height, key}
use Rattle.plane.proofs.PointLaws.{Before, same_true, before-true}
use Rattle.plane.proofs.HeightLaws.{height-a, height-b}
use Rattle.plane.proofs.ColumnLaws.{reaches-is, covers-spans, reaches-spans, reaches-covers}
use Rattle.region.proofs.Charts.{SoundChart, Clear, from_left, to_right, across, under, up_to}
use Rattle.region.proofs.ColumnLemma.{column}
use Rattle.region.proofs.CornerLaws.{across-ends}
use Rattle.counts.proofs.JoinedLaws.{up-to, parted}
use Rattle.around.proofs.LevelAtLaws.{starts, ends}
use Rattle.around.proofs.KeyLaws.{no-higher, no_lower}

module _ {W : ℕ} (M : ℕ) (scale : Scale W M) {ss : List Segment} (sound : SoundChart W ss)
    (single : (t : Segment) → t ∈ ss → count (is_segment t) ss ≤ 1) (d : Point)
    (outside : (t : Segment) → t ∈ ss → within t d ≡ false) where
  abbrev c : ℕ
  c = d.x

  abbrev η : ℕ
  η = 2 * M * d.y

  module _ (s : Segment) (slanted : s.a.x < s.b.x) (small : s.b.x < W) (clear : Clear ss s) where
    pub right-strip : s.a ≡ d → count (up_to M s c) ss
        ≡ count (to_right M c η) ss + count (λ t. covers c t && same t.a d && leb (key M t c) (key M s c)) ss
    right-strip start =
        sum-ext _ _ ss (λ t m. one t m (covers c t) refl)
        ∙ sum-add (λ t. ind (to_right M c η t))
        (λ t. ind (covers c t && same t.a d && leb (key M t c) (key M s c))) ss
      where
        one : (t : Segment) → t ∈ ss → (b : Bool) → covers c t ≡ b → ind (b && leb (key M t c) (key M s c))
            ≡ ind (b && ltb (height M t (2 * c)) η) + ind (b && same t.a d && leb (key M t c) (key M s c))
        one t m true h =
            let spans = covers-spans c t (sound.chart.small t m) h in
            let column = ap (λ p. p.x) start in
            rw (← (starts M scale sound.chart d outside t m h)) (no-higher M scale s t (clear t m) c (2 * c) η
            (omega arith) spans.0 (omega arith) spans.1
            (ap (λ p. height M s (2 * p.x)) (sym start) ∙ height-a M scale s slanted small
            ∙ ap (λ p. 2 * M * p.y) start))
        one t m false h = refl

    pub left-strip : s.b ≡ d → (z : ℕ) → c ≡ suc z
        → count (under M s z) ss + count (λ t. reaches c t && same t.b d && leb (key M s z) (key M t z)) ss
        ≡ count (from_left M c (suc η)) ss
    left-strip end z e =
        sym (sum-add (λ t. ind (under M s z t))
        (λ t. ind (reaches c t && same t.b d && leb (key M s z) (key M t z))) ss)
        ∙ sum-ext _ _ ss (λ t m. rw (← (strip t)) (one t m (reaches c t) refl))
      where
        strip : (t : Segment) → reaches c t ≡ covers z t
        strip t = ap (λ n. reaches n t) e ∙ reaches-covers z t

        one : (t : Segment) → t ∈ ss → (b : Bool) → reaches c t ≡ b
            → ind (b && ltb (key M t z) (key M s z)) + ind (b && same t.b d && leb (key M s z) (key M t z))
            ≡ ind (b && ltb (height M t (2 * c)) (suc η))
        one t m true h =
            let at = (reaches-is c t).0 h in
            let spans = reaches-spans c t (sound.chart.small t m) h in
            let column = ap (λ p. p.x) end in
            rw (← (ends M scale sound.chart d outside t m h)) (no_lower M scale s t (clear t m) z (2 * c) η
            (omega arith) spans.0 (omega arith) (omega (arith, at.0, at.1, sound.chart.small t m))
            (ap (λ p. height M s (2 * p.x)) (sym end) ∙ height-b M scale s slanted small
            ∙ ap (λ p. 2 * M * p.y) end))
        one t m false h = refl

  pub below-corner : Even (count (to_right M c η) ss + count (from_left M c (suc η)) ss + count (λ t. same t.b d) ss)
  below-corner =
      omega (
        arith,
        column M scale sound.chart c η,
        sum-ext _ _ ss (λ t m. one t m),
        sum-add (λ t. ind (from_left M c (suc η) t)) (λ t. ind (across M c η t)) ss,
        sum-add (λ t. ind (from_left M c η t)) (λ t. ind (same t.b d)) ss,
      )
    where
      kinds : (t : Segment) → t ∈ ss → same t.b d ≡ true → ind (reaches c t) + ind (vertical t) ≡ 1
      kinds t m e = go (before-true t.a t.b (sound.chart.forward t m))
        where
          column : t.b.x ≡ c
          column = ap (λ p. p.x) (same_true t.b d e)

          go : Before t.a t.b → ind (reaches c t) + ind (vertical t) ≡ 1
          go (inl l) =
              rw ((reaches-is c t).1 (omega (arith, column)), ne_eqb t.a.x t.b.x (omega arith)) refl
          go (inr l) =
              rw (le-ltb t.a.x c (omega (arith, column)), eq-eqb _ _ l.0) refl

      one : (t : Segment) → t ∈ ss
          → ind (from_left M c (suc η) t) + ind (across M c η t) ≡ ind (from_left M c η t) + ind (same t.b d)
      one t m =
          omega (
            arith,
            up-to (reaches c t) (height M t (2 * c)) η,
            ap ind (and_same (reaches c t) (ends M scale sound.chart d outside t m)),
            ap ind (across-ends M scale sound single d outside t m),
            parted (reaches c t) (vertical t) (same t.b d) (kinds t m),
          )
