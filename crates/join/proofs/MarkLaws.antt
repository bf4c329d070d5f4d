-- Two charts that were not refused can be combined, so the result is what combined's theorem speaks of.
--     of-both          what holds of the one and of the other holds of each of the two
--     two-together     two regions of which no segment of one touches a segment of the other can be combined
--     joining-none     or, and, and-not are false where both are
--     marks-afresh     so marks by the upper sides, which is what the program writes, are the result's
-- Assumes nothing.
use mathlib.Core.Path.{◌≡◌, refl, sym, ◌∙◌, subst}
use mathlib.Core.Logic.{◌⊎◌, inl, inr}
use mathlib.Core.Bool.{true, false, true≢false}
use mathlib.Core.List.Memᴰ
use mathlib.Core.List.{List, [], ◌∷◌}
use lib.Dec.{ltb}
use lib.IntN.{ℤ}
use Rattle.counts.specs.Count.{◌∈◌}
use Rattle.counts.proofs.TestLaws.{and-true, and_intro, is_false}
use Rattle.counts.proofs.HighestLaws.{any_none}
use Rattle.counts.proofs.ScanLaws.{any-first}
use Rattle.plane.specs.Touching.{touches}
use Rattle.plane.proofs.ContactLaws.{touches-sym}
use Rattle.record.specs.declared.Record.{Record}
use Rattle.record.specs.Records.{record_at, record_count, records}
use Rattle.record.specs.Order.{left}
use Rattle.segment.specs.Segments.{segment}
use Rattle.among.specs.Among.{touched}
use Rattle.chart.specs.Regions.{Sound, Region}
use Rattle.chart.proofs.HalvesLaws.{left-half, touching-off}
use Rattle.chart.proofs.OnceLaws.{sound-proper}
use Rattle.combined.specs.Together.{Together}
use Rattle.combined.proofs.SoundLaws.{sides-marked}
use Rattle.sides.specs.declared.Op.{Op}
use Rattle.sides.specs.declared.Op.TheVariants.{Union, Intersection, Difference}
use Rattle.sides.specs.Operations.{joining}
use Rattle.join.specs.Joinings.{result_of, touches_in, first_touching}
use Rattle.sides.specs.Kept.{side_marked}
use Rattle.join.specs.Steps.{side_result}

-- the test is the same from the other chart
touched-back : {rs es : List Record} → Sound es → ((r : Record) → r ∈ rs → touched es (segment r) ≡ false)
    → (e : Record) → e ∈ es → touched rs (segment e) ≡ false
touched-back {rs} {es} sound off e n = (any_none _ rs).1 (λ r m. is_false _ (λ t.
    let h = left-half es (sound-proper sound) sound.halves e n in
    let meets = touches-sym (segment r) (segment e) ∙ (and-true (left r) _ t).1 in
    let there = subst (λ s. touches (segment r) s ≡ true) (sym h.3) meets in
    true≢false (sym (and_intro h.2 there) ∙ (any_none _ es).0 (off r m) h.0 h.1)))

-- what holds of both
pub of-both : {a b : List ℤ} (P : List ℤ → Type 0) → P a → P b → (s : List ℤ) → s ∈ a ∷ b ∷ [] → P s
of-both {a} {b} P p q s m = go (Memᴰ.cases_cons m)
  where
    last : (s ≡ b) ⊎ (s ∈ []) → P s
    last (inl e) = subst P (sym e) q
    last (inr k) = absurd (Memᴰ.not-nil k)

    go : (s ≡ a) ⊎ (s ∈ b ∷ []) → P s
    go (inl e) = subst P (sym e) p
    go (inr k) = last (Memᴰ.cases_cons k)

-- no segment of the one touches a segment of the other
abbrev Free : List ℤ → List ℤ → Type 0
Free s t = (r : Record) → r ∈ records s → touched (records t) (segment r) ≡ false

module _ (a b : List ℤ) (first : Region a) (second : Region b)
    (apart : ltb (first_touching a b) (record_count a) ≡ false) where
  across : Free a b
  across = (any_none (touches_in b) (records a)).0 (any-first (touches_in b) (record_at a) (record_count a) ∙ apart)

  within : {s : List ℤ} → Region s → Free s s
  within {s} region =
      (touching-off (records s) (sound-proper region.sound) region.sound.halves).1 region.sound.apart

  pub two-together : Together (a ∷ b ∷ [])
  two-together = record {
    regions = λ s m. of-both Region first second s m;
    apart = λ s t m n. of-both (λ s. Free s t)
        (of-both (Free a) (within first) across t n)
        (of-both (Free b) (touched-back second.sound across) (within second) t n) s m;
  }

pub joining-none : (op : Op) → joining op (false ∷ false ∷ []) ≡ false
joining-none Union = refl
joining-none Intersection = refl
joining-none Difference = refl

pub marks-afresh : (op : Op) (a b : List ℤ) → Region a → Region b → ltb (first_touching a b) (record_count a) ≡ false
    → side_result op a b ≡ result_of op a b
unfolding side_marked
marks-afresh op a b first second apart =
    sides-marked (two-together a b first second apart) (joining op) (joining-none op)
