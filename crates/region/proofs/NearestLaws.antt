-- Lemma A: the segments of a sound chart that are counted below a point are exactly those at or below the nearest one
-- in the strip right of the point's column.
--     NearestIn ss p n     n is counted below p, and no other counted there is higher: document 01's nearest below
--     below_point-cut      counted below p is to go on from its column to the right, below p there
--     counted-higher       of what is counted below p, the higher has the greater key
--     nearest-top          the nearest has the greatest key of all that are counted
--     nearest-one          there is no other nearest
--     nearest-found        none is counted below p, or there is a nearest
--     below_point-up_to    Lemma A
--     below-upper          so, by Lemma B, the number below p is odd exactly if the upper side of the nearest is inside
-- Assumes nothing.
use mathlib.Core.Path.{◌≡◌, refl, sym, ap, ◌∙◌}
use mathlib.Core.Logic.{◌⊎◌, inl, inr}
use mathlib.Core.Bool.{Bool, true, false, ◌&&◌}
use mathlib.Core.List.{List}
use Prim.Native.Nat.{ℕ, ◌+◌, ◌*◌, ◌<◌, ◌≤◌}
use native.Mathlib.Nat.{le_antisymm}
use native.Mathlib.Omega.{arith}
use lib.Dec.{ltb}
use borrow.Author.Tests.{ltb-true, ltb-false, leb-true, lt-ltb, le-ltb, le-leb}
use Rattle.counts.specs.Count.{◌∈◌, count, odd}
use Rattle.counts.proofs.TestLaws.{and-true, and_intro, same_test}
use Rattle.counts.proofs.CountLaws.{count-ext}
use Rattle.counts.proofs.HighestLaws.{Top, highest}
use Rattle.plane.specs.declared.Point.{Point}
use Rattle.plane.specs.declared.Segment.{Segment}
use Rattle.plane.specs.Touching.{Touch}
use Rattle.plane.specs.Columns.{covers, below_point, higher}
use Rattle.plane.proofs.Heights.{Scale, Spans, height, key}
use Rattle.plane.proofs.OrderLaws.{keys-differ}
use Rattle.plane.proofs.ColumnLaws.{covers-spans, below_point-is, below_point-uncovered}
use Rattle.region.proofs.Charts.{SoundChart, upper, to_right, up_to}
use Rattle.region.proofs.SlantLaws.{upper-strip}
use Rattle.region.proofs.HigherLaws.{column-order, higher-key}

pub record NearestIn (ss : List Segment) (p : Point) (n : Segment) : Type 0 where
  pub member : n ∈ ss
  pub counted : below_point p n ≡ true
  pub highest : (t : Segment) → t ∈ ss → below_point p t ≡ true → higher p.x t n ≡ false

module _ {W : ℕ} (M : ℕ) (scale : Scale W M) {ss : List Segment} (sound : SoundChart W ss) (p : Point) where
  -- ---- what is counted

  pub below_point-cut : (t : Segment) → t ∈ ss → below_point p t ≡ to_right M p.x (2 * M * p.y) t
  below_point-cut t m = go (covers p.x t) refl
    where
      go : (b : Bool) → covers p.x t ≡ b → below_point p t ≡ b && ltb (height M t (2 * p.x)) (2 * M * p.y)
      go true c = below_point-is M scale p t (sound.chart.small t m) c
      go false c = below_point-uncovered p t c

  counted-lies : (t : Segment) → t ∈ ss → below_point p t ≡ true
      → (covers p.x t ≡ true) × (height M t (2 * p.x) < 2 * M * p.y)
  counted-lies t m h = let g = and-true _ _ (sym (below_point-cut t m) ∙ h) in (g.0, ltb-true _ _ g.1)

  pub counted-higher : (s t : Segment) → s ∈ ss → t ∈ ss → below_point p s ≡ true → below_point p t ≡ true
      → higher p.x s t ≡ ltb (key M t p.x) (key M s p.x)
  counted-higher s t sm tm sb tb =
      higher-key M scale sound p.x s t sm tm (counted-lies s sm sb).0 (counted-lies t tm tb).0

  -- ---- the nearest

  pub nearest-top : (n : Segment) → NearestIn ss p n → (t : Segment) → t ∈ ss → below_point p t ≡ true
      → key M t p.x ≤ key M n p.x
  nearest-top n near t m h =
      ltb-false _ _ (sym (counted-higher t n m near.member h near.counted) ∙ near.highest t m h)

  pub nearest-one : (n o : Segment) → NearestIn ss p n → NearestIn ss p o → o ≡ n
  nearest-one n o near other = go (sound.clear n near.member o other.member)
    where
      spans : (t : Segment) → NearestIn ss p t → Spans W t (2 * p.x + 1)
      spans t h =
          (covers-spans p.x t (sound.chart.small t h.member) (counted-lies t h.member h.counted).0).1

      go : (o ≡ n) ⊎ (¬ (Touch n o)) → o ≡ n
      go (inl e) = e
      go (inr free) =
          let apart = keys-differ M scale n o free p.x (spans n near) (spans o other) in
          absurd (apart (le_antisymm (nearest-top o other n near.member near.counted)
          (nearest-top n near o other.member other.counted)))

  pub nearest-found : ((t : Segment) → t ∈ ss → below_point p t ≡ false) ⊎ ((n : Segment) × NearestIn ss p n)
  nearest-found = go (highest (below_point p) (λ t. key M t p.x) ss)
    where
      nearest : (n : Top (below_point p) (λ t. key M t p.x) ss) → NearestIn ss p n.it
      nearest n = record {
        member = n.member;
        counted = n.passes;
        highest = λ t m h. counted-higher t n.it m n.member h n.passes ∙ le-ltb _ _ (n.greatest t m h);
      }

      go : ((t : Segment) → t ∈ ss → below_point p t ≡ false) ⊎ Top (below_point p) (λ t. key M t p.x) ss
          → ((t : Segment) → t ∈ ss → below_point p t ≡ false) ⊎ ((n : Segment) × NearestIn ss p n)
      go (inl none) = inl none
      go (inr n) = inr (n.it, nearest n)

  pub below_point-up_to : (n : Segment) → NearestIn ss p n → (t : Segment) → t ∈ ss
      → below_point p t ≡ up_to M n p.x t
  below_point-up_to n near t m =
      same_test (below_point p t) (up_to M n p.x t)
      (λ h. and_intro (counted-lies t m h).0 (le-leb _ _ (nearest-top n near t m h)))
      (λ h. let g = and-true _ _ h in back g.0 (leb-true _ _ g.1))
    where
      -- no higher at the column than n, it lies below p there as n does
      back : covers p.x t ≡ true → key M t p.x ≤ key M n p.x → below_point p t ≡ true
      back c l =
          let lies = counted-lies n near.member near.counted in
          let order = column-order M scale sound p.x n t near.member m lies.0 c l in
          let low : height M t (2 * p.x) < 2 * M * p.y = omega (arith, order.0, lies.1) in
          below_point-cut t m ∙ and_intro c (lt-ltb _ _ low)

  pub below-upper : (n : Segment) → NearestIn ss p n → odd (count (below_point p) ss) ≡ upper ss n
  below-upper n near =
      ap odd (count-ext (below_point p) (up_to M n p.x) ss (below_point-up_to n near))
      ∙ sym (upper-strip M scale sound.chart n (sound.chart.small n near.member) (sound.clear n near.member)
      p.x (counted-lies n near.member near.counted).0)
