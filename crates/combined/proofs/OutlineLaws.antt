-- The outline under f of charts laid over each other: the segments of any of them whose two sides differ under f. In
-- each strip the telescope holds of it: an odd number of the outline lies below a cut exactly where f holds of the
-- charts' own counts there.
--     kept-up_to     at or below one of the segments: f of its upper sides
--     kept-right     below a height at column x, in the strip right of it
--     kept-left      the same in the strip left of it
--     kept-below     below a point, as document 01 counts there
-- f is any function that is false where all are false. Assumes nothing.
use mathlib.Core.Path.{◌≡◌, sym, ap, ap₂, ◌∙◌, subst, fun_ext}
use mathlib.Core.Bool.{Bool, true, false, ◌&&◌}
use mathlib.Core.List.{List, map}
use Prim.Native.Nat.{ℕ, zero, suc, ◌*◌, ◌≤◌}
use native.Mathlib.Omega.{arith}
use lib.Dec.{ltb, leb, leb-suc-suc, leb-suc-zero}
use borrow.Author.Tests.{ltb-true, leb-true, lt-ltb, le-leb}
use Rattle.counts.specs.Count.{◌∈◌, count, any, odd, ◌⊕◌}
use Rattle.counts.proofs.TestLaws.{and-true, and_comm, and_same}
use Rattle.counts.proofs.CountLaws.{count-ext, count-off, count-keep, keep-mem}
use Rattle.counts.proofs.MapLaws.{map-ext}
use Rattle.counts.proofs.TelescopeLaws.{kept, telescope-cut}
use Rattle.plane.specs.declared.Point.{Point}
use Rattle.plane.specs.declared.Segment.{Segment}
use Rattle.plane.specs.Points.{is_segment}
use Rattle.plane.specs.Columns.{covers, below_point}
use Rattle.plane.proofs.Heights.{Scale, height, key}
use Rattle.plane.proofs.ColumnLaws.{reaches-covers}
use Rattle.record.specs.declared.Record.{Record}
use Rattle.region.specs.Boundaries.{below}
use Rattle.region.proofs.Charts.{from_left, to_right, up_to}
use Rattle.region.proofs.ChartLaws.{segments, of_segment-count}
use Rattle.region.proofs.NearestLaws.{below_point-cut}
use Rattle.combined.specs.Kept.{upper_sides, keeps}
use Rattle.combined.proofs.Overlay.{Overlay, odd_in, kept_in}
use Rattle.combined.proofs.OwnLaws.{own-count}
use Rattle.combined.proofs.OverStripLaws.{strip-distinct, strip-order, upper_sides-strip, lower_sides-strip}

lower-too : (m n η : ℕ) → m ≤ n → ltb n η ≡ true → ltb m η ≡ true
lower-too m n η l e = lt-ltb m η (omega (arith, ltb-true n η e))

module _ {W : ℕ} (M : ℕ) (scale : Scale W M) {cs : List (List Record)} {us : List Segment} (over : Overlay W cs us)
    (f : List Bool → Bool) (none : f (map (λ c. false) cs) ≡ false) where
  -- the telescope's sets are the charts, each by its own records
  abbrev has : List Record → Segment → Bool
  has c t = any (is_segment t) (segments c)

  abbrev holds : (List Record → Bool) → Bool
  holds v = f (map v cs)

  -- ---- any cut of the segments over the strip right of column x

  module _ (x : ℕ) where
    own-parities : (D : Segment → Bool)
        → map (λ c. odd (count (λ t. covers x t && D t && has c t) us)) cs
        ≡ odd_in (λ t. covers x t && D t) cs
    own-parities D = map-ext _ _ cs (λ c m. ap odd (own-count over c m (λ t. covers x t && D t)))

    -- at or below s, as the telescope has it
    up_to-next : (s : Segment) → up_to M s x ≡ (λ t. covers x t && ltb (key M t x) (suc (key M s x)))
    up_to-next s = fun_ext (λ t. ap (λ b. covers x t && b) (sym (leb-suc-suc (key M t x) (key M s x))))

    -- what is kept by its two sides is what the telescope keeps
    keeps-is : (t : Segment) → t ∈ us → covers x t ≡ true
        → keeps f cs t ≡ kept us (covers x) (λ s. key M s x) has holds t
    keeps-is t m h =
        ap₂ (λ u l. f u ⊕ f l)
        (upper_sides-strip M scale over x t m h
        ∙ ap (λ q. odd_in q cs) (up_to-next t)
        ∙ sym (own-parities (λ s. ltb (key M s x) (suc (key M t x)))))
        (lower_sides-strip M scale over x t m h ∙ sym (own-parities (λ s. ltb (key M s x) (key M t x))))

    module _ (D : Segment → Bool)
        (down : (s t : Segment) → s ∈ us → t ∈ us → covers x s ≡ true → covers x t ≡ true → key M s x ≤ key M t x
        → D t ≡ true → D s ≡ true) where
      kept-cut : odd (count (λ t. covers x t && D t) (kept_in f cs us))
          ≡ f (odd_in (λ t. covers x t && D t) cs)
      kept-cut =
          ap odd (count-keep (keeps f cs) (λ t. covers x t && D t) us ∙ count-ext _ _ us in-telescope)
          ∙ telescope-cut us (covers x) (λ t. key M t x) D down has holds none (strip-distinct M scale over x)
          ∙ ap f (own-parities D)
        where
          in-telescope : (t : Segment) → t ∈ us
              → keeps f cs t && (covers x t && D t)
              ≡ covers x t && D t && kept us (covers x) (λ s. key M s x) has holds t
          in-telescope t m =
              and_comm (keeps f cs t) (covers x t && D t)
              ∙ and_same (covers x t && D t) (λ h. keeps-is t m (and-true _ _ h).0)

  -- ---- the cuts that are asked for

  pub kept-up_to : (s : Segment) → s ∈ us → (x : ℕ) → covers x s ≡ true
      → odd (count (up_to M s x) (kept_in f cs us)) ≡ f (upper_sides cs s)
  kept-up_to s m x h =
      kept-cut x (λ t. leb (key M t x) (key M s x))
      (λ t u tm um tc uc l e. le-leb (key M t x) (key M s x) (omega (arith, leb-true (key M u x) (key M s x) e)))
      ∙ ap f (sym (upper_sides-strip M scale over x s m h))

  pub kept-right : (x η : ℕ)
      → odd (count (to_right M x η) (kept_in f cs us))
      ≡ f (odd_in (to_right M x η) cs)
  kept-right x η =
      kept-cut x (λ t. ltb (height M t (2 * x)) η)
      (λ s t sm tm sc tc l.
      lower-too (height M s (2 * x)) (height M t (2 * x)) η (strip-order M scale over x s t sm tm sc tc l).0)

  pub kept-left : (x η : ℕ)
      → odd (count (from_left M x η) (kept_in f cs us))
      ≡ f (odd_in (from_left M x η) cs)
  kept-left zero η =
      ap odd (count-off (from_left M 0 η) (kept_in f cs us) (λ t m. never t))
      ∙ sym (ap f (map-ext _ _ cs (λ c m. ap odd (count-off (from_left M 0 η) (segments c) (λ t k. never t)))) ∙ none)
    where
      -- nothing comes from the left to the first column
      never : (t : Segment) → from_left M 0 η t ≡ false
      never t = ap (λ b. b && leb 0 t.b.x && ltb (height M t 0) η) (leb-suc-zero t.a.x)
  kept-left (suc x) η =
      subst (λ q. odd (count q (kept_in f cs us)) ≡ f (odd_in q cs))
      (sym (fun_ext (λ t. ap (λ b. b && ltb (height M t (2 * suc x)) η) (reaches-covers x t))))
      (kept-cut x (λ t. ltb (height M t (2 * suc x)) η)
      (λ s t sm tm sc tc l.
      lower-too (height M s (2 * suc x)) (height M t (2 * suc x)) η (strip-order M scale over x s t sm tm sc tc l).1))

  pub kept-below : (p : Point)
      → odd (count (below_point p) (kept_in f cs us)) ≡ f (map (λ c. odd (below c p)) cs)
  kept-below p =
      ap odd (count-ext _ _ (kept_in f cs us) (λ t m. cut t (keep-mem (keeps f cs) us t m).0))
      ∙ kept-right p.x (2 * M * p.y)
      ∙ ap f (map-ext _ _ cs (λ c m. ap odd (sym (of_segment-count (below_point p) c
      ∙ count-ext _ _ (segments c) (below_point-cut M scale (over.sound c m) p)))))
    where
      cut : (t : Segment) → t ∈ us → below_point p t ≡ to_right M p.x (2 * M * p.y) t
      cut t m = let w = over.owner t m in below_point-cut M scale (over.sound w.0 w.1) p t w.2
