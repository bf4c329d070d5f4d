-- Demand 3, first part, over the records of a sound chart and any point: the mark of the nearest segment below says
-- what the number of all segments below says.
--     peak rs p r         how high the segment of r lies in the strip right of p
--     marked-is           a mark that is the counted one is 1 exactly where the number is odd
--     higher_below-peak   of what is counted below p, the higher has the greater peak
--     nearest_in          a nearest record is a left half whose segment is the nearest of the chart's; both ways
--     nearest-one         there is one nearest record at the most
--     nearest-mark        an odd number lies below p exactly if the nearest record has mark 1
--     nearest-none        where no record is the nearest, nothing lies below p
-- Assumes nothing.
use mathlib.Core.Path.{◌≡◌, refl, sym, ap, ◌∙◌}
use mathlib.Core.Logic.{◌⊎◌, inl, inr, ◌↔◌}
use mathlib.Core.Bool.{Bool, true, false, not, cond, ◌&&◌, true≢false}
use mathlib.Core.List.{List}
use Prim.Native.Nat.{ℕ}
use lib.Dec.{ltb, eqb}
use Rattle.counts.specs.Count.{◌∈◌, count, any, odd}
use Rattle.counts.proofs.TestLaws.{and-true, and_intro, and_same, is_false, not-true}
use Rattle.counts.proofs.CountLaws.{count-off}
use Rattle.counts.proofs.HighestLaws.{any_none}
use Rattle.plane.specs.declared.Point.{Point}
use Rattle.plane.specs.declared.Segment.{Segment}
use Rattle.plane.specs.Columns.{counted_for, below_point, higher}
use Rattle.plane.proofs.Heights.{Scale, key}
use Rattle.plane.proofs.ScaleLaws.{unit, unit-scale}
use Rattle.grid.specs.Coordinates.{up}
use Rattle.record.specs.declared.Record.{Record}
use Rattle.record.specs.Records.{marked, unmarked}
use Rattle.record.specs.Order.{left}
use Rattle.segment.specs.Segments.{segment}
use Rattle.chart.specs.Regions.{Sound}
use Rattle.chart.proofs.OnceLaws.{sound-half}
use Rattle.region.specs.Boundaries.{counted, below, higher_below, nearest}
use Rattle.region.proofs.Charts.{SoundChart}
use Rattle.region.proofs.ChartLaws.{segments, of_segment-count, segments-mem, mem-segments, room, sound-chart}
use Rattle.region.proofs.NearestLaws.{NearestIn, counted-higher, nearest-found, below-upper}
use Rattle.region.proofs.NearestLaws as near

pub peak : List Record → Point → Record → ℕ
peak rs p r = key (unit (room rs)) (segment r) p.x

pub marked-is : (b : Bool) → eqb (cond b marked unmarked) marked ≡ b
unfolding up
marked-is true = refl
marked-is false = refl

module _ {rs : List Record} (sound : Sound rs) (p : Point) where
  -- ---- records and their segments

  scale : Scale (room rs) (unit (room rs))
  scale = unit-scale (room rs)

  charted : SoundChart (room rs) (segments rs)
  charted = sound-chart sound

  pub higher_below-peak : (r e : Record) → r ∈ rs → e ∈ rs → counted p r ≡ true
      → higher_below p (segment r) e ≡ counted p e && ltb (peak rs p r) (peak rs p e)
  unfolding peak
  higher_below-peak r e m n h = and_same (counted p e) (λ g.
      let a = and-true (left r) _ h in
      let c = and-true (left e) _ g in
      counted-higher (unit (room rs)) scale charted p (segment e) (segment r)
      (mem-segments rs e n c.0) (mem-segments rs r m a.0) c.1 a.1)

  nearest_in : (r : Record) → r ∈ rs
      → (nearest rs p r ≡ true) ↔ ((left r ≡ true) × NearestIn (segments rs) p (segment r))
  nearest_in r m = (to, from)
    where
      -- a higher segment would be that of a record
      lower : any (higher_below p (segment r)) rs ≡ false → (t : Segment) → below_point p t ≡ true
          → (e : Record) × (e ∈ rs) × (left e ≡ true) × (t ≡ segment e) → higher p.x t (segment r) ≡ false
      lower none t g (e, n, l, u) =
          is_false _ (λ h. true≢false (sym (and_intro (and_intro l (rw u at g)) (rw u at h))
          ∙ (any_none (higher_below p (segment r)) rs).0 none e n))

      to : nearest rs p r ≡ true → (left r ≡ true) × NearestIn (segments rs) p (segment r)
      to h =
          let both = and-true (counted p r) _ h in
          let half = and-true (left r) _ both.0 in (
            half.0,
            record {
              member = mem-segments rs r m half.0;
              counted = half.1;
              highest = λ t k g. lower (not-true _ both.1) t g (segments-mem rs t k);
            },
          )

      from : (left r ≡ true) × NearestIn (segments rs) p (segment r) → nearest rs p r ≡ true
      from (l, n) =
          and_intro (and_intro l n.counted) (ap not ((any_none (higher_below p (segment r)) rs).1 none))
        where
          none : (e : Record) → e ∈ rs → higher_below p (segment r) e ≡ false
          none e k = is_false _ (λ t.
              let a = and-true (counted p e) _ t in
              let b = and-true (left e) _ a.0 in
              true≢false (sym a.1 ∙ n.highest (segment e) (mem-segments rs e k b.0) b.1))

  -- ---- the nearest record

  pub nearest-one : (r e : Record) → r ∈ rs → e ∈ rs → nearest rs p r ≡ true → nearest rs p e ≡ true → e ≡ r
  nearest-one r e m n h g =
      let a = (nearest_in r m).0 h in
      let b = (nearest_in e n).0 g in
      sound-half sound e r n m (b.0 ∙ sym a.0) (near.nearest-one (unit (room rs)) scale charted p _ _ a.1 b.1)

  pub nearest-mark : (r : Record) → r ∈ rs → nearest rs p r ≡ true → odd (below rs p) ≡ eqb r.mark marked
  nearest-mark r m h =
      ap odd (of_segment-count (below_point p) rs)
      ∙ below-upper (unit (room rs)) scale charted p (segment r) ((nearest_in r m).0 h).1
      ∙ ap odd (sym (of_segment-count (counted_for (segment r)) rs))
      ∙ sym (ap (λ k. eqb k marked) (sound.counted r m) ∙ marked-is _)

  pub nearest-none : ((r : Record) → r ∈ rs → nearest rs p r ≡ false) → below rs p ≡ 0
  nearest-none none =
      of_segment-count (below_point p) rs ∙ go (nearest-found (unit (room rs)) scale charted p)
    where
      named : (n : Segment) → NearestIn (segments rs) p n
          → (r : Record) × (r ∈ rs) × (left r ≡ true) × (n ≡ segment r) → ⊥
      named n h (r, m, l, e) = true≢false (sym ((nearest_in r m).1 (l, rw e at h)) ∙ none r m)

      go : ((t : Segment) → t ∈ segments rs → below_point p t ≡ false) ⊎ ((n : Segment) × NearestIn (segments rs) p n)
          → count (below_point p) (segments rs) ≡ 0
      go (inl off) = count-off _ (segments rs) off
      go (inr (n, h)) = absurd (named n h (segments-mem rs n h.member))
