-- A corner of a chart from which everything goes right or up: no segment comes to it from the left or from below.
--     top_below     what a part has from the left at or below it is, by parity, what the part has strictly below it
-- Assumes nothing.
use mathlib.Core.Path.{◌≡◌, refl, sym, ap, ◌∙◌}
use mathlib.Core.Logic.{inl, ◌≢◌}
use mathlib.Core.Bool.{Bool, true, false, not, true≢false}
use mathlib.Core.List.{List}
use Prim.Native.Nat.{ℕ, suc, ◌*◌, ◌<◌, ◌≤◌}
use native.Mathlib.Omega.{arith}
use lib.Dec.{ltb}
use borrow.Author.Tests.{ltb-true, lt-ltb, eq-eqb}
use Rattle.counts.specs.Count.{◌∈◌, any, odd, ◌⊕◌}
use Rattle.counts.proofs.TestLaws.{and-true, and_intro, and_same, is_false, same_test, Side, less, equal, more, side}
use Rattle.counts.proofs.CountLaws.{count-ext}
use Rattle.counts.proofs.HighestLaws.{any_none}
use Rattle.plane.specs.declared.Point.{Point}
use Rattle.plane.specs.declared.Segment.{Segment}
use Rattle.plane.specs.Touching.{within}
use Rattle.plane.specs.Columns.{vertical, reaches, below_point}
use Rattle.plane.proofs.Heights.{Scale, height}
use Rattle.plane.proofs.ScaleLaws.{unit, unit-scale}
use Rattle.plane.proofs.PointLaws.{same_true, before-intro}
use Rattle.plane.proofs.HeightLaws.{height-b}
use Rattle.plane.proofs.SpanLaws.{one-point}
use Rattle.plane.proofs.AboveLaws.{on-is}
use Rattle.plane.proofs.ColumnLaws.{reaches-is, reaches-spans}
use Rattle.record.specs.declared.Record.{Record}
use Rattle.record.specs.Order.{left, other_half}
use Rattle.record.proofs.HalfLaws.{left-other_half}
use Rattle.segment.specs.Segments.{segment}
use Rattle.segment.proofs.SegmentLaws.{segment-left}
use Rattle.chart.proofs.OnceLaws.{sound-proper}
use Rattle.region.specs.Boundaries.{below}
use Rattle.region.proofs.Charts.{SoundChart, from_left, ends_up}
use Rattle.region.proofs.ChartLaws.{segments, room, of_segment-count, segments-mem}
use Rattle.region.proofs.CornerLaws.{corner-below}
use Rattle.region.proofs.NearestLaws.{below_point-cut}
use Rattle.around.proofs.Parts.{Part, Ranked}
use Rattle.around.proofs.AroundLaws.{top}
use Rattle.around.proofs.PartChartLaws.{part-chart, part-single, outside}

-- one more is no more, where they differ
differing : (m n : ℕ) → m ≢ n → ltb m (suc n) ≡ ltb m n
differing m n ne =
    same_test _ _ (λ l. lt-ltb m n (omega (arith, ltb-true m (suc n) l)))
    (λ l. lt-ltb m (suc n) (omega (arith, ltb-true m n l)))

module _ {rs : List Record} {rank : Record → ℕ} (ranked : Ranked rs rank) {C : List Record} (part : Part rs C)
    (p : Point) (r : Record) (m : r ∈ rs) (at : r.dom ≡ p)
    (leaves : (e : Record) → e ∈ rs → e.dom ≡ p → left e ≡ true) where
  abbrev M : ℕ
  M = unit (room rs)

  scale : Scale (room rs) M
  scale = unit-scale (room rs)

  chart : SoundChart (room rs) (segments C)
  chart = part-chart ranked part

  -- the other half of such a segment would be a right half there
  no_end : (t : Segment) → t ∈ segments C → t.b ≡ p → ⊥
  no_end t k e = go (segments-mem C t k)
    where
      go : (e : Record) × (e ∈ C) × (left e ≡ true) × (t ≡ segment e) → ⊥
      go (h, n, l, s) =
          let ends : h.other ≡ p = sym (ap (λ u. u.b) (s ∙ segment-left h l)) ∙ e in
          true≢false (sym (leaves (other_half h) (part.sub _ (part.halves h n)) ends)
          ∙ left-other_half h (sound-proper ranked.sound h (part.sub h n)) ∙ ap not l)

  clear : (t : Segment) → t ∈ segments C → within t p ≡ false
  clear t k = ap (within t) (sym at) ∙ outside ranked part r m t k

  -- and none passes through it: so none comes from the left just to it
  not-level : (t : Segment) → t ∈ segments C → reaches p.x t ≡ true → height M t (2 * p.x) ≡ 2 * M * p.y → ⊥
  unfolding within
  not-level t k h e = go (side p.x t.b.x)
    where
      reach : (t.a.x < p.x) × (p.x ≤ t.b.x)
      reach = (reaches-is p.x t).0 h

      small : t.b.x < room rs
      small = chart.chart.small t k

      go : Side p.x t.b.x → ⊥
      go (less l) =
          let passes = on-is M scale t p (reaches-spans p.x t small h).0 ∙ eq-eqb _ _ e in
          let between = and_intro (before-intro t.a p (inl reach.0)) (before-intro p t.b (inl l)) in
          true≢false (sym (and_intro between passes) ∙ clear t k)
      go (equal l) =
          let end : height M t (2 * p.x) ≡ 2 * M * t.b.y =
          ap (λ x. height M t (2 * x)) l ∙ height-b M scale t (omega (arith, reach)) small
          in
          no_end t k (one-point M scale t.b p (sym l) (sym end ∙ e))
      go (more l) = omega (arith, reach)

  from-left : (t : Segment) → t ∈ segments C
      → from_left M p.x (suc (2 * M * p.y)) t ≡ from_left M p.x (2 * M * p.y) t
  from-left t k = and_same (reaches p.x t) (λ h. differing _ _ (not-level t k h))

  no-upright : any (ends_up p) (segments C) ≡ false
  no-upright =
      (any_none (ends_up p) (segments C)).1 (λ t k. is_false _ (λ h.
      no_end t k (same_true _ _ (and-true (vertical t) _ h).1)))

  pub top_below : odd (top rs C p) ≡ odd (below C p)
  unfolding top
  top_below =
      ap odd (count-ext _ _ (segments C) from-left)
      ∙ agree _ _ (corner-below M scale chart (λ t k. part-single ranked part t) p clear ∙ no-upright)
      ∙ ap odd (sym (of_segment-count (below_point p) C
      ∙ count-ext _ _ (segments C) (below_point-cut M scale chart p)))
    where
      agree : (a b : Bool) → a ⊕ b ≡ false → a ≡ b
      agree true true e = refl
      agree true false e = absurd (true≢false e)
      agree false b e = sym e
