-- The segments of charts laid over each other, and those of one of the charts among them.
--     own-forward, own-small    each has its smaller end first, and lies before column W
--     clear_of                  each is clear of every chart
--     own-count                 counting those that a chart has is counting the chart's own: the chart has each once,
--                               and each is once among them
-- Assumes nothing.
use mathlib.Core.Path.{◌≡◌, sym, ap, ◌∙◌}
use mathlib.Core.Bool.{Bool, true, false, ◌&&◌}
use mathlib.Core.List.{List}
use Prim.Native.Nat.{ℕ, ◌*◌, ◌<◌}
use native.Mathlib.Omega.{arith}
use Rattle.counts.specs.Count.{◌∈◌, ind, count, any}
use Rattle.counts.proofs.TestLaws.{same_test}
use Rattle.counts.proofs.SumLaws.{sum-ext}
use Rattle.counts.proofs.CountLaws.{count-ext, count-some, count-any}
use Rattle.counts.proofs.FibreLaws.{matched}
use Rattle.plane.specs.declared.Segment.{Segment}
use Rattle.plane.specs.Points.{Forward, is_segment}
use Rattle.plane.proofs.PointLaws.{is_segment-true, is_segment-refl}
use Rattle.record.specs.declared.Record.{Record}
use Rattle.region.proofs.Charts.{Clear}
use Rattle.region.proofs.ChartLaws.{segments}
use Rattle.combined.proofs.Overlay.{Overlay}

is_segment-swap : (s t : Segment) → is_segment s t ≡ is_segment t s
is_segment-swap s t =
    same_test (is_segment s t) (is_segment t s)
    (λ e. ap (λ u. is_segment u s) (is_segment-true s t e) ∙ is_segment-refl s)
    (λ e. ap (λ u. is_segment u t) (is_segment-true t s e) ∙ is_segment-refl t)

module _ {W : ℕ} {cs : List (List Record)} {us : List Segment} (over : Overlay W cs us) where
  pub own-forward : (t : Segment) → t ∈ us → Forward t
  own-forward t m = let w = over.owner t m in (over.sound w.0 w.1).chart.forward t w.2

  pub own-small : (t : Segment) → t ∈ us → t.b.x < W
  own-small t m = let w = over.owner t m in (over.sound w.0 w.1).chart.small t w.2

  pub clear_of : (s : Segment) → s ∈ us → (c : List Record) → c ∈ cs → Clear (segments c) s
  clear_of s m c k t n = over.clear s m t (over.all c k t n)

  module _ (c : List Record) (member : c ∈ cs) where
    -- a segment of the chart is once among all
    there-once : (s : Segment) → s ∈ segments c → count (λ t. is_segment t s) us ≡ 1
    there-once s m =
        omega (
          arith,
          count-ext (λ t. is_segment t s) (is_segment s) us (λ t k. is_segment-swap t s),
          over.once s,
          count-some (is_segment s) us s (over.all c member s m) (is_segment-refl s),
        )

    -- and the chart has a segment once or not at all
    had-once : (a : Bool) (t : Segment)
        → ind (a && any (is_segment t) (segments c)) ≡ ind a * count (is_segment t) (segments c)
    had-once true t = sym (count-any (is_segment t) (segments c) (over.single c member t)) ∙ omega arith
    had-once false t = omega arith

    pub own-count : (q : Segment → Bool) → count (λ t. q t && any (is_segment t) (segments c)) us ≡ count q (segments c)
    own-count q =
        sum-ext _ _ us (λ t m. had-once (q t) t)
        ∙ matched is_segment (λ t. ind (q t)) (λ s. ind (q s))
        (λ t s e. ap (λ u. ind (q u)) (sym (is_segment-true t s e))) us (segments c)
        ∙ sum-ext _ _ (segments c) (λ s m. ap (λ n. ind (q s) * n) (there-once s m) ∙ omega arith)
