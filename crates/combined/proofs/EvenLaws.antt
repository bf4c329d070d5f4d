-- Even corners: the kept segments of charts laid over each other end in an even number at every point, and so are a
-- chart. It is given that left and right of every column f of the charts' parities is the parity of the kept ones,
-- below any height. With the vertical ones across, the column lemma then holds of them, so an even number of their ends
-- lie on a column below any height; and those up to a point are those below it and those at it.
--     column-even     where the column lemma holds at every column and height, an even number end at every point
--     kept-even       so of the kept segments
--     kept-upright    the counted mark of a vertical segment over them is f of its left sides
--     kept-sound      they are a sound chart
-- Assumes nothing.
use mathlib.Core.Path.{◌≡◌, refl, sym, ap, ap₂, ◌∙◌}
use mathlib.Core.Logic.{inl, inr}
use mathlib.Core.Bool.{Bool, true, false, ◌&&◌}
use mathlib.Core.List.{List}
use Prim.Native.Nat.{ℕ, suc, ◌+◌, ◌*◌, ◌<◌}
use lib.Dec.{ltb, eqb}
use native.Mathlib.Nat.{mul-lt-mul_of_pos_left}
use native.Mathlib.Omega.{arith}
use borrow.Author.Tests.{eqb-true, lt-ltb, le-ltb, eq-eqb, ne_eqb}
use Rattle.counts.specs.Count.{◌∈◌, ind, sum, count, odd, Even, ◌⊕◌}
use Rattle.counts.proofs.TestLaws.{xor_self, Side, less, equal, more, side}
use Rattle.counts.proofs.SumLaws.{sum-ext, sum-add, sum-parity}
use Rattle.counts.proofs.CountLaws.{keep-mem}
use Rattle.counts.proofs.ParityLaws.{odd-plus, odd-off}
use Rattle.plane.specs.declared.Point.{Point}
use Rattle.plane.specs.declared.Segment.{Segment}
use Rattle.plane.specs.Points.{same, Forward}
use Rattle.plane.specs.Columns.{vertical, ends_at}
use Rattle.plane.proofs.Heights.{Scale}
use Rattle.plane.proofs.PointLaws.{Before, before-true}
use Rattle.record.specs.declared.Record.{Record}
use Rattle.region.proofs.Charts.{EvenChart, SoundChart, Clear, upper, from_left, to_right, across}
use Rattle.region.proofs.EndLaws.{one_end}
use Rattle.region.proofs.ColumnLemma.{end_below, at-column}
use Rattle.region.proofs.UprightLaws.{upper-left}
use Rattle.combined.specs.Kept.{upper_sides, keeps}
use Rattle.combined.proofs.Overlay.{Overlay, odd_in, kept_in}
use Rattle.combined.proofs.OwnLaws.{own-forward, own-small}
use Rattle.combined.proofs.VerticalLaws.{upright-upper, across-kept}

module _ {W : ℕ} (M : ℕ) (scale : Scale W M) where
  -- what lies at or below p on its column is p or lies below it
  one_more : (p q : Point)
      → ind (end_below M p.x (suc (2 * M * p.y)) q) ≡ ind (end_below M p.x (2 * M * p.y) q) + ind (same q p)
  one_more p q = go (2 * M * q.y) (2 * M * p.y) refl refl (eqb q.x p.x) (side q.y p.y)
    where
      go : (m n : ℕ) → 2 * M * q.y ≡ m → 2 * M * p.y ≡ n → (b : Bool) → Side q.y p.y
          → ind (b && ltb m (suc n)) ≡ ind (b && ltb m n) + ind (b && eqb q.y p.y)
      go m n e g false s = refl
      go m n e g true (less l) =
          let h = mul-lt-mul_of_pos_left {k = 2 * M} l (omega (arith, scale.positive)) in
          rw (lt-ltb m (suc n) (omega arith), lt-ltb m n (omega arith), ne_eqb q.y p.y (omega arith)) refl
      go m n e g true (equal l) =
          let h = ap (λ k. 2 * M * k) l in
          rw (lt-ltb m (suc n) (omega arith), le-ltb m n (omega arith), eq-eqb q.y p.y l) refl
      go m n e g true (more l) =
          let h = mul-lt-mul_of_pos_left {k = 2 * M} l (omega (arith, scale.positive)) in
          rw (le-ltb m (suc n) (omega arith), le-ltb m n (omega arith), ne_eqb q.y p.y (omega arith)) refl

  module _ {ss : List Segment} (forward : (t : Segment) → t ∈ ss → Forward t)
      (small : (t : Segment) → t ∈ ss → t.b.x < W)
      (even : (x η : ℕ) → Even (count (from_left M x η) ss + count (to_right M x η) ss + count (across M x η) ss)) where
    abbrev below : ℕ → ℕ → Segment → ℕ
    below x η t = ind (end_below M x η t.a) + ind (end_below M x η t.b)

    even-below : (x η : ℕ) → Even (sum (below x η) ss)
    even-below x η =
        omega (
          arith,
          even x η,
          sum-add (λ t. ind (from_left M x η t)) (λ t. ind (to_right M x η t)) ss,
          sum-add (λ t. ind (from_left M x η t) + ind (to_right M x η t)) (λ t. ind (across M x η t)) ss,
          sum-parity _ _ ss (λ t m. at-column M scale x η t (forward t m) (small t m)),
        )

    pub column-even : (p : Point) → Even (count (ends_at p) ss)
    column-even p =
        omega (
          arith,
          even-below p.x (2 * M * p.y),
          even-below p.x (suc (2 * M * p.y)),
          sum-ext (below p.x (suc (2 * M * p.y))) (λ t. below p.x (2 * M * p.y) t + ind (ends_at p t)) ss
              (λ t m. omega (arith, one_more p t.a, one_more p t.b, one_end p t (forward t m))),
          sum-add (below p.x (2 * M * p.y)) (λ t. ind (ends_at p t)) ss,
        )

-- three numbers of which the third has the parity of the two others together
parities-even : (m n k : ℕ) → odd k ≡ odd m ⊕ odd n → Even (m + n + k)
parities-even m n k e =
    (odd-off (m + n + k)).0 (odd-plus (m + n) k ∙ xor_self (odd (m + n)) (odd k) (odd-plus m n ∙ sym e))

module _ {W : ℕ} (M : ℕ) (scale : Scale W M) {cs : List (List Record)} {us : List Segment} (over : Overlay W cs us)
    (f : List Bool → Bool)
    (right : (x η : ℕ) → odd (count (to_right M x η) (kept_in f cs us)) ≡ f (odd_in (to_right M x η) cs))
    (left : (x η : ℕ) → odd (count (from_left M x η) (kept_in f cs us)) ≡ f (odd_in (from_left M x η) cs)) where
  abbrev ks : List Segment
  ks = kept_in f cs us

  kept_of : (t : Segment) → t ∈ ks → t ∈ us
  kept_of t m = (keep-mem (keeps f cs) us t m).0

  kept-column : (x η : ℕ) → Even (count (from_left M x η) ks + count (to_right M x η) ks + count (across M x η) ks)
  kept-column x η =
      parities-even (count (from_left M x η) ks) (count (to_right M x η) ks) (count (across M x η) ks)
      (across-kept M scale over f x η ∙ sym (ap₂ ◌⊕◌ (left x η) (right x η)))

  pub kept-even : (p : Point) → Even (count (ends_at p) (kept_in f cs us))
  kept-even =
      column-even M scale (λ t m. own-forward over t (kept_of t m)) (λ t m. own-small over t (kept_of t m)) kept-column

  kept-chart : EvenChart W ks
  kept-chart = record {
    forward = λ t m. own-forward over t (kept_of t m);
    small = λ t m. own-small over t (kept_of t m);
    even = kept-even;
  }

  kept-clear : (s : Segment) → s ∈ us → Clear ks s
  kept-clear s m t k = over.clear s m t (kept_of t k)

  pub kept-sound : SoundChart W (kept_in f cs us)
  kept-sound = record { chart = kept-chart; clear = λ s m. kept-clear s (kept_of s m) }

  pub kept-upright : (s : Segment) → s ∈ us → vertical s ≡ true → upper (kept_in f cs us) s ≡ f (upper_sides cs s)
  kept-upright s m v = go (before-true s.a s.b (own-forward over s m))
    where
      upright : s.a.x ≡ s.b.x
      upright = eqb-true _ _ v

      go : Before s.a s.b → upper ks s ≡ f (upper_sides cs s)
      go (inl l) = absurd (omega (arith, upright))
      go (inr l) =
          let lo = mul-lt-mul_of_pos_left {k = 2 * M} l.1 (omega (arith, scale.positive)) in
          upper-left M scale kept-chart s upright (kept-clear s m) (2 * M * s.b.y) lo (omega arith)
          ∙ left s.a.x (2 * M * s.b.y)
          ∙ ap f (sym (upright-upper M scale over s m upright (2 * M * s.b.y) lo (omega arith)))
