-- The order of two records r and e at a corner, by how they lie there: from just past straight up, counter-clockwise.
--     slant-up, slant-down   of the left halves the one that goes straight up is the last, of the right halves the one
--                            that goes straight down
--     one_up, one_down       there is one of each at the most
--     left-keys              of two left halves that go right, the lower beside the corner is the earlier
--     right-keys             of two right halves that go left, the higher is
-- Assumes nothing.
use mathlib.Core.Path.{◌≡◌, refl, sym, ap, ◌∙◌}
use mathlib.Core.Logic.{◌⊎◌, inl, inr}
use mathlib.Core.Bool.{true, false}
use mathlib.Core.List.{List}
use Prim.Native.Nat.{ℕ, suc, ◌+◌, ◌*◌, ◌<◌, ◌≤◌}
use native.Mathlib.Omega.{arith}
use lib.Dec.{leb}
use borrow.Author.Tests.{lt-ltb}
use Rattle.counts.specs.Count.{◌∈◌}
use Rattle.plane.specs.declared.Segment.{Segment}
use Rattle.plane.specs.Touching.{Touch}
use Rattle.plane.proofs.Heights.{Scale, Spans, key}
use Rattle.plane.proofs.ContactLaws.{touch-sym}
use Rattle.plane.proofs.OrderLaws.{keys-differ}
use Rattle.plane.proofs.RiseLaws.{start-slopes}
use Rattle.record.specs.declared.Record.{Record}
use Rattle.record.specs.Order.{left}
use Rattle.segment.specs.Segments.{segment}
use Rattle.chart.proofs.OnceLaws.{sound-half}
use Rattle.region.proofs.ChartLaws.{room}
use Rattle.region.proofs.AcrossLaws.{across-is, across-one}
use Rattle.around.proofs.Parts.{Ranked}
use Rattle.around.proofs.PartLaws.{part-whole}
use Rattle.around.proofs.PartChartLaws.{segment-in, part_small, part-clear}
use Rattle.around.proofs.SlopeLaws.{scaled, steeper-start, steeper-end, lower-end}
use Rattle.around.proofs.TurnedLaws.{left_less, right-less, one-start, one_end, by_number}

module _ {rs : List Record} {rank : Record → ℕ} (ranked : Ranked rs rank) (M : ℕ) (scale : Scale (room rs) M)
    (r e : Record) (m : r ∈ rs) (n : e ∈ rs) (d : r.dom ≡ e.dom) where
  abbrev t : Segment
  t = segment r

  abbrev s : Segment
  s = segment e

  one-segment : t ≡ s → left r ≡ left e → r ≡ e
  one-segment u h = sound-half ranked.sound r e m n h u

  clear : (t ≡ s) ⊎ (¬ (Touch s t))
  clear = part-clear ranked (part-whole ranked) e n t (segment-in ranked r m)

  one_key : (x : ℕ) → Spans (room rs) t (2 * x + 1) → Spans (room rs) s (2 * x + 1) → key M t x ≡ key M s x → t ≡ s
  one_key x tx sx k = go clear
    where
      go : (t ≡ s) ⊎ (¬ (Touch s t)) → t ≡ s
      go (inl u) = u
      go (inr free) = absurd (keys-differ M scale s t free x sx tx (sym k))

  apart : (x : ℕ) → (key M t x ≡ key M s x → ⊥) → ¬ (Touch s t)
  apart x k = go clear
    where
      go : (t ≡ s) ⊎ (¬ (Touch s t)) → ¬ (Touch s t)
      go (inl u) = absurd (k (ap (λ v. key M v x) u))
      go (inr free) = free

  -- two vertical ones across one height
  one-upright : (η : ℕ) → t.a.x ≡ s.a.x → t.a.x ≡ t.b.x → s.a.x ≡ s.b.x
      → 2 * M * t.a.y < η → η ≤ 2 * M * t.b.y → 2 * M * s.a.y < η → η ≤ 2 * M * s.b.y → t ≡ s
  one-upright η c tu su tl th sl sh =
      across-one M s.a.x η s t (part-clear ranked (part-whole ranked) e n) (segment-in ranked r m)
      ((across-is M s.a.x η s).1 (refl, sym su, sl, sh))
      ((across-is M s.a.x η t).1 (c, sym tu ∙ c, tl, th))

  -- ---- left halves

  module _ (h : left r ≡ true) (g : left e ≡ true) where
    start : t.a ≡ s.a
    start = one-start ranked r e m n d h g

    pub slant-up : t.a.x < t.b.x → s.a.x ≡ s.b.x → s.a.y < s.b.y → rank r < rank e
    slant-up slanted upright up =
        left_less ranked r e m n d h g (steeper-start M scale t s slanted (part_small ranked r m) upright up start)

    pub one_up : t.a.x ≡ t.b.x → t.a.y < t.b.y → s.a.x ≡ s.b.x → s.a.y < s.b.y → r ≡ e
    one_up tu tl su sl =
        let level = ap (λ p. 2 * M * p.y) start in
        one-segment (one-upright (suc (2 * M * s.a.y)) (ap (λ p. p.x) start) tu su (omega arith)
        (omega (arith, scaled M scale _ _ tl)) (omega arith) (omega (arith, scaled M scale _ _ sl)))
        (h ∙ sym g)

    pub left-keys : (x : ℕ) → Spans (room rs) t (2 * x + 1) → Spans (room rs) s (2 * x + 1)
        → leb (rank r) (rank e) ≡ leb (key M t x) (key M s x)
    left-keys x tx sx =
        by_number ranked r e m n d (key M t x) (key M s x)
        (λ l. left_less ranked r e m n d h g
        (start-slopes M scale t s (2 * x + 1) tx sx (omega arith) start ∙ lt-ltb _ _ l))
        (λ k. one-segment (one_key x tx sx k) (h ∙ sym g))
        (λ l. left_less ranked e r n m (sym d) g h
        (start-slopes M scale s t (2 * x + 1) sx tx (omega arith) (sym start) ∙ lt-ltb _ _ l))

  -- ---- right halves

  module _ (h : left r ≡ false) (g : left e ≡ false) where
    end : t.b ≡ s.b
    end = one_end ranked r e m n d h g

    pub slant-down : t.a.x < t.b.x → s.a.x ≡ s.b.x → s.a.y < s.b.y → rank r < rank e
    slant-down slanted upright up =
        right-less ranked r e m n d h g (steeper-end M scale t s slanted (part_small ranked r m) upright up end)

    pub one_down : t.a.x ≡ t.b.x → t.a.y < t.b.y → s.a.x ≡ s.b.x → s.a.y < s.b.y → r ≡ e
    one_down tu tl su sl =
        let level = ap (λ p. 2 * M * p.y) end in
        one-segment (one-upright (2 * M * s.b.y) (tu ∙ ap (λ p. p.x) end ∙ sym su) tu su
        (omega (arith, scaled M scale _ _ tl)) (omega arith) (scaled M scale _ _ sl) (omega arith))
        (h ∙ sym g)

    pub right-keys : (x : ℕ) → Spans (room rs) t (2 * x + 1) → Spans (room rs) s (2 * x + 1)
        → leb (rank r) (rank e) ≡ leb (key M s x) (key M t x)
    right-keys x tx sx =
        by_number ranked r e m n d (key M s x) (key M t x)
        (λ l. right-less ranked r e m n d h g
        (lower-end M scale s t (λ u. apart x (λ k. omega arith) (touch-sym u)) (sym end) x sx tx l))
        (λ k. one-segment (one_key x tx sx (sym k)) (h ∙ sym g))
        (λ l. right-less ranked e r n m (sym d) g h (lower-end M scale t s (apart x (λ k. omega arith)) end x tx sx l))
