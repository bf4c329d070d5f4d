-- A walk of which every record is in a hole, at its smallest point q: it opens to the left there, and hangs inside what
-- lies below.
--     nearest-there     a segment lies below q
--     nearest-early     the nearest there departs from its smaller end, and that is before q
-- Assumes nothing.
use mathlib.Core.Path.{◌≡◌, refl, sym, ap, ap₂, ◌∙◌}
use mathlib.Core.Logic.{◌⊎◌, inl, inr, ⊎_elim}
use mathlib.Core.Bool.{Bool, true, false, not, cond, true≢false}
use mathlib.Core.List.Memᴰ
use mathlib.Core.List.{List, ◌++◌, map}
use Prim.Native.Nat.{ℕ, ◌≤◌}
use native.Mathlib.Omega.{arith}
use lib.Dec.{eqb}
use borrow.Author.Tests.{le-ltb}
use Rattle.counts.specs.Count.{◌∈◌, any, odd}
use Rattle.counts.proofs.TestLaws.{and-true}
use Rattle.counts.proofs.HighestLaws.{any-member, any_none}
use Rattle.counts.proofs.MapLaws.{map-mem, mem-map}
use Rattle.plane.specs.declared.Point.{Point}
use Rattle.plane.specs.Points.{before, same}
use Rattle.plane.specs.Columns.{below_point}
use Rattle.plane.proofs.PointLaws.{same_true, same_refl}
use Rattle.record.specs.declared.Record.{Record}
use Rattle.record.specs.Records.{marked}
use Rattle.record.specs.Order.{left, other_half}
use Rattle.record.proofs.HalfLaws.{backward}
use Rattle.record.proofs.CaseLaws.{earlier-halves}
use Rattle.record.proofs.OrderLaws.{precedes-intro}
use Rattle.segment.specs.Segments.{segment}
use Rattle.segment.proofs.SegmentLaws.{segment-left}
use Rattle.chart.proofs.OnceLaws.{sound-proper}
use Rattle.region.specs.Boundaries.{below, nearest, counted}
use Rattle.region.proofs.MarkLaws.{nearest-mark, nearest-none}
use Rattle.around.specs.Departing.{departs}
use Rattle.around.proofs.Parts.{Part, Ranked, left_of, Next}
use Rattle.around.proofs.PartLaws.{part-whole, has-mem}
use Rattle.around.proofs.AroundLaws.{top}
use Rattle.around.proofs.WedgeLaws.{departs-left}
use Rattle.around.proofs.FirstSideLaws.{lowest, past-column, first_back, first_alone}
use Rattle.around.proofs.BeforeLaws.{before-exists}
use Rattle.around.proofs.BelowLaws.{below_point-before}
use Rattle.around.proofs.CornerBelowLaws.{top_below}

module _ {rs : List Record} {rank : Record → ℕ} (ranked : Ranked rs rank) (ws : List Record)
    (known : (r : Record) → r ∈ ws → r ∈ rs) (leaves : (r : Record) → r ∈ ws → departs r ≡ true)
    (onward : (r e : Record) → r ∈ ws → e ∈ rs → Next rs rank r e → e ∈ ws)
    (hole : (r : Record) → r ∈ ws
    → (H : List Record) × Part rs H × (r ∈ H)
    × ((e : Record) → e ∈ H → (e ∈ ws) ⊎ (other_half e ∈ ws))
    × ((e : Record) → e ∈ H → departs e ≡ true → left_of H e ≡ false))
    (q : Point) (w : Record) (member : w ∈ ws) (at : w.dom ≡ q)
    (least : (r : Record) → r ∈ ws → before r.dom q ≡ false) where
  -- no record of the walk ends before q either: another of the walk departs there
  either-least : (t : Record) → (t ∈ ws) ⊎ (other_half t ∈ ws) → before t.dom q ≡ false
  either-least t (inl k) = least t k
  either-least t (inr k) =
      let e = before-exists rs rank t (ranked.sound.halves (other_half t) (known _ k)) in
      ap (λ p. before p q) (sym e.2.at) ∙ least e.0 (onward (other_half t) e.0 k e.1 e.2)

  -- z is the first at q of the walk's records and their other halves
  module _ (z : Record) (here : z.dom ≡ q)
      (first : (t : Record) → (t ∈ ws) ⊎ (other_half t ∈ ws) → t.dom ≡ q → rank z ≤ rank t) where
    -- it does not depart: its hole would have it on the wrong side
    not-departs : z ∈ ws → ⊥
    not-departs k = go (hole z k)
      where
        go : (H : List Record) × Part rs H × (z ∈ H)
            × ((e : Record) → e ∈ H → (e ∈ ws) ⊎ (other_half e ∈ ws))
            × ((e : Record) → e ∈ H → departs e ≡ true → left_of H e ≡ false) → ⊥
        go (H, part, m, own, off) =
            true≢false (sym ((has-mem ranked part z (known z k)).1 m)
            ∙ sym (first_alone ranked part z (known z k) (λ r n d. first r (own r n) (d ∙ here)) far)
            ∙ off z m (leaves z k))
          where
            far : (r : Record) → r ∈ H → z.dom.x ≤ r.dom.x
            far r n = past-column r.dom z.dom (ap (before r.dom) here ∙ either-least r (own r n))

    -- so it arrives, and the walk turns there from the first of all records to the last
    module _ (k : other_half z ∈ ws) where
      there : z ∈ rs
      there = ranked.sound.halves (other_half z) (known _ k)

      is-left : left z ≡ true
      is-left = go (left z) refl
        where
          go : (b : Bool) → left z ≡ b → b ≡ true
          go true e = refl
          go false e =
              absurd (true≢false (sym (backward z (sound-proper ranked.sound z there) e)
              ∙ ap (before z.other) here ∙ least (other_half z) k))

      is-first : (t : Record) → t ∈ rs → t.dom ≡ z.dom → rank z ≤ rank t
      is-first t n d =
          let e = before-exists rs rank z there in
          let walked = onward (other_half z) e.0 k e.1 e.2 in
          let last : rank z ≤ rank e.0 = first e.0 (inl walked) (e.2.at ∙ here) in
          ⊎_elim (λ l. absurd (omega (arith, l.0))) (λ all. (all t n d).0) e.2.none

      -- right halves come before left ones
      all_left : (t : Record) → t ∈ rs → t.dom ≡ q → left t ≡ true
      all_left t n d = go (left t) refl
        where
          go : (b : Bool) → left t ≡ b → b ≡ true
          go true e = refl
          go false e =
              let one = d ∙ sym here in
              let before = precedes-intro t z (inr (one, earlier-halves t z (sym e) (sym is-left))) in
              absurd (true≢false (sym before ∙ sym (ranked.follows t z n there) ∙ le-ltb _ _ (is-first t n one)))

      odd-here : odd (below rs q) ≡ true
      odd-here =
          let whole = part-whole ranked in
          sym (ap (λ p. odd (top rs rs p)) here ∙ top_below ranked whole q z there here all_left)
          ∙ sym (first_back ranked whole z there is-first)
          ∙ sym (departs-left ranked (other_half z) (known _ k))
          ∙ leaves (other_half z) k

  odd-below : odd (below rs q) ≡ true
  odd-below =
      let z = lowest (λ t. same t.dom q) rank (ws ++ map other_half ws) w (Memᴰ.append_left _ member) (at-q w at) in
      go z.0 (same_true _ _ z.2) (λ t k e. z.3 t (into t k) (at-q t e)) (Memᴰ.append_cases ws z.1)
    where
      at-q : (t : Record) → t.dom ≡ q → same t.dom q ≡ true
      at-q t e = ap (λ p. same p q) e ∙ same_refl q

      into : (t : Record) → (t ∈ ws) ⊎ (other_half t ∈ ws) → t ∈ ws ++ map other_half ws
      into t (inl k) = Memᴰ.append_left (map other_half ws) k
      into t (inr k) = Memᴰ.append_right ws (mem-map other_half ws (other_half t) k)

      go : (z : Record) → z.dom ≡ q → ((t : Record) → (t ∈ ws) ⊎ (other_half t ∈ ws) → t.dom ≡ q → rank z ≤ rank t)
          → (z ∈ ws) ⊎ (z ∈ map other_half ws) → odd (below rs q) ≡ true
      go z here first (inl k) = absurd (not-departs z here first k)
      go z here first (inr k) =
          let r = map-mem other_half ws z k in
          odd-here z here first (rw r.2 r.1)

  pub nearest-there : (n : Record) × (n ∈ rs) × (nearest rs q n ≡ true)
  nearest-there = go (any (nearest rs q) rs) refl
    where
      go : (b : Bool) → any (nearest rs q) rs ≡ b → (n : Record) × (n ∈ rs) × (nearest rs q n ≡ true)
      go true e = (any-member (nearest rs q) rs).0 e
      go false e =
          let nothing = nearest-none ranked.sound q ((any_none (nearest rs q) rs).0 e) in
          absurd (true≢false (sym odd-below ∙ ap odd nothing))

  pub nearest-early : (n : Record) → n ∈ rs → nearest rs q n ≡ true
      → (departs n ≡ true) × (before n.dom q ≡ true)
  nearest-early n m h = (ap₂ (λ c b. cond c b (not b)) one lies.0, starts)
    where
      lies : (left n ≡ true) × (below_point q (segment n) ≡ true)
      lies = and-true (left n) _ (and-true (counted q n) _ h).0

      one : eqb n.mark marked ≡ true
      one = sym (nearest-mark ranked.sound q n m h) ∙ odd-below

      starts : before n.dom q ≡ true
      starts =
          ap (λ s. before s.a q) (sym (segment-left n lies.0)) ∙ below_point-before q (segment n) lies.1
