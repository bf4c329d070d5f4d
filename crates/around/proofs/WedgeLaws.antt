-- The wedge between a record and the one just before it around their corner: nothing of the chart lies in it, so it is
-- on one side of every part. So a walk keeps what lies on its left.
--     corner-even     a part has an even number of records at each corner
--     wedge           left of e, which is just before j, is what is left of the other half of j
--     next-same       left of the next record of a walk is what is left of the record before
--     departs-left    a record departs exactly if the chart lies on its left
--     next-departs    the next record departs exactly if the one before does
-- Assumes nothing.
use mathlib.Core.Path.{◌≡◌, refl, sym, ap, ap₂, ◌∙◌}
use mathlib.Core.Logic.{◌⊎◌, inl, inr}
use mathlib.Core.Bool.{Bool, true, false, not, cond, ◌&&◌}
use mathlib.Core.List.{List}
use Prim.Native.Nat.{ℕ, ◌+◌, ◌%◌, ◌<◌, ◌≤◌}
use native.Mathlib.Omega.{arith}
use lib.Dec.{ltb, leb, eqb, leb-suc-suc}
use borrow.Author.Tests.{lt-ltb, le-ltb, le-leb, lt-leb, eq-eqb, eqb-true}
use Rattle.counts.specs.Count.{◌∈◌, ind, count, odd, Even, ◌⊕◌}
use Rattle.counts.proofs.TestLaws.{and-true, and_intro, and_same, same_test}
use Rattle.counts.proofs.SumLaws.{sum-ext, sum-add}
use Rattle.counts.proofs.CountLaws.{count-ext, count-off}
use Rattle.counts.proofs.ParityLaws.{odd-same, odd-plus, odd-any}
use Rattle.plane.specs.declared.Point.{Point}
use Rattle.plane.specs.Points.{same}
use Rattle.plane.proofs.PointLaws.{same_true, same_refl}
use Rattle.record.specs.declared.Record.{Record}
use Rattle.record.specs.Records.{marked}
use Rattle.record.specs.Order.{left, other_half}
use Rattle.segment.specs.Segments.{segment, is_record}
use Rattle.segment.proofs.SegmentLaws.{is_record-true, is_record-refl}
use Rattle.region.proofs.ChartLaws.{upper_side-is}
use Rattle.region.proofs.MarkLaws.{marked-is}
use Rattle.around.specs.Departing.{departs}
use Rattle.counts.proofs.JoinedLaws.{and-always, and-never, up-to}
use Rattle.around.proofs.Parts.{Part, Ranked, Before, Next, left_of}
use Rattle.around.proofs.PartLaws.{part-whole, has-mem, has-segment, flip, rank-one}
use Rattle.around.proofs.PartChartLaws.{even-corner}
use Rattle.around.proofs.AroundLaws.{top, around}

module _ {rs : List Record} {rank : Record → ℕ} (ranked : Ranked rs rank) where
  module _ {C : List Record} (part : Part rs C) where
    pub corner-even : (p : Point) → Even (count (λ r. same r.dom p) C)
    corner-even = even-corner ranked part

    abbrev up_to : Point → Record → ℕ
    up_to p e = count (λ r. same r.dom p && leb (rank r) (rank e)) C

    abbrev earlier : Record → ℕ
    earlier j = count (λ r. same r.dom j.dom && ltb (rank r) (rank j)) C

    -- left of one that comes to the corner: without that one itself
    around-back : (j : Record) → j ∈ rs → left_of C (other_half j) ≡ odd (top rs C j.dom + earlier j)
    around-back j m =
        flip ranked part j m
        ∙ ap₂ ◌⊕◌ (around ranked part j m) (sym (odd-any (is_record j) C (part.once j)))
        ∙ sym (odd-plus (top rs C j.dom + up_to j.dom j) (count (is_record j) C))
        ∙ odd-same (top rs C j.dom + up_to j.dom j + count (is_record j) C) (top rs C j.dom + earlier j)
        (omega (arith, itself))
      where
        at-it : (r : Record) → r ∈ C → same r.dom j.dom && eqb (rank r) (rank j) ≡ is_record j r
        at-it r n =
            same_test _ _
            (λ h. let both = and-true (same r.dom j.dom) _ h in
            rw (rank-one ranked r j (part.sub r n) m (eqb-true _ _ both.1)) (is_record-refl j))
            (λ h. rw (is_record-true j r h) (and_intro (same_refl j.dom) (eq-eqb (rank j) (rank j) refl)))

        at-or-before : (b : Bool) (h k : ℕ) → ind (b && leb h k) ≡ ind (b && ltb h k) + ind (b && eqb h k)
        at-or-before b h k = ap (λ t. ind (b && t)) (sym (leb-suc-suc h k)) ∙ up-to b h k

        itself : up_to j.dom j ≡ earlier j + count (is_record j) C
        itself =
            sum-ext _ _ C (λ r n. at-or-before (same r.dom j.dom) (rank r) (rank j)
            ∙ ap (λ b. ind (same r.dom j.dom && ltb (rank r) (rank j)) + ind b) (at-it r n))
            ∙ sum-add (λ r. ind (same r.dom j.dom && ltb (rank r) (rank j))) (λ r. ind (is_record j r)) C

    pub wedge : (e j : Record) → e ∈ rs → j ∈ rs → Before rs rank e j → left_of C e ≡ left_of C (other_half j)
    wedge e j m n b =
        around ranked part e m
        ∙ ap (λ p. odd (top rs C p + up_to p e)) b.at
        ∙ odd-same (top rs C p + up_to p e) (top rs C p + earlier j) (go b.none)
        ∙ sym (around-back j n)
      where
        p : Point
        p = j.dom

        go : ((rank e < rank j) × ((r : Record) → r ∈ rs → r.dom ≡ j.dom → (rank r ≤ rank e) ⊎ (rank j ≤ rank r)))
            ⊎ ((r : Record) → r ∈ rs → r.dom ≡ j.dom → (rank j ≤ rank r) × (rank r ≤ rank e))
            → (top rs C p + up_to p e) % 2 ≡ (top rs C p + earlier j) % 2
        go (inl (l, none)) =
            ap (λ k. (top rs C p + k) % 2) (count-ext _ _ C (λ r k. and_same (same r.dom p) (λ h.
            one r (none r (part.sub r k) (same_true r.dom p h)))))
          where
            one : (r : Record) → (rank r ≤ rank e) ⊎ (rank j ≤ rank r) → leb (rank r) (rank e) ≡ ltb (rank r) (rank j)
            one r (inl h) = le-leb _ _ h ∙ sym (lt-ltb (rank r) (rank j) (omega arith))
            one r (inr h) = lt-leb (rank r) (rank e) (omega arith) ∙ sym (le-ltb _ _ h)
        -- j is the first and e the last: all of them, or none
        go (inr all) =
            omega (
              arith,
              even-corner ranked part p,
              count-ext (λ r. same r.dom p && leb (rank r) (rank e)) (λ r. same r.dom p) C (λ r k.
                  and-always (same r.dom p) _ (λ h. le-leb _ _ (all r (part.sub r k) (same_true r.dom p h)).1)),
              count-off (λ r. same r.dom p && ltb (rank r) (rank j)) C (λ r k.
                  and-never (same r.dom p) _ (λ h. le-ltb _ _ (all r (part.sub r k) (same_true r.dom p h)).0)),
            )

    pub next-same : (r e : Record) → r ∈ rs → e ∈ rs → Next rs rank r e → left_of C e ≡ left_of C r
    next-same r e m n b = wedge e (other_half r) n (ranked.sound.halves r m) b

  -- ---- the chart itself

  pub departs-left : (r : Record) → r ∈ rs → departs r ≡ left_of rs r
  unfolding left_of
  departs-left r m =
      let whole = part-whole ranked in
      let own = has-segment ranked whole r m ∙ (has-mem ranked whole r m).1 m in
      let mark = ap (λ k. eqb k marked) (ranked.sound.counted r m) ∙ marked-is _ ∙ upper_side-is rs (segment r) in
      table (left r) _ _ _ mark own
    where
      table-left : (a u : Bool) → a ≡ u → cond a true false ≡ u
      table-left true u e = e
      table-left false u e = e

      table-right : (u : Bool) → cond u false true ≡ u ⊕ true
      table-right true = refl
      table-right false = refl

      table : (l a u h : Bool) → a ≡ u → h ≡ true → cond a l (not l) ≡ cond l u (u ⊕ h)
      table true a u h e g = table-left a u e
      table false a u h e g = rw (e, g) (table-right u)

  pub next-departs : (r e : Record) → r ∈ rs → e ∈ rs → Next rs rank r e → departs e ≡ departs r
  next-departs r e m n b =
      departs-left e n ∙ next-same (part-whole ranked) r e m n b ∙ sym (departs-left r m)
