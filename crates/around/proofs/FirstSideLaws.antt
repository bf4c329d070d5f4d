-- The first record around a corner, by document 01's order, and what a part of a chart has beside it.
--     lowest         of members that pass a test, one of the least key
--     past-column    a point that is not before another is not in an earlier column
--     rank-past      a record that does not come before another does not start before it
--     first_back     where none of the part comes before a record at its corner, the part's side on the left of the
--                    other half, which arrives there, is the parity of what comes to the corner from the left
--     first_alone, first-back-alone     in the first column of the part, to which nothing of it comes, the part is on
--                    the left of that record exactly if it has it, and on the left of its other half never
-- Assumes nothing.
use mathlib.Core.Path.{◌≡◌, refl, sym, ap, ◌∙◌}
use mathlib.Core.Logic.{◌⊎◌, inl, inr}
use mathlib.Core.Bool.{Bool, true, false, ◌&&◌, true≢false}
use mathlib.Core.List.{List}
use Prim.Native.Nat.{ℕ, ◌-◌, ◌<◌, ◌≤◌}
use native.Mathlib.Omega.{arith}
use lib.Dec.{leb}
use borrow.Author.Tests.{leb-true, le-leb, le-ltb}
use Rattle.counts.specs.Count.{◌∈◌, sum, count, odd, ◌⊕◌}
use Rattle.counts.proofs.TestLaws.{and-true, and_intro, same_test, is_false, lt-or-le}
use Rattle.counts.proofs.SumLaws.{sum-member}
use Rattle.counts.proofs.CountLaws.{count-ext}
use Rattle.counts.proofs.ParityLaws.{odd-plus, odd-any}
use Rattle.counts.proofs.HighestLaws.{Top, highest}
use Rattle.plane.specs.declared.Point.{Point}
use Rattle.plane.specs.Points.{before, same}
use Rattle.plane.proofs.PointLaws.{same_true, same_refl, before-intro}
use Rattle.record.specs.declared.Record.{Record}
use Rattle.record.specs.Order.{other_half}
use Rattle.record.proofs.CaseLaws.{precedes-before}
use Rattle.segment.specs.Segments.{is_record}
use Rattle.segment.proofs.SegmentLaws.{is_record-true, is_record-refl}
use Rattle.among.specs.Among.{has}
use Rattle.around.proofs.Parts.{Part, Ranked, left_of}
use Rattle.around.proofs.PartLaws.{flip, rank-one}
use Rattle.around.proofs.AroundLaws.{top, around, top-none}

pub lowest : {A : Type 0} (p : A → Bool) (key : A → ℕ) (xs : List A) (x : A) → x ∈ xs → p x ≡ true
    → (a : A) × (a ∈ xs) × (p a ≡ true) × ((y : A) → y ∈ xs → p y ≡ true → key a ≤ key y)
lowest {A} p key xs x m h = go (highest p (λ y. sum key xs - key y) xs)
  where
    go : ((y : A) → y ∈ xs → p y ≡ false) ⊎ Top p (λ y. sum key xs - key y) xs
        → (a : A) × (a ∈ xs) × (p a ≡ true) × ((y : A) → y ∈ xs → p y ≡ true → key a ≤ key y)
    go (inl none) = absurd (true≢false (sym h ∙ none x m))
    go (inr a) = (
      a.it,
      a.member,
      a.passes,
      λ y k g.
          omega (arith, a.greatest y k g, sum-member key xs y k, sum-member key xs a.it a.member),
    )

pub past-column : (p q : Point) → before p q ≡ false → q.x ≤ p.x
past-column p q h = go (lt-or-le p.x q.x)
  where
    go : (p.x < q.x) ⊎ (q.x ≤ p.x) → q.x ≤ p.x
    go (inl l) = absurd (true≢false (sym (before-intro p q (inl l)) ∙ h))
    go (inr l) = l

module _ {rs : List Record} {rank : Record → ℕ} (ranked : Ranked rs rank) where
  pub rank-past : (r e : Record) → r ∈ rs → e ∈ rs → rank r ≤ rank e → before e.dom r.dom ≡ false
  rank-past r e m n l =
      is_false _ (λ h. true≢false (sym (precedes-before e r h) ∙ sym (ranked.follows e r n m) ∙ le-ltb _ _ l))

  module _ {C : List Record} (part : Part rs C) (a : Record) (m : a ∈ rs)
      (first : (r : Record) → r ∈ C → r.dom ≡ a.dom → rank a ≤ rank r) where
    -- at or before it there is only the record itself
    only : odd (count (λ r. same r.dom a.dom && leb (rank r) (rank a)) C) ≡ has C a
    only =
        ap odd (count-ext _ (is_record a) C (λ r n. same_test _ _ (to r n) (from r)))
        ∙ odd-any (is_record a) C (part.once a)
      where
        to : (r : Record) → r ∈ C → same r.dom a.dom && leb (rank r) (rank a) ≡ true → is_record a r ≡ true
        to r n h =
            let g = and-true (same r.dom a.dom) _ h in
            let low : rank r ≤ rank a = leb-true _ _ g.1 in
            let one : rank r ≡ rank a = omega (arith, first r n (same_true _ _ g.0)) in
            ap (is_record a) (rank-one ranked r a (part.sub r n) m one) ∙ is_record-refl a

        from : (r : Record) → is_record a r ≡ true → same r.dom a.dom && leb (rank r) (rank a) ≡ true
        from r h =
            rw (is_record-true a r h) (and_intro (same_refl a.dom) (le-leb (rank a) (rank a) (omega arith)))

    -- so on its left is what comes from the left, but for itself
    first-side : left_of C a ≡ odd (top rs C a.dom) ⊕ has C a
    first-side = around ranked part a m ∙ odd-plus (top rs C a.dom) _ ∙ ap (λ b. odd (top rs C a.dom) ⊕ b) only

    pub first_back : left_of C (other_half a) ≡ odd (top rs C a.dom)
    first_back = flip ranked part a m ∙ ap (λ b. b ⊕ has C a) first-side ∙ again (odd (top rs C a.dom)) (has C a)
      where
        again : (b c : Bool) → b ⊕ c ⊕ c ≡ b
        again true true = refl
        again true false = refl
        again false true = refl
        again false false = refl

    module _ (far : (r : Record) → r ∈ C → a.dom.x ≤ r.dom.x) where
      none : odd (top rs C a.dom) ≡ false
      none = ap odd (top-none ranked part a.dom far)

      pub first_alone : left_of C a ≡ has C a
      first_alone = first-side ∙ ap (λ b. b ⊕ has C a) none

      pub first-back-alone : left_of C (other_half a) ≡ false
      first-back-alone = first_back ∙ none
