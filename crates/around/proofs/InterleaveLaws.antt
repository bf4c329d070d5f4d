-- Around a corner b of a part C that is walked with one and the same side p on its left: where each of its departing
-- records at b is just before one of its own, these pairs have p between them and all else around b has the other side.
--     no-other-visit     so where C passes b, every record at b with p on its left is of C
-- Assumes nothing.
use mathlib.Core.Path.{◌≡◌, refl, sym, ap, ◌∙◌}
use mathlib.Core.Logic.{◌⊎◌, inl, inr, ⊎_elim}
use mathlib.Core.Bool.{Bool, true, false, not, ◌&&◌, true≢false}
use mathlib.Core.List.Memᴰ
use mathlib.Core.List.{List}
use Prim.Native.Nat.{ℕ, ◌+◌, ◌<◌, ◌≤◌}
use lib.Dec.{leb}
use native.Mathlib.Omega.{arith}
use borrow.Author.Tests.{leb-true, le-leb}
use Rattle.counts.specs.Count.{◌∈◌, count, odd, ◌⊕◌}
use Rattle.counts.proofs.TestLaws.{and-true, and_intro, and_same, same_test, is_false}
use Rattle.counts.proofs.CountLaws.{count-ext, count-off}
use Rattle.counts.proofs.HighestLaws.{Top, highest}
use Rattle.counts.proofs.ParityLaws.{odd-same}
use Rattle.plane.specs.declared.Point.{Point}
use Rattle.plane.specs.Points.{same}
use Rattle.plane.proofs.PointLaws.{same_true, same_refl}
use Rattle.record.specs.declared.Record.{Record}
use Rattle.record.specs.Order.{other_half}
use Rattle.among.specs.Among.{has}
use Rattle.around.specs.Departing.{departs}
use Rattle.around.proofs.Parts.{Part, Ranked, Before, left_of}
use Rattle.around.proofs.PartLaws.{one_way, rank-one, has-mem, flip}
use Rattle.around.proofs.AroundLaws.{top, around}
use Rattle.around.proofs.WedgeLaws.{corner-even}

module _ {rs : List Record} {rank : Record → ℕ} (ranked : Ranked rs rank) {C : List Record} (part : Part rs C)
    (p : Bool) (keeps : (r : Record) → r ∈ C → departs r ≡ true → left_of C r ≡ p) (b : Point)
    (paired : (r : Record) → r ∈ C → r.dom ≡ b → departs r ≡ true → (j : Record) × (j ∈ C) × Before rs rank r j) where
  -- an arriving record of the part has the other parity on its left
  arriving : (r : Record) → r ∈ C → departs r ≡ false → left_of C r ≡ p → ⊥
  arriving r m d e = go p (sym back ∙ keeps (other_half r) (part.halves r m) (one_way ranked r k ∙ ap not d))
    where
      k : r ∈ rs
      k = part.sub r m

      back : left_of C (other_half r) ≡ p ⊕ true
      back = flip ranked part r k ∙ ap (λ c. c ⊕ has C r) e ∙ ap (λ c. p ⊕ c) ((has-mem ranked part r k).1 m)

      go : (c : Bool) → c ⊕ true ≡ c → ⊥
      go true h = true≢false (sym h)
      go false h = true≢false h

  module _ (e : Record) (m : e ∈ rs) (at : e.dom ≡ b) (off : e ∈ C → ⊥) (same-side : left_of C e ≡ p) where
    not-e : (r : Record) → r ∈ C → rank r ≡ rank e → ⊥
    not-e r k h = off (Memᴰ.cast (sym (rank-one ranked r e (part.sub r k) m h)) k)

    -- how many of the part are at b, at or before a given rank
    abbrev up_to : ℕ → ℕ
    up_to n = count (λ r. same r.dom b && leb (rank r) n) C

    around-b : (r : Record) → r ∈ rs → r.dom ≡ b → left_of C r ≡ odd (top rs C b + up_to (rank r))
    around-b r k d =
        around ranked part r k
        ∙ ap (λ q. odd (top rs C q + count (λ z. same z.dom q && leb (rank z) (rank r)) C)) d

    -- a record of the part with what e has on its left departs, and then the one just after it is of the part
    clash : (r : Record) → r ∈ C → r.dom ≡ b → odd (top rs C b + up_to (rank e)) ≡ odd (top rs C b + up_to (rank r))
        → ((j : Record) → j ∈ C → j.dom ≡ b → Before rs rank r j → ⊥) → ⊥
    clash r k d level alone = go (departs r) refl
      where
        pair : (j : Record) × (j ∈ C) × Before rs rank r j → ⊥
        pair (j, n, f) = alone j n (sym f.at ∙ d) f

        go : (c : Bool) → departs r ≡ c → ⊥
        go true h = pair (paired r k d h)
        go false h =
            arriving r k h (around-b r (part.sub r k) d ∙ sym level ∙ sym (around-b e m at) ∙ same-side)

    -- r is the last of the part at or before e
    last-before : (r : Record) → r ∈ C → r.dom ≡ b → rank r ≤ rank e
        → ((q : Record) → q ∈ C → q.dom ≡ b → rank q ≤ rank e → rank q ≤ rank r) → ⊥
    last-before r k d l last =
        clash r k d (ap (λ n. odd (top rs C b + n)) (count-ext _ _ C (λ q n. and_same _ (one q n)))) alone
      where
        one : (q : Record) → q ∈ C → same q.dom b ≡ true → leb (rank q) (rank e) ≡ leb (rank q) (rank r)
        one q n h =
            same_test _ _ (λ t. le-leb _ _ (last q n (same_true _ _ h) (leb-true _ _ t)))
            (λ t. le-leb (rank q) (rank e) (omega (arith, leb-true (rank q) (rank r) t)))

        alone : (j : Record) → j ∈ C → j.dom ≡ b → Before rs rank r j → ⊥
        alone j n g f =
            ⊎_elim (λ h. which h.0 (h.1 e m (at ∙ sym g))) (λ h. not-e r k (omega (arith, h e m (at ∙ sym g))))
            f.none
          where
            which : rank r < rank j → (rank e ≤ rank r) ⊎ (rank j ≤ rank e) → ⊥
            which lj (inl h) = not-e r k (omega arith)
            which lj (inr h) = omega (arith, last j n g h)

    -- there is none, and r is the last of the part
    last-of-all : ((q : Record) → q ∈ C → q.dom ≡ b → rank q ≤ rank e → ⊥) → (r : Record) → r ∈ C → r.dom ≡ b
        → ((q : Record) → q ∈ C → q.dom ≡ b → rank q ≤ rank r) → ⊥
    last-of-all nobody r k d last = clash r k d level alone
      where
        none : up_to (rank e) ≡ 0
        none =
            count-off _ C (λ q n. is_false _ (λ t.
            let h = and-true _ _ t in
            nobody q n (same_true _ _ h.0) (leb-true _ _ h.1)))

        every : up_to (rank r) ≡ count (λ q. same q.dom b) C
        every =
            count-ext _ _ C (λ q n. same_test _ _ (λ t. (and-true _ _ t).0)
            (λ t. and_intro t (le-leb _ _ (last q n (same_true _ _ t)))))

        -- all at the corner, an even number, or none: it is the same
        level : odd (top rs C b + up_to (rank e)) ≡ odd (top rs C b + up_to (rank r))
        level =
            odd-same (top rs C b + up_to (rank e)) (top rs C b + up_to (rank r))
            (omega (arith, none, every, corner-even ranked part b))

        alone : (j : Record) → j ∈ C → j.dom ≡ b → Before rs rank r j → ⊥
        alone j n g f =
            ⊎_elim (λ h. omega (arith, h.0, last j n g)) (λ h. nobody j n g (h e m (at ∙ sym g)).0) f.none

    pub no-other-visit : (c : Record) → c ∈ C → c.dom ≡ b → ⊥
    no-other-visit c k d = go (highest (λ r. same r.dom b && leb (rank r) (rank e)) rank C)
      where
        at_b : (r : Record) → r.dom ≡ b → same r.dom b ≡ true
        at_b r h = rw h (same_refl b)

        all : ((r : Record) → r ∈ C → same r.dom b && leb (rank r) (rank e) ≡ false)
            → ((r : Record) → r ∈ C → same r.dom b ≡ false) ⊎ Top (λ r. same r.dom b) rank C → ⊥
        all nobody (inl none) = true≢false (sym (at_b c d) ∙ none c k)
        all nobody (inr t) =
            last-of-all (λ q n h l. true≢false (sym (and_intro (at_b q h) (le-leb _ _ l)) ∙ nobody q n))
            t.it t.member (same_true _ _ t.passes) (λ q n h. t.greatest q n (at_b q h))

        go : ((r : Record) → r ∈ C → same r.dom b && leb (rank r) (rank e) ≡ false)
            ⊎ Top (λ r. same r.dom b && leb (rank r) (rank e)) rank C → ⊥
        go (inl nobody) = all nobody (highest (λ r. same r.dom b) rank C)
        go (inr t) =
            let h = and-true _ _ t.passes in
            last-before t.it t.member (same_true _ _ h.0) (leb-true _ _ h.1)
            (λ q n g l. t.greatest q n (and_intro (at_b q g) (le-leb _ _ l)))
