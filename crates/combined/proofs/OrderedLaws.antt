-- Laws of `inserted` and `in_order` (specs/Results.antt).
--     in_order-sum, in_order-count, in_order-length, in_order-mem, mem-in_order  what is put into order has the same
--                          members, as often
--     inserted-first, in_order-first   the first of the list stays the first where none precedes it
--     in_order-second      the first of a second list becomes it where it precedes the first list and none of its own
--                          precedes it: what a merge of two lists needs
--     in_order-ascending   where no two have the same ends, each comes strictly after all before it
-- Assumes nothing.
use mathlib.Core.Path.{◌≡◌, refl, sym, ap, ◌∙◌}
use mathlib.Core.Logic.{◌⊎◌, inl, inr}
use mathlib.Core.Bool.{Bool, true, false, cond, true≢false}
use mathlib.Core.List.{List, [], ◌∷◌, ◌++◌}
use mathlib.Core.List.Memᴰ
use Prim.Native.Nat.{ℕ, suc, ◌+◌, ◌≤◌}
use native.Mathlib.Omega.{arith}
use lib.ListN.{length}
use Rattle.counts.specs.Count.{◌∈◌, ind, sum, count}
use Rattle.counts.proofs.TestLaws.{is_false}
use Rattle.counts.proofs.CountLaws.{count-some}
use Rattle.counts.proofs.TallyLaws.{mem-count}
use Rattle.counts.proofs.AscendingLaws.{Ascending}
use Rattle.record.specs.declared.Record.{Record}
use Rattle.record.specs.Order.{Proper, precedes}
use Rattle.record.proofs.OrderLaws.{precedes-trans, precedes-total}
use Rattle.segment.specs.Segments.{is_record}
use Rattle.segment.proofs.SegmentLaws.{is_record-true, is_record-refl}
use Rattle.combined.specs.Results.{inserted, in_order}
use Rattle.combined.proofs.EndsLaws.{same_ends, same_ends-intro}

-- ---- the same members

inserted-sum : (v : Record → ℕ) (r : Record) (es : List Record) → sum v (inserted r es) ≡ v r + sum v es
unfolding inserted sum
inserted-sum v r [] = refl
inserted-sum v r (e ∷ es) = go (precedes e r) (inserted-sum v r es)
  where
    go : (b : Bool) → sum v (inserted r es) ≡ v r + sum v es
        → sum v (cond b (e ∷ inserted r es) (r ∷ e ∷ es)) ≡ v r + (v e + sum v es)
    go true ih = omega arith
    go false ih = refl

pub in_order-sum : (v : Record → ℕ) (rs : List Record) → sum v (in_order rs) ≡ sum v rs
unfolding in_order sum
in_order-sum v [] = refl
in_order-sum v (r ∷ rs) = inserted-sum v r (in_order rs) ∙ ap (λ n. v r + n) (in_order-sum v rs)

pub in_order-count : (q : Record → Bool) (rs : List Record) → count q (in_order rs) ≡ count q rs
in_order-count q = in_order-sum (λ r. ind (q r))

inserted-length : (r : Record) (es : List Record) → length (inserted r es) ≡ suc (length es)
unfolding inserted
inserted-length r [] = refl
inserted-length r (e ∷ es) = go (precedes e r) (inserted-length r es)
  where
    go : (b : Bool) → length (inserted r es) ≡ suc (length es)
        → length (cond b (e ∷ inserted r es) (r ∷ e ∷ es)) ≡ suc (suc (length es))
    go true ih = ap suc ih
    go false ih = refl

pub in_order-length : (rs : List Record) → length (in_order rs) ≡ length rs
unfolding in_order
in_order-length [] = refl
in_order-length (r ∷ rs) = inserted-length r (in_order rs) ∙ ap suc (in_order-length rs)

pub in_order-mem : (rs : List Record) (r : Record) → r ∈ in_order rs → r ∈ rs
in_order-mem rs = mem-count is_record is_record-true is_record-refl (in_order rs) rs (λ q. in_order-count q rs)

pub mem-in_order : (rs : List Record) (r : Record) → r ∈ rs → r ∈ in_order rs
mem-in_order rs = mem-count is_record is_record-true is_record-refl rs (in_order rs) (λ q. sym (in_order-count q rs))

inserted-mem : (r : Record) (es : List Record) (e : Record) → e ∈ inserted r es → (e ≡ r) ⊎ (e ∈ es)
unfolding sum
inserted-mem r es e m =
    Memᴰ.cases_cons
    (mem-count is_record is_record-true is_record-refl (inserted r es) (r ∷ es)
    (λ q. inserted-sum (λ r. ind (q r)) r es) e m)

-- ---- what is written first

pub inserted-first : (r : Record) (es : List Record) → ((e : Record) → e ∈ es → precedes e r ≡ false)
    → inserted r es ≡ r ∷ es
unfolding inserted
inserted-first r [] h = refl
inserted-first r (e ∷ es) h = rw (h e (Memᴰ.head refl))

pub in_order-first : (r : Record) (rs : List Record) → ((e : Record) → e ∈ rs → precedes e r ≡ false)
    → in_order (r ∷ rs) ≡ r ∷ in_order rs
unfolding in_order
in_order-first r rs h = inserted-first r (in_order rs) (λ e m. h e (in_order-mem rs e m))

-- y comes before all of xs, and nothing of ys before y
pub in_order-second : (xs ys : List Record) (y : Record) → ((x : Record) → x ∈ xs → precedes y x ≡ true)
    → ((e : Record) → e ∈ ys → precedes e y ≡ false) → in_order (xs ++ (y ∷ ys)) ≡ y ∷ in_order (xs ++ ys)
unfolding in_order inserted
in_order-second [] ys y h g = in_order-first y ys g
in_order-second (x ∷ xs) ys y h g =
    ap (inserted x) (in_order-second xs ys y (λ e m. h e (Memᴰ.tail m)) g)
    ∙ ap (λ b. cond b (y ∷ inserted x (in_order (xs ++ ys))) (x ∷ y ∷ in_order (xs ++ ys))) (h x (Memᴰ.head refl))

-- ---- strict order

before-or-after : (r e : Record) → Proper r → Proper e → same_ends r e ≡ false → precedes e r ≡ false
    → precedes r e ≡ true
before-or-after r e p q d h = by-test (precedes r e) refl
  where
    by-test : (b : Bool) → precedes r e ≡ b → b ≡ true
    by-test true f = refl
    by-test false f =
        let k = precedes-total r e p q f h in
        absurd (true≢false (sym (same_ends-intro r e (sym k.0) (sym k.1)) ∙ d))

inserted-ascending : (r : Record) (es : List Record) → Proper r → ((e : Record) → e ∈ es → Proper e)
    → ((e : Record) → e ∈ es → same_ends r e ≡ false) → Ascending (λ r e. precedes r e ≡ true) es
    → Ascending (λ r e. precedes r e ≡ true) (inserted r es)
unfolding inserted
inserted-ascending r [] p ps d a = ((λ y m. absurd (Memᴰ.not-nil m)), tt)
inserted-ascending r (e ∷ es) p ps d a =
    go (precedes e r) refl
    (inserted-ascending r es p (λ x m. ps x (Memᴰ.tail m)) (λ x m. d x (Memᴰ.tail m)) a.1)
  where
    go : (b : Bool) → precedes e r ≡ b → Ascending (λ r e. precedes r e ≡ true) (inserted r es)
        → Ascending (λ r e. precedes r e ≡ true) (cond b (e ∷ inserted r es) (r ∷ e ∷ es))
    go true h ih = ((λ y m. by_place (inserted-mem r es y m)), ih)
      where
        by_place : {y : Record} → (y ≡ r) ⊎ (y ∈ es) → precedes e y ≡ true
        by_place (inl g) = ap (precedes e) g ∙ h
        by_place {y} (inr m) = a.0 y m
    go false h ih = ((λ y m. by_place (Memᴰ.cases_cons m)), a)
      where
        first : precedes r e ≡ true
        first = before-or-after r e p (ps e (Memᴰ.head refl)) (d e (Memᴰ.head refl)) h

        by_place : {y : Record} → (y ≡ e) ⊎ (y ∈ es) → precedes r y ≡ true
        by_place (inl g) = ap (precedes r) g ∙ first
        by_place {y} (inr m) =
            precedes-trans r e y p (ps e (Memᴰ.head refl)) (ps y (Memᴰ.tail m)) first (a.0 y m)

pub in_order-ascending : (rs : List Record) → ((r : Record) → r ∈ rs → Proper r)
    → ((r : Record) → count (same_ends r) rs ≤ 1) → Ascending (λ r e. precedes r e ≡ true) (in_order rs)
unfolding in_order sum
in_order-ascending [] p once = tt
in_order-ascending (r ∷ rs) p once =
    inserted-ascending r (in_order rs) (p r (Memᴰ.head refl))
    (λ e m. p e (Memᴰ.tail (in_order-mem rs e m)))
    (λ e m. differ e (in_order-mem rs e m))
    (in_order-ascending rs (λ e m. p e (Memᴰ.tail m)) (λ e. omega (arith, once e)))
  where
    differ : (e : Record) → e ∈ rs → same_ends r e ≡ false
    differ e m =
        is_false (same_ends r e)
        (λ t. omega (arith, once r, ap ind (same_ends-intro r r refl refl), count-some (same_ends r) rs e m t))
