-- Of the members that pass a test, one of the greatest key; when some passes, and when at most one does.
--     Top p key xs     a member that passes, of the greatest key among those that do
--     highest          none passes, or there is such a one
--     any-member, any_none     `any` passes exactly if some member does, fails exactly if none does
--     at_most_one      where any two that pass are one, and each member is there once, at most one passes
-- Assumes nothing.
use mathlib.Core.Path.{◌≡◌, refl, sym, ◌∙◌, subst}
use mathlib.Core.Logic.{◌⊎◌, inl, inr, ◌↔◌}
use mathlib.Core.Bool.{Bool, true, false, true≢false}
use mathlib.Core.List.{List, [], ◌∷◌}
use mathlib.Core.List.Memᴰ
use Prim.Native.Nat.{ℕ, ◌<◌, ◌≤◌}
use native.Mathlib.Omega.{arith}
use Rattle.counts.specs.Count.{◌∈◌, ind, count, any}
use Rattle.counts.proofs.TestLaws.{is_false, lt-or-le}
use Rattle.counts.proofs.SumLaws.{sum-le}
use Rattle.counts.proofs.CountLaws.{count-off, count-some, any-is}

pub record Top {A : Type 0} (p : A → Bool) (key : A → ℕ) (xs : List A) : Type 0 where
  pub it : A
  pub member : it ∈ xs
  pub passes : p it ≡ true
  pub greatest : (x : A) → x ∈ xs → p x ≡ true → key x ≤ key it

module _ {A : Type 0} where
  -- what holds of the first and of the rest holds of all
  on-cons : {Q : A → Type 0} (y : A) (ys : List A) → Q y → ((x : A) → x ∈ ys → Q x) → (x : A) → x ∈ y ∷ ys → Q x
  on-cons {Q} y ys q f x m = cases (Memᴰ.cases_cons m)
    where
      cases : (x ≡ y) ⊎ (x ∈ ys) → Q x
      cases (inl e) = subst Q (sym e) q
      cases (inr k) = f x k

  pub highest : (p : A → Bool) (key : A → ℕ) (xs : List A) → ((x : A) → x ∈ xs → p x ≡ false) ⊎ Top p key xs
  highest p key [] = inl (λ x m. absurd (Memᴰ.not-nil m))
  highest p key (y ∷ ys) = go (p y) refl (highest p key ys)
    where
      -- y is the highest, or what was is it still
      pick : p y ≡ true → (t : Top p key ys) → (key t.it < key y) ⊎ (key y ≤ key t.it) → Top p key (y ∷ ys)
      pick e t (inl l) = record {
        it = y;
        member = Memᴰ.head refl;
        passes = e;
        greatest = on-cons {Q = λ x. p x ≡ true → key x ≤ key y} y ys (λ _. omega arith)
            (λ x k h. omega (arith, t.greatest x k h));
      }
      pick e t (inr l) = record {
        it = t.it;
        member = Memᴰ.tail t.member;
        passes = t.passes;
        greatest = on-cons {Q = λ x. p x ≡ true → key x ≤ key t.it} y ys (λ _. l) t.greatest;
      }

      go : (a : Bool) → p y ≡ a → ((x : A) → x ∈ ys → p x ≡ false) ⊎ Top p key ys
          → ((x : A) → x ∈ y ∷ ys → p x ≡ false) ⊎ Top p key (y ∷ ys)
      go true e (inl none) = inr (record {
        it = y;
        member = Memᴰ.head refl;
        passes = e;
        greatest = on-cons {Q = λ x. p x ≡ true → key x ≤ key y} y ys (λ _. omega arith)
            (λ x k h. absurd (true≢false (sym h ∙ none x k)));
      })
      go true e (inr t) = inr (pick e t (lt-or-le (key t.it) (key y)))
      go false e (inl none) = inl (on-cons {Q = λ x. p x ≡ false} y ys e none)
      go false e (inr t) = inr (record {
        it = t.it;
        member = Memᴰ.tail t.member;
        passes = t.passes;
        greatest = on-cons {Q = λ x. p x ≡ true → key x ≤ key t.it} y ys
            (λ h. absurd (true≢false (sym h ∙ e))) t.greatest;
      })

  pub any-member : (p : A → Bool) (xs : List A) → (any p xs ≡ true) ↔ ((x : A) × (x ∈ xs) × (p x ≡ true))
  any-member p xs =
      let h = any-is p xs in
      ((λ t. go (h.0 t) (highest p (λ x. 0) xs)), (λ w. h.1 (count-some p xs w.0 w.1 w.2)))
    where
      go : 0 < count p xs → ((x : A) → x ∈ xs → p x ≡ false) ⊎ Top p (λ x. 0) xs → (x : A) × (x ∈ xs) × (p x ≡ true)
      go l (inl none) = absurd (omega (arith, count-off p xs none))
      go l (inr t) = (t.it, t.member, t.passes)

  pub any_none : (p : A → Bool) (xs : List A) → (any p xs ≡ false) ↔ ((x : A) → x ∈ xs → p x ≡ false)
  any_none p xs = (
    (λ e x m. is_false _ (λ t. true≢false (sym ((any-member p xs).1 (x, m, t)) ∙ e))),
    (λ h. is_false _ (λ t. let w = (any-member p xs).0 t in true≢false (sym w.2 ∙ h w.0 w.1))),
  )

  pub at_most_one : (p : A → Bool) (same : A → A → Bool) (same_refl : (x : A) → same x x ≡ true) (xs : List A)
      → ((x : A) → x ∈ xs → count (λ y. same y x) xs ≤ 1)
      → ((x y : A) → x ∈ xs → y ∈ xs → p x ≡ true → p y ≡ true → x ≡ y) → count p xs ≤ 1
  at_most_one p same same_refl xs single one = go (highest p (λ x. 0) xs)
    where
      go : ((x : A) → x ∈ xs → p x ≡ false) ⊎ Top p (λ x. 0) xs → count p xs ≤ 1
      go (inl none) = omega (arith, count-off p xs none)
      go (inr t) =
          omega (
            arith,
            single t.it t.member,
            sum-le (λ x. ind (p x)) (λ x. ind (same x t.it)) xs (λ x k. at x k (p x) refl),
          )
        where
          at : (x : A) → x ∈ xs → (b : Bool) → p x ≡ b → ind b ≤ ind (same x t.it)
          at x k true e = rw (one x t.it k t.member e t.passes, same_refl) (omega arith)
          at x k false e = omega arith
