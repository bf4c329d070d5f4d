-- Numbers that repeat, and that do not.
--     repeated        of more than n numbers below n two are the same
--     listed-once     where f passes a test at one place at most, one of its values in a row does at most
-- Assumes nothing.
use mathlib.Core.Path.{◌≡◌, refl, sym, ap, ◌∙◌}
use mathlib.Core.Bool.{Bool, true, false, cond, true≢false}
use Prim.Native.Nat.{ℕ, zero, suc, ◌+◌, ◌<◌, ◌≤◌, zero-le}
use native.Mathlib.Omega.{arith}
use lib.Dec.{ltb, eqb}
use borrow.Author.Tests.{ltb-true, eqb-true, eqb-false, eq-eqb}
use Rattle.counts.specs.Count.{◌∈◌, ind, sum, count, listed}
use Rattle.counts.specs.Scan.{first_from}
use Rattle.counts.proofs.TestLaws.{is_false}
use Rattle.counts.proofs.CountLaws.{count-off}
use Rattle.counts.proofs.ListedLaws.{listed-mem}
use Rattle.counts.proofs.ScanLaws.{first_from-passes, first_from-none}

abbrev Twice : ℕ → (ℕ → ℕ) → Type 0
Twice n f = (j : ℕ) × (k : ℕ) × (j < k) × (k ≤ n) × (f j ≡ f k)

-- where the last number repeats none, it takes the place of the greatest, and the others repeat one
pub repeated : (n : ℕ) (f : ℕ → ℕ) → ((k : ℕ) → k ≤ n → f k < n) → Twice n f
repeated zero f most = absurd (omega (arith, most 0 (omega arith)))
repeated (suc n) f most = go (ltb (first_from (eqb (f (suc n))) f 0 (suc n)) (suc n)) refl (repeated n)
  where
    other : ℕ → ℕ
    other k = cond (eqb (f k) n) (f (suc n)) (f k)

    go : (b : Bool) → ltb (first_from (eqb (f (suc n))) f 0 (suc n)) (suc n) ≡ b
        → ((g : ℕ → ℕ) → ((k : ℕ) → k ≤ n → g k < n) → Twice n g) → Twice (suc n) f
    go true t ih =
        let l = ltb-true (first_from (eqb (f (suc n))) f 0 (suc n)) (suc n) t in
        let e = first_from-passes (eqb (f (suc n))) f 0 (suc n) zero-le l in
        (first_from (eqb (f (suc n))) f 0 (suc n), suc n, l, omega arith, sym (eqb-true (f (suc n)) _ e))
    go false t ih = back (ih other few)
      where
        new : (k : ℕ) → k ≤ n → f k ≡ f (suc n) → ⊥
        new k l e =
            true≢false
            (sym (eq-eqb (f (suc n)) (f k) (sym e))
            ∙ (first_from-none (eqb (f (suc n))) f 0 (suc n) zero-le).0 t k zero-le (omega arith))

        few : (k : ℕ) → k ≤ n → other k < n
        few k l = at (eqb (f k) n) refl
          where
            at : (b : Bool) → eqb (f k) n ≡ b → cond b (f (suc n)) (f k) < n
            at true e = under (f (suc n)) (most (suc n) (omega arith)) (λ g. new k l (eqb-true _ _ e ∙ sym g))
              where
                under : (m : ℕ) → m < suc n → (m ≡ n → ⊥) → m < n
                under m h g = omega arith
            at false e = omega (arith, eqb-false (f k) n e, most k (omega arith))

        back : Twice n other → Twice (suc n) f
        back (j, k, l, h, e) = (j, k, l, omega arith, at (eqb (f j) n) refl (eqb (f k) n) refl e)
          where
            at : (b : Bool) → eqb (f j) n ≡ b → (c : Bool) → eqb (f k) n ≡ c
                → cond b (f (suc n)) (f j) ≡ cond c (f (suc n)) (f k) → f j ≡ f k
            at true p true q g = eqb-true _ _ p ∙ sym (eqb-true _ _ q)
            at true p false q g = absurd (new k h (sym g))
            at false p true q g = absurd (new j (omega arith) g)
            at false p false q g = g

pub listed-once : {A : Type 0} (p : A → Bool) (f : ℕ → A) (a k : ℕ)
    → ((i j : ℕ) → a ≤ i → i < j → j < a + k → p (f i) ≡ true → p (f j) ≡ true → ⊥) → count p (listed f a k) ≤ 1
unfolding sum listed
listed-once p f a zero h = omega arith
listed-once {A} p f a (suc k) h =
    at (p (f a)) refl (listed-once p f (suc a) k (λ i j x y z. h i j (omega arith) y (omega arith)))
  where
    at : (b : Bool) → p (f a) ≡ b → count p (listed f (suc a) k) ≤ 1 → ind b + count p (listed f (suc a) k) ≤ 1
    at true t ih = omega (arith, count-off p (listed f (suc a) k) rest)
      where
        rest : (x : A) → x ∈ listed f (suc a) k → p x ≡ false
        rest x m =
            let w = listed-mem f (suc a) k x m in
            is_false _
            (λ g. h a w.0 (omega arith) (omega (arith, w.1)) (omega (arith, w.2)) t (ap p (sym w.3) ∙ g))
    at false t ih = omega arith
