-- A loop that keeps the topmost so far: of f 0, f 1, .. that pass p, the first with the greatest key.
--     Topmost p key f n i b      b is its place among the first i of n, if one passes; where none does, b is n
--     topmost-start              the first that passes is the topmost as far as it
--     topmost-take, topmost-keep     one more: it is the topmost, or what was is it still
-- Assumes nothing.
use mathlib.Core.Path.{◌≡◌, sym, ◌∙◌}
use mathlib.Core.Logic.{◌⊎◌, inl, inr}
use mathlib.Core.Bool.{Bool, true, true≢false}
use Prim.Native.Nat.{ℕ, ◌+◌, ◌<◌, ◌≤◌, zero-le}
use native.Mathlib.Omega.{arith}
use Rattle.counts.specs.Scan.{Found}
use Rattle.counts.proofs.TestLaws.{lt-or-le}
use Rattle.counts.proofs.ScanLaws.{first_from-fails}
use Rattle.counts.proofs.ReadLaws.{found-passes}

pub record Topmost {A : Type 0} (p : A → Bool) (key : A → ℕ) (f : ℕ → A) (n i b : ℕ) : Type 0 where
  pub reached : b ≤ i
  pub within : i ≤ n
  pub passes : b < n → p (f b) ≡ true
  pub greatest : (j : ℕ) → j < i → p (f j) ≡ true → key (f j) ≤ key (f b)
  pub first : (j : ℕ) → j < b → p (f j) ≡ true → (b < n) × (key (f j) < key (f b))

module _ {A : Type 0} {p : A → Bool} {key : A → ℕ} {f : ℕ → A} {n : ℕ} where
  pub topmost-start : {b : ℕ} → Found p f 0 n b → Topmost p key f n b b
  topmost-start {b} h =
      let none : (j : ℕ) → j < b → p (f j) ≡ true → ⊥ =
      λ j l t. true≢false (sym t ∙ first_from-fails p f 0 n zero-le j zero-le (omega (arith, h.is)))
      in
      record {
        reached = omega arith;
        within = h.high;
        passes = λ l. found-passes p f h l;
        greatest = λ j l t. absurd (none j l t);
        first = λ j l t. absurd (none j l t);
      }

  module _ {i b : ℕ} (top : Topmost p key f n i b) (l : i < n) where
    pub topmost-keep : (p (f i) ≡ true → key (f i) ≤ key (f b)) → Topmost p key f n (i + 1) b
    topmost-keep h = record {
      reached = omega (arith, top.reached);
      within = omega arith;
      passes = top.passes;
      greatest = λ j g t. by_place j t (lt-or-le j i) (omega arith);
      first = top.first;
    }
      where
        by_place : (j : ℕ) → p (f j) ≡ true → (j < i) ⊎ (i ≤ j) → j ≤ i → key (f j) ≤ key (f b)
        by_place j t (inl g) k = top.greatest j g t
        by_place j t (inr g) k =
            let e : j ≡ i = omega arith in
            rw e (h (rw e at t))

    pub topmost-take : p (f i) ≡ true → key (f b) < key (f i) → Topmost p key f n (i + 1) i
    topmost-take t h = record {
      reached = omega arith;
      within = omega arith;
      passes = λ g. t;
      greatest = λ j g u. by_place j u (lt-or-le j i) (omega arith);
      first = λ j g u. (l, omega (arith, top.greatest j g u));
    }
      where
        by_place : (j : ℕ) → p (f j) ≡ true → (j < i) ⊎ (i ≤ j) → j ≤ i → key (f j) ≤ key (f i)
        by_place j u (inl g) k = omega (arith, top.greatest j g u)
        by_place j u (inr g) k =
            let e : j ≡ i = omega arith in
            rw e (omega arith)
