-- What is still to be walked once record j has been, k records before it.
--     onward-round        nothing, where the start of the walk would come next
--     onward-more         else from the record that comes next on
-- Assumes nothing.
use mathlib.Core.Path.{◌≡◌, refl, ◌∙◌}
use mathlib.Core.Bool.{cond}
use mathlib.Core.List.{List, [], ◌∷◌}
use Prim.Native.Nat.{ℕ, suc, ◌+◌, ◌-◌, ◌<◌}
use native.Mathlib.Omega.{arith}
use lib.Dec.{eqb}
use lib.IntN.{ℤ}
use borrow.Author.Tests.{eq-eqb, ne_eqb}
use Rattle.record.specs.Records.{record_count}
use Rattle.walks.specs.Ways.{next}
use Rattle.walks.specs.Walks.{onward}

module _ (s : List ℤ) (w j : ℕ) {j' k : ℕ} (walks : k < record_count s) (is : j' ≡ next s j) where
  onward-on : onward s w j (record_count s - k)
      ≡ j ∷ cond (eqb j' w) [] (onward s w j' (record_count s - (k + 1)))
  unfolding onward
  onward-on = go (record_count s - k) (record_count s - (k + 1)) (omega arith)
    where
      go : (a b : ℕ) → a ≡ suc b → onward s w j a ≡ j ∷ cond (eqb j' w) [] (onward s w j' b)
      go a b e = rw (e, is) refl

  pub onward-round : j' ≡ w → onward s w j (record_count s - k) ≡ j ∷ onward s w j' (record_count s - record_count s)
  unfolding onward
  onward-round e =
      let none : record_count s - record_count s ≡ 0 = omega arith in
      onward-on ∙ rw (eq-eqb j' w e, none) refl

  pub onward-more : (j' ≡ w → ⊥) → onward s w j (record_count s - k) ≡ j ∷ onward s w j' (record_count s - (k + 1))
  onward-more e = onward-on ∙ rw (ne_eqb j' w e) refl
