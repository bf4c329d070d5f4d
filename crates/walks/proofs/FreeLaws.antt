-- Steps that no return of the walk encloses.
--     longer, shorter    free for one step more, and for one less
--     unseen             before step t, where no free step departs from the point that step t does, no step does
-- Assumes nothing.
use mathlib.Core.Path.{◌≡◌, refl, sym, ap, ◌∙◌}
use mathlib.Core.Logic.{◌⊎◌, inl, inr}
use mathlib.Core.Bool.{Bool, true, false, true≢false}
use mathlib.Core.List.{List}
use Prim.Native.Nat.{ℕ, zero, suc, ◌+◌, ◌<◌, ◌≤◌}
use native.Mathlib.Omega.{arith}
use lib.IntN.{ℤ}
use Rattle.counts.proofs.TestLaws.{lt-or-le, Side, side, less, equal, more}
use Rattle.plane.specs.declared.Point.{Point}
use Rattle.plane.specs.Points.{same}
use Rattle.plane.proofs.PointLaws.{same_true, same_refl}
use Rattle.walks.proofs.Taken.{corner, Nested, Free}

module _ (s : List ℤ) (w : ℕ → ℕ) where
  abbrev at : ℕ → Point
  at i = corner s w i

  -- ---- the last step before n that departs from where step t does

  abbrev Last : ℕ → ℕ → Type 0
  Last t n = (l : ℕ) × (l < n) × (at l ≡ at t) × ((v : ℕ) → l < v → v < n → at v ≡ at t → ⊥)

  last : (t n : ℕ) → ((v : ℕ) → v < n → at v ≡ at t → ⊥) ⊎ Last t n
  last t zero = inl (λ v l e. omega arith)
  last t (suc n) = go (same (at n) (at t)) refl (last t n)
    where
      go : (b : Bool) → same (at n) (at t) ≡ b → ((v : ℕ) → v < n → at v ≡ at t → ⊥) ⊎ Last t n
          → ((v : ℕ) → v < suc n → at v ≡ at t → ⊥) ⊎ Last t (suc n)
      go true h ih = inr (n, omega arith, same_true _ _ h, λ v l g e. omega arith)
      go false h ih = cases ih
        where
          here : (v : ℕ) → n ≤ v → v < suc n → at v ≡ at t → ⊥
          here v l g e =
              let f : v ≡ n = omega arith in
              true≢false (sym (same_refl (at t)) ∙ ap (λ p. same p (at t)) (sym e ∙ ap at f) ∙ h)

          cases : ((v : ℕ) → v < n → at v ≡ at t → ⊥) ⊎ Last t n
              → ((v : ℕ) → v < suc n → at v ≡ at t → ⊥) ⊎ Last t (suc n)
          cases (inl none) = inl (λ v l e. earlier v l e (side v n))
            where
              earlier : (v : ℕ) → v < suc n → at v ≡ at t → Side v n → ⊥
              earlier v l e (less g) = none v g e
              earlier v l e (equal g) = here v (omega arith) l e
              earlier v l e (more g) = omega arith
          cases (inr (l, ln, e, none)) = inr (l, omega arith, e, λ v lv vn f. later v lv vn f (side v n))
            where
              later : (v : ℕ) → l < v → v < suc n → at v ≡ at t → Side v n → ⊥
              later v lv vn f (less g) = none v lv g f
              later v lv vn f (equal g) = here v (omega arith) vn f
              later v lv vn f (more g) = omega arith

  -- ---- free for one step more

  pub longer : (o t i : ℕ) → Free s w o t i → ((u : ℕ) → o ≤ u → u ≤ i → i < t → at u ≡ at t → ⊥) → Free s w o (suc t) i
  longer o t i f none u v ou ui iv vt e = go (side v t)
    where
      go : Side v t → ⊥
      go (less l) = f u v ou ui iv l e
      go (equal l) = none u ou ui (omega arith) (e ∙ ap at l)
      go (more l) = omega arith

  pub shorter : (o t i : ℕ) → Free s w o (suc t) i → Free s w o t i
  shorter o t i f u v ou ui iv vt e = f u v ou ui iv (omega arith) e

  module _ (o n : ℕ) (nested : Nested s w n) where
    -- the last step that departs from where step t does is free
    last-free : (t l : ℕ) → t ≤ o + n → o ≤ l → l < t → at l ≡ at t → ((v : ℕ) → l < v → v < t → at v ≡ at t → ⊥)
        → Free s w o t l
    last-free t l tn ol lt e none u v ou ul lv vt f = go (side u l)
      where
        go : Side u l → ⊥
        go (less h) = none v lv vt (sym f ∙ nested u l v t h lv vt (omega arith) f e ∙ e)
        go (equal h) = none v lv vt (sym f ∙ ap at h ∙ e)
        go (more h) = omega arith

    pub unseen : (t : ℕ) → t ≤ o + n
        → ((i : ℕ) → o ≤ i → i < t → Free s w o t i → at i ≡ at t → ⊥)
        → (u : ℕ) → o ≤ u → u < t → at u ≡ at t → ⊥
    unseen t tn none u ou ut e = go (last t t)
      where
        go : ((v : ℕ) → v < t → at v ≡ at t → ⊥) ⊎ Last t t → ⊥
        go (inl never) = never u ut e
        go (inr (l, lt, f, later)) = cases (lt-or-le l u)
          where
            cases : (l < u) ⊎ (u ≤ l) → ⊥
            cases (inl g) = later u g ut e
            cases (inr g) = none l (omega arith) lt (last-free t l tn (omega arith) lt f later) f
