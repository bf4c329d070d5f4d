-- What the machine of specs/Walks.antt makes of a walk of n steps from step o on.
--     stands-end    when it has walked them and come to where step o + n departs: what is taken at one step is one
--                   cycle, and there is no other
-- Assumes nothing.
use mathlib.Core.Path.{◌≡◌, refl, sym, ap, ◌∙◌}
use mathlib.Core.Logic.{◌⊎◌, inl, inr, ⊎_elim}
use mathlib.Core.List.Memᴰ
use mathlib.Core.List.{List, [], ◌∷◌, ◌++◌, map-append}
use Prim.Native.Nat.{ℕ, zero, suc, ◌+◌, ◌<◌, ◌≤◌}
use native.Mathlib.Nat.{add-zero}
use native.Mathlib.Omega.{arith}
use lib.IntN.{ℤ}
use Rattle.counts.specs.Count.{◌∈◌, listed}
use Rattle.counts.proofs.TestLaws.{Side, side, less, equal, more}
use Rattle.walks.specs.Walks.{Cut, cut_at, walk_all, uncut}
use Rattle.walks.proofs.SplitLaws.{rising-more}
use Rattle.walks.proofs.Taken.{corner, Nested, Free, Stands}
use Rattle.walks.proofs.TakenLaws.{stands-cut}

module _ (s : List ℤ) (w : ℕ → ℕ) (o n : ℕ) (nested : Nested s w n) where
  -- it goes on with step t, which is free
  stands_on : (t : ℕ) (c : Cut) → o ≤ t → Stands s w o t (suc t) c
      → Stands s w o (suc t) (suc t) (record { rest = c.rest ++ (w t ∷ []); cycles = c.cycles })
  stands_on t c l h =
      record {
        steps = h.steps ++ (t ∷ []);
        is = ap (λ js. js ++ (w t ∷ [])) h.is ∙ sym (map-append w h.steps (t ∷ []));
        rising = rising-more h.steps t h.rising (λ i m. (h.member i m).1);
        member = λ i m. member i (Memᴰ.append_cases h.steps m);
        all = λ i oi it f. all i oi f (side i t) it;
        covered = λ i oi it. covered i oi (side i t) it;
        taken = h.taken;
      }
    where
      member : (i : ℕ) → (i ∈ h.steps) ⊎ (i ∈ t ∷ []) → (o ≤ i) × (i < suc t) × Free s w o (suc t) i
      member i (inl m) = let f = h.member i m in (f.0, omega (arith, f.1), f.2)
      member i (inr m) = end (Memᴰ.cases_cons m)
        where
          end : (i ≡ t) ⊎ (i ∈ []) → (o ≤ i) × (i < suc t) × Free s w o (suc t) i
          end (inl e) = (omega arith, omega arith, λ u v ou ui iv vt f. omega arith)
          end (inr k) = absurd (Memᴰ.not-nil k)

      new : (i : ℕ) → i ≡ t → i ∈ h.steps ++ (t ∷ [])
      new i e = Memᴰ.append_right h.steps (Memᴰ.head e)

      all : (i : ℕ) → o ≤ i → Free s w o (suc t) i → Side i t → i < suc t → i ∈ h.steps ++ (t ∷ [])
      all i oi f (less g) it = Memᴰ.append_left (t ∷ []) (h.all i oi g f)
      all i oi f (equal g) it = new i g
      all i oi f (more g) it = absurd (omega arith)

      covered : (i : ℕ) → o ≤ i → Side i t → i < suc t
          → (i ∈ h.steps ++ (t ∷ [])) ⊎ ((d : List ℕ) × (d ∈ c.cycles) × (w i ∈ d))
      covered i oi (less g) it = ⊎_elim (λ m. inl (Memᴰ.append_left (t ∷ []) m)) inr (h.covered i oi g)
      covered i oi (equal g) it = inl (new i g)
      covered i oi (more g) it = absurd (omega arith)

  stands-all : (k t e : ℕ) (c : Cut) → t + k ≡ e → o ≤ t → e ≤ o + n → Stands s w o t t c
      → Stands s w o e e (walk_all s c (listed w t k))
  unfolding walk_all listed
  stands-all zero t e c end l g h = rw (sym end ∙ add-zero t) h
  stands-all (suc k) t e c end l g h =
      stands-all k (suc t) e _ (omega arith) (omega arith) g
      (stands_on t _ l (stands-cut s w o n nested t (omega arith) c h))

  stands-uncut : Stands s w o o o uncut
  stands-uncut =
      record {
        steps = [];
        is = refl;
        rising = tt;
        member = λ i m. absurd (Memᴰ.not-nil m);
        all = λ i l g f. absurd (omega arith);
        covered = λ i l g. absurd (omega arith);
        taken = λ d m. absurd (Memᴰ.not-nil m);
      }

  pub stands-end : Stands s w o (o + n) (suc (o + n)) (cut_at s (corner s w (o + n)) (walk_all s uncut (listed w o n)))
  stands-end =
      stands-cut s w o n nested (o + n) (omega arith) (walk_all s uncut (listed w o n))
      (stands-all n o (o + n) uncut refl (omega arith) (omega arith) stands-uncut)
