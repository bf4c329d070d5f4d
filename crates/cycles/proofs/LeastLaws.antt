-- The first record of a cycle, as the code computes it, is the least of the halves of its records.
--     least-half          it is such a half
--     least-low           no such half is less
-- Assumes nothing.
use mathlib.Core.Path.{◌≡◌, refl}
use mathlib.Core.Logic.{◌⊎◌, ⊎_elim}
use mathlib.Core.List.{List, [], ◌∷◌, map}
use mathlib.Core.List.Memᴰ
use Prim.Native.Nat.{ℕ, ◌≤◌}
use native.Mathlib.Omega.{arith}
use lib.IntN.{ℤ}
use lib.ListN.{get_or}
use Rattle.counts.specs.Count.{◌∈◌}
use Rattle.walks.specs.Ways.{way_back}
use Rattle.walks.specs.Cycles.{halves}
use Rattle.cycles.proofs.NameLaws.{least_half}
use Rattle.cycles.proofs.HalfLaws.{first_half-low, first_half-some}

module _ (s : List ℤ) (c : List ℕ) where
  pub least-half : {j : ℕ} → j ∈ c → least_half s c ∈ halves s c
  least-half {j} m =
      ⊎_elim (λ e. Memᴰ.append_left (map (way_back s) c) (Memᴰ.cast e (head_in c m))) other
      (first_half-some s (get_or c 0 0) c)
    where
      head_in : (c : List ℕ) → j ∈ c → get_or c 0 0 ∈ c
      head_in [] m = absurd (Memᴰ.not-nil m)
      head_in (i ∷ is) m = Memᴰ.head refl

      other : (j : ℕ) × (j ∈ c) × ((least_half s c ≡ j) ⊎ (least_half s c ≡ way_back s j)) → least_half s c ∈ halves s c
      other h =
          ⊎_elim (λ e. Memᴰ.append_left (map (way_back s) c) (Memᴰ.cast e h.1))
          (λ e. Memᴰ.append_right c (Memᴰ.cast e (Memᴰ.map (way_back s) h.1))) h.2

  pub least-low : {j : ℕ} → j ∈ halves s c → least_half s c ≤ j
  least-low {j} m = ⊎_elim (λ h. (low.1 j h).0) back (Memᴰ.append_cases c m)
    where
      low : (least_half s c ≤ get_or c 0 0)
          × ((j : ℕ) → j ∈ c → (least_half s c ≤ j) × (least_half s c ≤ way_back s j))
      low = first_half-low s (get_or c 0 0) c

      back : j ∈ map (way_back s) c → least_half s c ≤ j
      back h = let w = Memᴰ.of_map (way_back s) c h in omega (arith, w.2, (low.1 w.0 w.1).1)
