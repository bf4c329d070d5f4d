-- Of two parts of a chart that share no record, each cannot have the other on its inside.
--     smallest-point     the first record of both together, by document 01's order, has nothing of the other part on
--                        either hand
-- Assumes nothing.
use mathlib.Core.Path.{◌≡◌, refl, sym, ap, ◌∙◌}
use mathlib.Core.Logic.{◌⊎◌, inl, inr}
use mathlib.Core.Bool.{Bool, true, false, not, true≢false}
use mathlib.Core.List.Memᴰ
use mathlib.Core.List.{List, ◌++◌}
use Prim.Native.Nat.{ℕ, ◌≤◌}
use Rattle.counts.specs.Count.{◌∈◌}
use Rattle.record.specs.declared.Record.{Record}
use Rattle.around.specs.Departing.{departs}
use Rattle.around.proofs.Parts.{Part, Ranked, left_of}
use Rattle.around.proofs.PartLaws.{has-mem, one_way}
use Rattle.around.proofs.FirstSideLaws.{lowest, past-column, rank-past, first_alone, first-back-alone}

module _ {rs : List Record} {rank : Record → ℕ} (ranked : Ranked rs rank) where
  -- a record of P that comes before all of Q does not have Q on its left, whichever way it is walked
  ahead : {P Q : List Record} → Part rs P → Part rs Q → ((r : Record) → r ∈ P → r ∈ Q → ⊥)
      → ((r : Record) → r ∈ P → departs r ≡ true → left_of Q r ≡ true)
      → (a : Record) → a ∈ P → ((r : Record) → r ∈ Q → rank a ≤ rank r) → ⊥
  ahead {P} {Q} here there apart within a m first = go (departs a) refl
    where
      known : a ∈ rs
      known = here.sub a m

      far : (r : Record) → r ∈ Q → a.dom.x ≤ r.dom.x
      far r n = past-column r.dom a.dom (rank-past ranked a r known (there.sub r n) (first r n))

      go : (b : Bool) → departs a ≡ b → ⊥
      go true d =
          let side = first_alone ranked there a known (λ r n _. first r n) far in
          apart a m ((has-mem ranked there a known).0 (sym side ∙ within a m d))
      go false d =
          let side = first-back-alone ranked there a known (λ r n _. first r n) far in
          true≢false (sym (within _ (here.halves a m) (one_way ranked a known ∙ ap not d)) ∙ side)

  pub smallest-point : {A B : List Record} → Part rs A → Part rs B → ((r : Record) → r ∈ A → r ∈ B → ⊥)
      → ((r : Record) → r ∈ A → departs r ≡ true → left_of B r ≡ true)
      → ((r : Record) → r ∈ B → departs r ≡ true → left_of A r ≡ true)
      → (r : Record) → r ∈ A → ⊥
  smallest-point {A} {B} one other apart on_a on_b r m =
      let a = lowest (λ e. true) rank (A ++ B) r (Memᴰ.append_left B m) refl in
      go a.0 (Memᴰ.append_cases A a.1) (λ e n. a.3 e n refl)
    where
      go : (a : Record) → (a ∈ A) ⊎ (a ∈ B) → ((e : Record) → e ∈ A ++ B → rank a ≤ rank e) → ⊥
      go a (inl k) first = ahead one other apart on_a a k (λ e n. first e (Memᴰ.append_right A n))
      go a (inr k) first = ahead other one (λ e n h. apart e h n) on_b a k (λ e n. first e (Memᴰ.append_left B n))
