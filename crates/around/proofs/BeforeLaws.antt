-- The turn around a corner.
--     before-exists     every record has one just before it
-- Assumes nothing.
use mathlib.Core.Path.{◌≡◌, refl, sym, ap, ◌∙◌}
use mathlib.Core.Logic.{◌⊎◌, inl, inr}
use mathlib.Core.Bool.{Bool, true, false, ◌&&◌, true≢false}
use mathlib.Core.List.{List}
use Prim.Native.Nat.{ℕ, ◌<◌, ◌≤◌}
use lib.Dec.{ltb}
use borrow.Author.Tests.{ltb-true, lt-ltb}
use Rattle.counts.specs.Count.{◌∈◌}
use Rattle.counts.proofs.TestLaws.{and-true, and_intro, lt-or-le}
use Rattle.counts.proofs.HighestLaws.{Top, highest}
use Rattle.plane.specs.Points.{same}
use Rattle.plane.proofs.PointLaws.{same_true, same_refl}
use Rattle.record.specs.declared.Record.{Record}
use Rattle.around.proofs.Parts.{Before}

module _ (rs : List Record) (rank : Record → ℕ) (j : Record) (m : j ∈ rs) where
  abbrev here : Record → Bool
  here r = same r.dom j.dom

  at : (r : Record) → r.dom ≡ j.dom → here r ≡ true
  at r e = ap (λ p. same p j.dom) e ∙ same_refl j.dom

  abbrev earlier : Record → Bool
  earlier r = here r && ltb (rank r) (rank j)

  -- the last of those before it, or the last of all
  pub before-exists : (e : Record) × (e ∈ rs) × Before rs rank e j
  before-exists = go (highest earlier rank rs) (highest here rank rs)
    where
      low : (r : Record) → (earlier r ≡ true → ⊥) → r.dom ≡ j.dom → rank j ≤ rank r
      low r none e = by_order (lt-or-le (rank r) (rank j))
        where
          by_order : (rank r < rank j) ⊎ (rank j ≤ rank r) → rank j ≤ rank r
          by_order (inl l) = absurd (none (and_intro (at r e) (lt-ltb _ _ l)))
          by_order (inr l) = l

      go : ((r : Record) → r ∈ rs → earlier r ≡ false) ⊎ Top earlier rank rs
          → ((r : Record) → r ∈ rs → here r ≡ false) ⊎ Top here rank rs
          → (e : Record) × (e ∈ rs) × Before rs rank e j
      go (inr e) all =
          let h = and-true (here e.it) _ e.passes in
          (e.it, e.member, record { at = same_true _ _ h.0; none = inl (ltb-true _ _ h.1, between) })
        where
          between : (r : Record) → r ∈ rs → r.dom ≡ j.dom → (rank r ≤ rank e.it) ⊎ (rank j ≤ rank r)
          between r n d = by-test (earlier r) refl
            where
              by-test : (b : Bool) → earlier r ≡ b → (rank r ≤ rank e.it) ⊎ (rank j ≤ rank r)
              by-test true h = inl (e.greatest r n h)
              by-test false h = inr (low r (λ t. true≢false (sym t ∙ h)) d)
      go (inl none) (inl off) = absurd (true≢false (sym (at j refl) ∙ off j m))
      go (inl none) (inr e) = (
        e.it,
        e.member,
        record {
          at = same_true _ _ e.passes;
          none = inr (λ r n d.
              (low r (λ t. true≢false (sym t ∙ none r n)) d, e.greatest r n (at r d)));
        },
      )
