-- The first record of a part of a chart that keeps one side on its left: what tells an outer cycle from a hole.
--     first-mark     it is a left half, and its mark is 1 exactly if the part itself is on the left
-- Assumes nothing.
use mathlib.Core.Path.{◌≡◌, refl, sym, ap, ◌∙◌}
use mathlib.Core.Bool.{Bool, true, false, not, cond, true≢false}
use mathlib.Core.List.{List}
use Prim.Native.Nat.{ℕ, ◌≤◌}
use lib.Dec.{eqb}
use Rattle.counts.specs.Count.{◌∈◌}
use Rattle.plane.specs.Points.{before}
use Rattle.record.specs.declared.Record.{Record}
use Rattle.record.specs.Records.{marked}
use Rattle.record.specs.Order.{left, other_half}
use Rattle.record.proofs.HalfLaws.{backward}
use Rattle.chart.proofs.OnceLaws.{sound-proper}
use Rattle.around.specs.Departing.{departs}
use Rattle.around.proofs.Parts.{Part, Ranked, left_of}
use Rattle.around.proofs.PartLaws.{has-mem, one_way}
use Rattle.around.proofs.FirstSideLaws.{past-column, rank-past, first_alone, first-back-alone}

module _ {rs : List Record} {rank : Record → ℕ} (ranked : Ranked rs rank) {C : List Record} (part : Part rs C)
    (b : Bool) (keeps : (r : Record) → r ∈ C → departs r ≡ true → left_of C r ≡ b) (a : Record) (m : a ∈ C)
    (first : (r : Record) → r ∈ C → rank a ≤ rank r) where
  known : a ∈ rs
  known = part.sub a m

  past : (r : Record) → r ∈ C → before r.dom a.dom ≡ false
  past r n = rank-past ranked a r known (part.sub r n) (first r n)

  far : (r : Record) → r ∈ C → a.dom.x ≤ r.dom.x
  far r n = past-column r.dom a.dom (past r n)

  -- its other end is no smaller
  is-left : left a ≡ true
  is-left = go (left a) refl
    where
      go : (h : Bool) → left a ≡ h → h ≡ true
      go true e = refl
      go false e =
          absurd (true≢false (sym (backward a (sound-proper ranked.sound a known) e)
          ∙ past (other_half a) (part.halves a m)))

  pub first-mark : (left a ≡ true) × (eqb a.mark marked ≡ b)
  first-mark = (is-left, go (departs a) refl)
    where
      -- a left half departs exactly if its mark is 1
      leaves : departs a ≡ eqb a.mark marked
      leaves = ap (λ h. cond (eqb a.mark marked) h (not h)) is-left ∙ same (eqb a.mark marked)
        where
          same : (c : Bool) → cond c true false ≡ c
          same true = refl
          same false = refl

      go : (d : Bool) → departs a ≡ d → eqb a.mark marked ≡ b
      go true d =
          sym leaves ∙ d
          ∙ sym ((has-mem ranked part a known).1 m)
          ∙ sym (first_alone ranked part a known (λ r n _. first r n) far)
          ∙ keeps a m d
      go false d =
          sym leaves ∙ d
          ∙ sym (first-back-alone ranked part a known (λ r n _. first r n) far)
          ∙ keeps (other_half a) (part.halves a m) (one_way ranked a known ∙ ap not d)
