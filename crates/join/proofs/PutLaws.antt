-- Records put into an array one after the other (specs/Steps.antt).
--     record_put          the five stores of `put`
--     records-put         some records from record n on: the first of them there, and then the others from n + 1 on
--     contents-put        what joining leaves is the result from record 0 on
-- Assumes nothing.
use mathlib.Core.Path.{◌≡◌, refl, sym, ap, ◌∙◌}
use mathlib.Core.List.{List, ◌∷◌, ◌++◌}
use Prim.Native.Nat.{ℕ, suc, ◌+◌, ◌*◌, ◌≤◌}
use native.Mathlib.Numerals.{add-one, add-two, add-three, add-four}
use native.Mathlib.Omega.{arith}
use lib.IntN.{ℤ}
use lib.ListN.{length, set, drop}
use lib.Seq.{sets, sets-eq}
use mir.Syntax.{w16}
use mir.Val.{SFits, to_z, of_z}
use mir.ValLaws.{to_z-of_z}
use Rattle.std.specs.Prelude.{Ok}
use Rattle.grid.specs.Coordinates.{down}
use Rattle.record.specs.declared.Record.{Record}
use Rattle.record.specs.Records.{width}
use Rattle.combined.specs.Results.{numbers}
use Rattle.combined.proofs.NumberLaws.{numbers-length}
use Rattle.join.specs.Joinings.{contents}
use Rattle.join.specs.Steps.{with_record}

-- ---- one record

-- what the language stores for the number z, by its bits
abbrev stored : ℤ → ℤ
stored z = to_z w16 (of_z w16 z)

stored_is : (z : ℤ) (n : ℕ) → z ≡ down n → SFits w16 z → stored z ≡ down n
stored_is z n e h = to_z-of_z w16 z h ∙ e

pub record_put : (lent : List ℤ) (n : ℕ) (r : Record) {u v x y z : ℤ}
    → u ≡ down r.dom.x → v ≡ down r.dom.y → x ≡ down r.other.x → y ≡ down r.other.y → z ≡ down r.mark
    → SFits w16 u → SFits w16 v → SFits w16 x → SFits w16 y → SFits w16 z
    → set (set (set (set (set lent (width * n) (stored u)) (width * n + 1) (stored v)) (width * n + 2) (stored x))
    (width * n + 3) (stored y)) (width * n + 4) (stored z)
    ≡ with_record lent n r
unfolding numbers
record_put lent n r {u} {v} {x} {y} {z} e f g h k p q s t w =
    rw (
      stored_is u r.dom.x e p,
      stored_is v r.dom.y f q,
      stored_is x r.other.x g s,
      stored_is y r.other.y h t,
      stored_is z r.mark k w,
      add-one (width * n),
      add-two (width * n),
      add-three (width * n),
      add-four (width * n),
    )
    refl

-- ---- some records

pub records-put : (lent : List ℤ) (n : ℕ) (r : Record) (rs : List Record)
    → sets lent (width * n) (numbers (r ∷ rs)) ≡ sets (with_record lent n r) (width * (n + 1)) (numbers rs)
unfolding numbers
records-put lent n r rs =
    let next : suc (suc (suc (suc (suc (width * n))))) ≡ width * (n + 1) = omega arith in
    ap (λ k. sets (with_record lent n r) k (numbers rs)) next

pub contents-put : (lent : List ℤ) (rs : List Record) → width * length rs ≤ length lent
    → contents (Ok rs) lent ≡ sets lent 0 (numbers rs)
contents-put lent rs h =
    let all : 0 + length (numbers rs) ≡ width * length rs = omega (arith, numbers-length rs) in
    sym (sets-eq (numbers rs) lent 0 (omega arith) ∙ ap (λ k. numbers rs ++ drop k lent) all)
