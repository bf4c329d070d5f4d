-- Joining by numbers, as the refusal table has it: the refusals of specs/Joinings.antt said from the first places.
--     joined_number op a b room     of two accepted charts: 11 to 13 with its index; 0 where there is none
--     joined-numbered               the refusal of `joined_in` is this
--     unless_named c v o            o, unless v refuses: that refusal, with the chart c that it names
--     outcome_number op a b room    of any two arrays: the chart named, and the number and index
--     told_by o                     the same of an outcome
--     outcome-numbered              and that of `outcome`
-- Assumes nothing.
use mathlib.Core.Path.{◌≡◌, refl, ap, ◌∙◌}
use mathlib.Core.Bool.{Bool, true, false, cond}
use mathlib.Core.List.{List}
use Prim.Native.Nat.{ℕ, ◌*◌}
use lib.Dec.{ltb}
use lib.IntN.{ℤ}
use lib.ListN.{length}
use Rattle.std.specs.Prelude.{Some, None, Ok, Err}
use Rattle.counts.proofs.PlaceLaws.{first_place_is}
use Rattle.record.specs.Records.{width, record_at, record_count}
use Rattle.chart.specs.declared.Refusal.{Refusal}
use Rattle.chart.specs.Verdicts.{limit, Verdict, told, no_refusal, verdict}
use Rattle.sides.specs.declared.Op.{Op}
use Rattle.join.specs.declared.JoinRefusal.TheVariants.{First, Second, TooMany, NoRoom}
use Rattle.join.specs.Joinings.{result_of, touches_in, first_touching, Outcome, unless_refused, unless_touching}
use Rattle.join.specs.Joinings.{joined_in, outcome, answer_of, join_refusal, chart_named}

abbrev pub joined_number : Op → List ℤ → List ℤ → ℕ → Refusal
joined_number op a b room =
    let rs = result_of op a b in
    cond (ltb (first_touching a b) (record_count a)) (record { number = 11; index = first_touching a b })
    (cond (ltb limit (length rs)) (record { number = 12; index = 0 })
    (cond (ltb room (width * length rs)) (record { number = 13; index = 0 }) no_refusal))

abbrev pub unless_named : ℕ → Verdict → ℕ × Refusal → ℕ × Refusal
unless_named c (Ok u) o = o
unless_named c (Err r) o = (c, told r)

abbrev pub outcome_number : Op → List ℤ → List ℤ → ℕ → ℕ × Refusal
outcome_number op a b room =
    unless_named 1 (verdict a) (unless_named 2 (verdict b) (0, joined_number op a b room))

-- the chart named, and the number and index
abbrev pub told_by : Outcome → ℕ × Refusal
told_by o = (chart_named (answer_of o), join_refusal (answer_of o))

module _ (op : Op) (a b : List ℤ) (room : ℕ) where
  pub joined-numbered : told_by (joined_in op a b room) ≡ (0, joined_number op a b room)
  unfolding joined_in
  joined-numbered =
      let rs = result_of op a b in
      ap (λ o. told_by (unless_touching o (cond (ltb limit (length rs)) (Err TooMany)
      (cond (ltb room (width * length rs)) (Err NoRoom) (Ok rs)))))
      (first_place_is (touches_in b) (record_at a) (record_count a))
      ∙ go (ltb (first_touching a b) (record_count a)) (ltb limit (length rs)) (ltb room (width * length rs))
    where
      go : (x y z : Bool)
          → told_by (unless_touching (cond x (Some (first_touching a b)) None)
          (cond y (Err TooMany) (cond z (Err NoRoom) (Ok (result_of op a b)))))
          ≡ (
            0,
            cond x (record { number = 11; index = first_touching a b })
                (cond y (record { number = 12; index = 0 }) (cond z (record { number = 13; index = 0 }) no_refusal)),
          )
      go true y z = refl
      go false true z = refl
      go false false true = refl
      go false false false = refl

  pub outcome-numbered : told_by (outcome op a b room) ≡ outcome_number op a b room
  unfolding outcome
  outcome-numbered = go (verdict a) (verdict b)
    where
      go : (v w : Verdict) → told_by (unless_refused First v (unless_refused Second w (joined_in op a b room)))
          ≡ unless_named 1 v (unless_named 2 w (0, joined_number op a b room))
      go (Err r) w = refl
      go (Ok u) (Err r) = refl
      go (Ok u) (Ok x) = joined-numbered
