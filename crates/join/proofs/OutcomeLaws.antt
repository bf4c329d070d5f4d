-- What a caller of `combine` knows by its contract.
--     Met op a b room rs    the two arrays are regions, no segment of one touches a segment of the other, and rs are
--                           the result's records, few enough and with room for them
--     Told a b c r          the refusal r, naming the chart c, is the first chart's own and names it; or the first is
--                           accepted, and r is the second's own and names that; or both are, and it is one of 11 to 13
--                           and names none, at a record that a chart can have
--     outcome-met           so it is where joining gives the records rs
--     outcome-told          so it is where joining is refused
--     Small c r, told-small     such a refusal's number is at most 13, and its index below the limit
--     Combined op a b lent out n    n records of the result now stand at the beginning of the array, and places beyond
--                           are as they were
--     joins-combined        so it is where the answer is n records
--     joins-refused, joins-untouched    a refusal is the outcome's, and the array is as it was
-- Assumes nothing.
use mathlib.Core.Path.{◌≡◌, refl, sym, ap, ◌∙◌}
use mathlib.Core.Logic.{◌⊎◌, inl, inr}
use mathlib.Core.Bool.{Bool, true, false, cond, true≢false}
use mathlib.Core.List.{List}
use Prim.Native.Nat.{ℕ, ◌*◌, ◌<◌, ◌≤◌}
use native.Mathlib.Omega.{arith}
use lib.Dec.{ltb}
use lib.IntN.{ℤ}
use lib.ListN.{length, take, drop}
use lib.Seq.{take_at, drop_at}
use borrow.Author.Tests.{ltb-false, ne_eqb}
use Rattle.std.specs.Prelude.{Option, Some, None, Ok, Err}
use Rattle.counts.specs.Count.{any}
use Rattle.counts.specs.Scan.{first_place}
use Rattle.counts.proofs.PlaceLaws.{first_place_some, first_place_none}
use Rattle.counts.proofs.TestLaws.{lt-or-le}
use Rattle.record.specs.declared.Record.{Record}
use Rattle.record.specs.Records.{width, record_at, record_count}
use Rattle.chart.specs.declared.Refusal.{Refusal}
use Rattle.chart.specs.declared.ChartRefusal.{ChartRefusal}
use Rattle.chart.specs.Verdicts.{limit, Verdict, told, verdict}
use Rattle.chart.proofs.IndexLaws.{verdict-told}
use Rattle.chart.specs.Regions.{Region}
use Rattle.chart.proofs.RegionLaws.{accepted-is}
use Rattle.combined.specs.Results.{numbers}
use Rattle.combined.proofs.NumberLaws.{numbers-length}
use Rattle.sides.specs.declared.Op.{Op}
use Rattle.join.specs.declared.JoinRefusal.{JoinRefusal}
use Rattle.join.specs.declared.JoinRefusal.TheVariants.{First, Second, TooMany, NoRoom}
use Rattle.join.specs.Joinings.{touches_in, first_touching, result_of, Outcome, unless_refused, unless_touching}
use Rattle.join.specs.Joinings.{joined_in, outcome, Joined, answer_of, contents, told_joining, named, is_join_refusal}
use Rattle.join.specs.Joinings.{Joins}

pub record Met (op : Op) (a b : List ℤ) (room : ℕ) (rs : List Record) : Type 0 where
  pub first : Region a
  pub second : Region b
  pub apart : ltb (first_touching a b) (record_count a) ≡ false
  pub is : rs ≡ result_of op a b
  pub few : length rs ≤ limit
  pub fits : width * length rs ≤ room

pub data Told (a b : List ℤ) (c : ℕ) (r : Refusal) : Type 0 where
  first : {q : ChartRefusal} → c ≡ 1 → verdict a ≡ Err q → r ≡ told q → Told a b c r
  second : {q : ChartRefusal} → c ≡ 2 → verdict a ≡ Ok tt → verdict b ≡ Err q → r ≡ told q → Told a b c r
  neither : c ≡ 0 → verdict a ≡ Ok tt → verdict b ≡ Ok tt → is_join_refusal r.number ≡ true → r.index < limit
      → Told a b c r

joined-one : {rs qs : List Record} → ◌≡◌ {A = Outcome} (Ok rs) (Ok qs) → rs ≡ qs
joined-one e = cc

refused-one : {q r : JoinRefusal} → ◌≡◌ {A = Outcome} (Err q) (Err r) → q ≡ r
refused-one e = cc

refused-not : {rs : List Record} {r : JoinRefusal} → ◌≡◌ {A = Outcome} (Err r) (Ok rs) → ⊥
refused-not e = let o : ◌≡◌ {A = ℕ} 0 1 = cc in omega arith

-- where a segment touches one of the other chart, if one does
abbrev touching : List ℤ → List ℤ → Option ℕ
touching a b = first_place (touches_in b) (record_at a) (record_count a)

module _ (op : Op) (a b : List ℤ) (room : ℕ) where
  pub outcome-met : (rs : List Record) → outcome op a b room ≡ Ok rs → Met op a b room rs
  unfolding outcome joined_in
  outcome-met rs = by_first (verdict a) refl
    where
      by_result : (o : Option ℕ) (y z : Bool) → touching a b ≡ o
          → ltb limit (length (result_of op a b)) ≡ y → ltb room (width * length (result_of op a b)) ≡ z
          → verdict a ≡ Ok tt → verdict b ≡ Ok tt
          → unless_touching o (cond y (Err TooMany) (cond z (Err NoRoom) (Ok (result_of op a b)))) ≡ Ok rs
          → Met op a b room rs
      by_result (Some i) y z t l s v w e = absurd (refused-not e)
      by_result None true z t l s v w e = absurd (refused-not e)
      by_result None false true t l s v w e = absurd (refused-not e)
      by_result None false false t l s v w e =
          let same = sym (joined-one e) in
          record {
            first = (accepted-is a).0 v;
            second = (accepted-is b).0 w;
            apart = (first_place_none (touches_in b) (record_at a) (record_count a)).0 t;
            is = same;
            few = rw same (ltb-false _ _ l);
            fits = rw same (ltb-false _ _ s);
          }

      by-second : (w : Verdict) → verdict b ≡ w → verdict a ≡ Ok tt
          → unless_refused Second w (joined_in op a b room) ≡ Ok rs → Met op a b room rs
      by-second (Ok u) k h e = by_result _ _ _ refl refl refl h k e
      by-second (Err r) k h e = absurd (refused-not e)

      by_first : (v : Verdict) → verdict a ≡ v
          → unless_refused First v (unless_refused Second (verdict b) (joined_in op a b room)) ≡ Ok rs
          → Met op a b room rs
      by_first (Ok u) h e = by-second (verdict b) refl h e
      by_first (Err r) h e = absurd (refused-not e)

  -- ---- refusals

  pub outcome-told : (r : JoinRefusal) → outcome op a b room ≡ Err r → Told a b (named r) (told_joining r)
  unfolding outcome joined_in any
  outcome-told r = by_first (verdict a) refl
    where
      is_told : {q : JoinRefusal} → Told a b (named q) (told_joining q) → ◌≡◌ {A = Outcome} (Err q) (Err r)
          → Told a b (named r) (told_joining r)
      is_told h e = rw (← refused-one e) h

      by_result : (o : Option ℕ) (y z : Bool) → touching a b ≡ o → verdict a ≡ Ok tt → verdict b ≡ Ok tt
          → unless_touching o (cond y (Err TooMany) (cond z (Err NoRoom) (Ok (result_of op a b)))) ≡ Err r
          → Told a b (named r) (told_joining r)
      by_result (Some i) y z t h k e =
          let few = ((accepted-is a).0 h).few in
          let at = first_place_some (touches_in b) (record_at a) {n = record_count a} t in
          is_told (neither refl h k refl (omega (arith, at.1))) e
      by_result None true z t h k e = is_told (neither refl h k refl (omega arith)) e
      by_result None false true t h k e = is_told (neither refl h k refl (omega arith)) e
      by_result None false false t h k e = absurd (refused-not (sym e))

      by-second : (w : Verdict) → verdict b ≡ w → verdict a ≡ Ok tt
          → unless_refused Second w (joined_in op a b room) ≡ Err r → Told a b (named r) (told_joining r)
      by-second (Ok u) k h e =
          by_result (touching a b) (ltb limit (length (result_of op a b)))
          (ltb room (width * length (result_of op a b))) refl h k e
      by-second (Err q) k h e = is_told (second refl h k refl) e

      by_first : (v : Verdict) → verdict a ≡ v
          → unless_refused First v (unless_refused Second (verdict b) (joined_in op a b room)) ≡ Err r
          → Told a b (named r) (told_joining r)
      by_first (Ok u) h e = by-second (verdict b) refl h e
      by_first (Err q) h e = is_told (first refl h refl) e

-- what has room in an answer's bits
pub record Small (c : ℕ) (r : Refusal) : Type 0 where
  pub chart : c ≤ 2
  pub number : r.number ≤ 13
  pub index : r.index < limit

at-most-13 : (k : ℕ) → is_join_refusal k ≡ true → k ≤ 13
unfolding any
at-most-13 k e = go (lt-or-le 13 k)
  where
    go : (13 < k) ⊎ (k ≤ 13) → k ≤ 13
    go (inl l) =
        absurd (true≢false (sym e ∙ rw (
          ne_eqb k 11 (λ h. omega arith),
          ne_eqb k 12 (λ h. omega arith),
          ne_eqb k 13 (λ h. omega arith),
        ) refl))
    go (inr l) = l

pub told-small : {a b : List ℤ} {c : ℕ} {r : Refusal} → Told a b c r → Small c r
told-small {a} (first e v is) =
    let t = rw v at (verdict-told a) in
    rw is (record { chart = omega arith; number = omega (arith, t.number); index = t.index })
told-small {a} {b} (second e v w is) =
    let t = rw w at (verdict-told b) in
    rw is (record { chart = omega arith; number = omega (arith, t.number); index = t.index })
told-small (neither e v w k l) = record { chart = omega arith; number = at-most-13 _ k; index = l }

-- ---- what the contract says

pub record Combined (op : Op) (a b lent out : List ℤ) (n : ℕ) : Type 0 where
  pub met : Met op a b (length lent) (result_of op a b)
  pub many : n ≡ length (result_of op a b)
  pub is : take (width * n) out ≡ numbers (result_of op a b)
  pub beyond : drop (width * n) out ≡ drop (width * n) lent

module _ (op : Op) (a b lent out : List ℤ) {j : Joined} (joins : Joins op a b lent out j) where
  pub joins-combined : {n : ℕ} → j ≡ Ok n → Combined op a b lent out n
  joins-combined {n} e = go (outcome op a b (length lent)) refl (sym e ∙ joins.says) joins.leaves
    where
      go : (o : Outcome) → outcome op a b (length lent) ≡ o → ◌≡◌ {A = Joined} (Ok n) (answer_of o)
          → out ≡ contents o lent → Combined op a b lent out n
      go (Ok rs) h m w =
          let met = outcome-met op a b (length lent) rs h in
          let many : n ≡ length rs = cc in
          let long : length (numbers rs) ≡ width * n = omega (arith, numbers-length rs) in
          let rest = drop (width * length rs) lent in
          record {
            met = rw met.is at met;
            many = many ∙ ap length met.is;
            is = ap (take (width * n)) w ∙ take_at (numbers rs) rest (width * n) long ∙ ap numbers met.is;
            beyond =
                ap (drop (width * n)) w ∙ drop_at (numbers rs) rest (width * n) long
                ∙ ap (λ k. drop (width * k) lent) (sym many);
          }
      go (Err r) h m w = let o : ◌≡◌ {A = ℕ} 0 1 = cc in absurd (omega arith)

  module _ {r : JoinRefusal} (e : j ≡ Err r) where
    pub joins-refused : outcome op a b (length lent) ≡ Err r
    joins-refused = go (outcome op a b (length lent)) refl (sym e ∙ joins.says)
      where
        go : (o : Outcome) → outcome op a b (length lent) ≡ o → ◌≡◌ {A = Joined} (Err r) (answer_of o)
            → outcome op a b (length lent) ≡ Err r
        go (Ok rs) h m = let o : ◌≡◌ {A = ℕ} 0 1 = cc in absurd (omega arith)
        go (Err q) h m = cc

    pub joins-untouched : out ≡ lent
    joins-untouched = rw joins-refused at joins.leaves
