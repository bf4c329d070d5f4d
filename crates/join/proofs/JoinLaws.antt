-- What joining answers and writes.
--     touches_in-is      a record of the first chart touches the second
--     marked-contents    of two charts that nothing refuses: what is written is the result
--     joined-written     and the answer is the number of its records: of arrays s and t that are the charts', where no
--                        first place was found at which one touches the other
--     joined-found       the same where the first place, as a number, is past the records
--     joined-touching, joined-above, joined-short    two accepted charts that are refused: 11, 12 and 13
--     accepted-region    what the check accepts is a region
--     first-refused, second-refused, both-accepted    any two arrays, by their verdicts
-- A bound l is any that refuses no more, so that a wrong one is refused for what it lets through.
-- Assumes nothing.
use mathlib.Core.Path.{◌≡◌, refl, sym, ap, ◌∙◌}
use mathlib.Core.Bool.{Bool, true, false}
use mathlib.Core.List.{List}
use Prim.Native.Nat.{ℕ, ◌*◌, ◌<◌, ◌≤◌}
use native.Mathlib.Omega.{arith}
use lib.Dec.{ltb}
use lib.IntN.{ℤ}
use lib.ListN.{length}
use borrow.Author.Tests.{lt-ltb, le-ltb}
use Rattle.std.specs.Prelude.{Option, Some, None, Ok, Err}
use Rattle.counts.specs.Scan.{first_place, Found}
use Rattle.counts.proofs.PlaceLaws.{first_place_is, first_place_none}
use Rattle.plane.specs.declared.Segment.{Segment}
use Rattle.record.specs.declared.Record.{Record}
use Rattle.record.specs.Records.{width, record_at, record_count, records}
use Rattle.segment.specs.Segments.{segment}
use Rattle.among.specs.Among.{touched}
use Rattle.chart.specs.declared.ChartRefusal.{ChartRefusal}
use Rattle.chart.specs.Verdicts.{limit, Verdict, verdict}
use Rattle.chart.specs.Regions.{Region}
use Rattle.chart.proofs.RegionLaws.{accepted-is}
use Rattle.sides.specs.declared.Op.{Op}
use Rattle.join.specs.declared.JoinRefusal.{JoinRefusal}
use Rattle.join.specs.declared.JoinRefusal.TheVariants.{First, Second, Touching, TooMany, NoRoom}
use Rattle.join.specs.Joinings.{result_of, touches_in, first_touching, Outcome, joined_in, outcome, Joined, answer_of}
use Rattle.join.specs.Joinings.{contents, Gives, Joins}
use Rattle.join.specs.Steps.{Sized, written, SoundJoins}
use Rattle.join.proofs.MarkLaws.{marks-afresh}

pub touches_in-is : (b : List ℤ) (r : Record) {t : Segment} {k : Bool} → t ≡ segment r → k ≡ touched (records b) t
    → k ≡ touches_in b r
touches_in-is b r is e = e ∙ ap (touched (records b)) is

-- ---- two charts that nothing refuses

module _ (op : Op) (a b lent : List ℤ) (first : Region a) (second : Region b) where
  module _ (apart : first_place (touches_in b) (record_at a) (record_count a) ≡ None) where
    marked-contents : written op a b lent ≡ contents (Ok (result_of op a b)) lent
    marked-contents =
        let none = (first_place_none (touches_in b) (record_at a) (record_count a)).0 apart in
        ap (λ rs. contents (Ok rs) lent) (marks-afresh op a b first second none)

    of_charts : {n : ℕ} {out : List ℤ} → Sized op a b n → n ≤ limit → width * n ≤ length lent
        → out ≡ written op a b lent → SoundJoins op a b lent out (Ok n)
    unfolding joined_in
    of_charts size l h e =
        let few = le-ltb limit (length (result_of op a b)) (omega (arith, size.is)) in
        let fits = le-ltb (length lent) (width * length (result_of op a b)) (omega (arith, size.is)) in
        rw (apart, few, fits) (record { says = ap Ok size.is; leaves = e ∙ marked-contents })

  pub joined-written : {s t : List ℤ} {n : ℕ} {o : Option ℕ} {out : List ℤ} → s ≡ a → t ≡ b
      → o ≡ first_place (touches_in t) (record_at s) (record_count s) → ((i : ℕ) → o ≡ Some i → ⊥)
      → Sized op s t n → n ≤ limit → width * n ≤ length lent → out ≡ written op s t lent
      → SoundJoins op a b lent out (Ok n)
  joined-written {o = o} d g touch apart size l h e =
      of_charts (rw (← d, ← g) (sym touch ∙ none o apart)) (rw (← d, ← g) size) l h (rw (← d, ← g) e)
    where
      none : (o : Option ℕ) → ((i : ℕ) → o ≡ Some i → ⊥) → o ≡ None
      none None f = refl
      none (Some i) f = absurd (f i refl)

-- ---- what is joined, case by case

module _ (op : Op) (a b : List ℤ) (room : ℕ) where
  joined_in-touching : {t : ℕ} → first_place (touches_in b) (record_at a) (record_count a) ≡ Some t
      → joined_in op a b room ≡ Err (Touching t)
  unfolding joined_in
  joined_in-touching e = rw e refl

  module _ (apart : first_place (touches_in b) (record_at a) (record_count a) ≡ None) where
    joined_in-above : ltb limit (length (result_of op a b)) ≡ true → joined_in op a b room ≡ Err TooMany
    unfolding joined_in
    joined_in-above e = rw (apart, e) refl

    joined_in-short : ltb limit (length (result_of op a b)) ≡ false
        → ltb room (width * length (result_of op a b)) ≡ true
        → joined_in op a b room ≡ Err NoRoom
    unfolding joined_in
    joined_in-short e f = rw (apart, e, f) refl

-- a refusal leaves the array as it was
refusal : {o : Outcome} {r : JoinRefusal} {lent : List ℤ} {j : Joined} → o ≡ Err r → j ≡ answer_of (Err r)
    → Gives o lent lent j
refusal e h = rw e (record { says = h; leaves = refl })

-- ---- two charts that are accepted

module _ (op : Op) (a b lent : List ℤ) {t : ℕ} (touch : Found (touches_in b) (record_at a) 0 (record_count a) t) where
  pub joined-touching : {j : Joined} → t < record_count a → j ≡ answer_of (Err (Touching t))
      → SoundJoins op a b lent lent j
  joined-touching l e =
      let there = first_place_is (touches_in b) (record_at a) (record_count a)
      ∙ rw (← touch.is, lt-ltb t (record_count a) l) refl
      in
      refusal (joined_in-touching op a b (length lent) there) e

  module _ (apart : record_count a ≤ t) {n : ℕ} (size : Sized op a b n) where
    none : first_place (touches_in b) (record_at a) (record_count a) ≡ None
    none =
        (first_place_none (touches_in b) (record_at a) (record_count a)).1
        (le-ltb (first_touching a b) (record_count a) (omega (arith, touch.is)))

    pub joined-above : {j : Joined} (l : ℕ) → limit ≤ l → l < n → j ≡ answer_of (Err TooMany)
        → SoundJoins op a b lent lent j
    joined-above l h g e =
        let many = lt-ltb limit (length (result_of op a b)) (omega (arith, size.is)) in
        refusal (joined_in-above op a b (length lent) none many) e

    pub joined-short : {j : Joined} → n ≤ limit → length lent < width * n → j ≡ answer_of (Err NoRoom)
        → SoundJoins op a b lent lent j
    joined-short l h e =
        let few = le-ltb limit (length (result_of op a b)) (omega (arith, size.is)) in
        let short = lt-ltb (length lent) (width * length (result_of op a b)) (omega (arith, size.is)) in
        refusal (joined_in-short op a b (length lent) none few short) e

    pub joined-found : {out : List ℤ} → Region a → Region b → n ≤ limit → width * n ≤ length lent
        → out ≡ written op a b lent
        → SoundJoins op a b lent out (Ok n)
    joined-found first second = of_charts op a b lent first second none size

-- ---- any two arrays

pub accepted-region : (s : List ℤ) {v : Verdict} → v ≡ verdict s → v ≡ Ok tt → Region s
accepted-region s h e = (accepted-is s).0 (sym h ∙ e)

module _ (op : Op) (a b lent : List ℤ) {v : Verdict} (first : v ≡ verdict a) where
  pub first-refused : {r : ChartRefusal} → v ≡ Err r → Joins op a b lent lent (Err (First r))
  unfolding outcome
  first-refused e = rw (← first, e) (record { says = refl; leaves = refl })

  module _ (accepted : v ≡ Ok tt) {w : Verdict} (second : w ≡ verdict b) where
    pub second-refused : {r : ChartRefusal} → w ≡ Err r → Joins op a b lent lent (Err (Second r))
    unfolding outcome
    second-refused e = rw (← first, accepted, ← second, e) (record { says = refl; leaves = refl })

    pub both-accepted : {out : List ℤ} {j : Joined} → w ≡ Ok tt → SoundJoins op a b lent out j
        → Joins op a b lent out j
    unfolding outcome
    both-accepted e g = rw (← first, accepted, ← second, e) g
