-- The answers of `list` and `faces` (specs/Lists.antt, specs/Steps.antt), from what they find.
--     few_counted                    no more faces than cycles are counted
--     short-labels, short-cycles     no room where either lent array is too short
--     listed-both                    the lists
--     lists-accepted, lists-refused  of any array, by the verdict
-- Assumes nothing.
use mathlib.Core.Path.{◌≡◌, refl, sym, ap, ap₂, subst, ◌∙◌}
use mathlib.Core.Bool.{Bool, true, cond, ◌||◌}
use mathlib.Core.List.{List, ◌++◌}
use Prim.Native.Nat.{ℕ, ◌*◌, ◌<◌, ◌≤◌}
use native.Mathlib.Omega.{arith}
use lib.Dec.{ltb}
use lib.IntN.{ℤ}
use lib.ListN.{length, drop}
use borrow.Author.Tests.{lt-ltb, le-ltb}
use native.Mathlib.Bridge.{le_prop}
use Rattle.std.specs.Prelude.{Result, Ok, Err}
use Rattle.counts.specs.Count.{count, places}
use Rattle.counts.proofs.TestLaws.{or_right}
use Rattle.counts.proofs.ListedLaws.{listed-length}
use Rattle.record.specs.Records.{record_count}
use Rattle.chart.specs.declared.ChartRefusal.{ChartRefusal}
use Rattle.walks.specs.Cycles.{is_first, cycle_count, cycle_number}
use Rattle.walks.specs.Faces.{face_number, face_count}
use Rattle.walks.proofs.NumberLaws.{few_faces}
use Rattle.cycles.specs.declared.Cycles.{Cycles}
use Rattle.cycles.specs.Circles.{Circled}
use Rattle.faces.specs.declared.FaceRefusal.{FaceRefusal}
use Rattle.faces.specs.declared.FaceRefusal.TheVariants.{Chart, NoRoom}
use Rattle.faces.specs.Lists.{FaceList, labels_of, cycle_list, listed_in, list_if, faces_of, contents, Lists}
use Rattle.faces.specs.Steps.{Numbered, SoundLists}
use Rattle.faces.proofs.CircledLaws.{circled-accepted, circled-refused}
use Rattle.faces.proofs.EntriesLaws.{cycle_list-length}

-- ---- the counts

abbrev counts : (m k : ℕ) → k ≤ m → FaceList
counts m k w = Ok (record { cycles = m; faces = k; within = w })

-- whichever way it is shown that there are no more faces than cycles
same_counts : {m k m' k' : ℕ} (w : k ≤ m) (w' : k' ≤ m') → m ≡ m' → k ≡ k' → counts m k w ≡ counts m' k' w'
same_counts {m} {k} {m'} {k'} w w' e g =
    subst (λ m'. (k' : ℕ) → k ≡ k' → (w' : k' ≤ m') → counts m k w ≡ counts m' k' w') e
    (λ k' g. subst (λ k'. (w' : k' ≤ m) → counts m k w ≡ counts m k' w') g
    (λ w'. ap (counts m k) (le_prop w w'))) k' g w'

pub few_counted : (s : List ℤ) (n : ℕ) {m k : ℕ} → Numbered s (count (is_first s) (places n)) m
    → Numbered s (face_number s n) k → k ≤ m
unfolding face_number
few_counted s n firsts outers = omega (arith, firsts.is, outers.is, few_faces s n)

-- ---- of an accepted chart

module _ (s : List ℤ) (labels cycles : List ℕ) where
  -- the answer, by whether either is too short
  says : {b : Bool} → (ltb (length labels) (record_count s) || ltb (length cycles) (2 * cycle_count s)) ≡ b
      → cond b (Err NoRoom) (counts (cycle_count s) (face_count s) (few_faces s (record_count s)))
      ≡ listed_in s (length labels) (length cycles)
  unfolding listed_in
  says e = ap (λ b. cond b (Err NoRoom) (counts (cycle_count s) (face_count s) (few_faces s (record_count s)))) (sym e)

  short : {a : FaceList} → a ≡ Err NoRoom
      → (ltb (length labels) (record_count s) || ltb (length cycles) (2 * cycle_count s)) ≡ true
      → SoundLists s labels cycles labels cycles a
  short e t = record {
    says = e ∙ says t;
    labelled = ap (λ a. contents a (labels_of s) labels) (sym e);
    listed = ap (λ a. contents a (cycle_list s) cycles) (sym e);
  }

  pub short-labels : {a : FaceList} {n : ℕ} → n ≡ record_count s → length labels < n → a ≡ Err NoRoom
      → SoundLists s labels cycles labels cycles a
  short-labels all h e = short e (ap (λ b. b || ltb (length cycles) (2 * cycle_count s)) (lt-ltb _ _ (omega arith)))

  module _ {n m : ℕ} (all : n ≡ record_count s) (counted : Numbered s (count (is_first s) (places n)) m) where
    number : m ≡ cycle_count s
    number = counted.is ∙ ap (λ n. count (is_first s) (places n)) all

    pub short-cycles : {a : FaceList} → length cycles < 2 * m → a ≡ Err NoRoom
        → SoundLists s labels cycles labels cycles a
    short-cycles h e =
        let is = number in
        let less = lt-ltb (length cycles) (2 * cycle_count s) (omega arith) in
        short e (or_right (ltb (length labels) (record_count s)) less)

    pub listed-both : {labels' cycles' : List ℕ} {k : ℕ} {w : k ≤ m} → n ≤ length labels → 2 * m ≤ length cycles
        → labels' ≡ labels_of s ++ drop (record_count s) labels
        → cycles' ≡ cycle_list s ++ drop (2 * cycle_count s) cycles
        → Numbered s (face_number s n) k
        → SoundLists s labels cycles labels' cycles' (counts m k w)
    unfolding face_number
    listed-both {w = w} l c e d faces =
        let is = number in
        let room : 2 * cycle_count s ≤ length cycles = omega arith in
        record {
          says = same_counts w (few_faces s (record_count s)) is (faces.is ∙ ap (face_number s) all)
              ∙ says (ap₂ ◌||◌ (le-ltb _ _ (omega arith)) (le-ltb _ _ room));
          labelled =
              e ∙ ap (λ n. labels_of s ++ drop n labels) (sym (listed-length (cycle_number s) 0 (record_count s)));
          listed = d ∙ ap (λ n. cycle_list s ++ drop n cycles) (sym (cycle_list-length s));
        }

-- ---- of any array

module _ (s : List ℤ) (labels cycles : List ℕ) {c : Result Cycles ChartRefusal} (circled : Circled s c) where
  pub lists-accepted : {labels' cycles' : List ℕ} {a : FaceList} {b : Cycles} → c ≡ Ok b
      → SoundLists s labels cycles labels' cycles' a → Lists s labels cycles labels' cycles' a
  unfolding faces_of
  lists-accepted e h = record {
    says = h.says
        ∙ ap (λ v. list_if v (listed_in s (length labels) (length cycles))) (sym (circled-accepted s circled e).0);
    labelled = h.labelled;
    listed = h.listed;
  }

  pub lists-refused : {r : ChartRefusal} {q : FaceRefusal} → c ≡ Err r → q ≡ Chart r
      → Lists s labels cycles labels cycles (Err q)
  unfolding faces_of
  lists-refused e g = record {
    says = ap Err g
        ∙ ap (λ v. list_if v (listed_in s (length labels) (length cycles))) (sym (circled-refused s circled e));
    labelled = refl;
    listed = refl;
  }
