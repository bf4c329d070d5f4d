-- Writing the two numbers of each cycle, one after the other, into a lent array (specs/Lists.antt).
--     Entered s lent out i m     the array that was `lent` is now `out`: those of the m cycles whose first record is
--                                before record i are written
--     entered_none, _room, _more, _still, _all    from record to record
-- Assumes nothing.
use mathlib.Core.Path.{◌≡◌, refl, sym, ap, ap₂, ◌∙◌}
use mathlib.Core.Bool.{Bool, true, false, cond}
use mathlib.Core.List.{List, [], ◌∷◌, ◌++◌, append_assoc, append-nil}
use Prim.Native.Nat.{ℕ, suc, ◌+◌, ◌*◌, ◌<◌, ◌≤◌, zero-le}
use native.Mathlib.Numerals.{add-one}
use native.Mathlib.Omega.{arith}
use lib.IntN.{ℤ}
use lib.ListN.{length, drop, set, length-append, length-set}
use lib.Seq.{append_snoc}
use Rattle.counts.specs.Count.{count, keep, listed, places}
use Rattle.counts.specs.Scan.{Counted}
use Rattle.counts.proofs.LoopLaws.{counted_none, counted-yes, counted-no}
use Rattle.record.specs.Records.{record_count}
use Rattle.walks.specs.Cycles.{is_first, cycle_count}
use Rattle.walks.specs.Faces.{face_of}
use Rattle.faces.specs.Lists.{kind_of, entries_of, cycle_list}
use Rattle.faces.specs.Steps.{with_cycle}
use Rattle.faces.proofs.EntriesLaws.{entries, entries-size, entries_next, more-cycles}
use Rattle.faces.proofs.LabelLaws.{front-set}

pub record Entered (s : List ℤ) (lent out : List ℕ) (i m : ℕ) : Type 0 where
  pub within : i ≤ record_count s
  pub room : 2 * cycle_count s ≤ length lent
  pub counted : Counted (is_first s) (λ i. i) i m
  pub long : length out ≡ length lent
  pub is : out ≡ entries s i ++ drop (2 * m) lent

-- two numbers more
front-two : (xs lent : List ℕ) (k a b : ℕ) → length xs ≡ k → k + 2 ≤ length lent
    → set (set (xs ++ drop k lent) k a) (k + 1) b ≡ xs ++ (a ∷ b ∷ []) ++ drop (k + 2) lent
front-two xs lent k a b e l =
    ap (λ t. set t (k + 1) b) (front-set xs lent k a e (omega arith) ∙ sym (append_snoc xs a (drop (suc k) lent)))
    ∙ ap (λ j. set (xs ++ (a ∷ []) ++ drop (suc k) lent) j b) (add-one k)
    ∙ front-set (xs ++ (a ∷ [])) lent (suc k) b (omega (arith, length-append xs (a ∷ []))) (omega arith)
    ∙ append_assoc xs (a ∷ []) (b ∷ drop (suc (suc k)) lent)
    ∙ ap (λ j. xs ++ (a ∷ b ∷ drop j lent)) two
    ∙ sym (append_assoc xs (a ∷ b ∷ []) (drop (k + 2) lent))
  where
    two : suc (suc k) ≡ k + 2
    two = omega arith

module _ (s : List ℤ) (lent : List ℕ) where
  pub entered_none : 2 * cycle_count s ≤ length lent → Entered s lent lent 0 0
  unfolding entries_of keep listed
  entered_none h = record {
    within = zero-le;
    room = h;
    counted = counted_none (is_first s) (λ i. i);
    long = refl;
    is = refl;
  }

  module _ {out : List ℕ} {i m : ℕ} (so_far : Entered s lent out i m) where
    pub entered_all : record_count s ≡ i → out ≡ cycle_list s ++ drop (2 * cycle_count s) lent
    entered_all h =
        let e : i ≡ record_count s = sym h in
        let all = so_far.counted.is ∙ ap (λ n. count (is_first s) (places n)) e in
        so_far.is ∙ ap₂ (λ n k. entries s n ++ drop (2 * k) lent) e all

    module _ {b : Bool} (l : i < record_count s) (is : b ≡ is_first s i) where
      pub entered_room : b ≡ true → 2 * m + 2 ≤ length out
      entered_room e = omega (arith, more-cycles s so_far.counted l (sym is ∙ e), so_far.room, so_far.long)

      pub entered_more : {put next : List ℕ} {k : ℕ} → b ≡ true → put ≡ with_cycle s i out m → next ≡ put
          → k ≡ m + 1 → Entered s lent next (i + 1) k
      unfolding entries_of
      entered_more e p d f = rw (d, p, f) (record {
        within = omega arith;
        room = so_far.room;
        counted = counted-yes (is_first s) (λ i. i) so_far.counted (sym (sym is ∙ e)) refl refl;
        long = length-set (set out (2 * m) (kind_of s i)) (2 * m + 1) (face_of s i)
            ∙ length-set out (2 * m) (kind_of s i)
            ∙ so_far.long;
        is = ap (λ t. with_cycle s i t m) so_far.is
            ∙ front-two (entries s i) lent (2 * m) (kind_of s i) (face_of s i) size
            (omega (arith, entered_room e, so_far.long))
            ∙ ap₂ (λ b k. entries s i ++ entries_of s (cond b (i ∷ []) []) ++ drop k lent) (sym (sym is ∙ e))
            twice
            ∙ ap (λ t. t ++ drop (2 * (m + 1)) lent) (sym (entries_next s i));
      })
        where
          size : length (entries s i) ≡ 2 * m
          size = omega (arith, entries-size s i, so_far.counted.is)

          twice : 2 * m + 2 ≡ 2 * (m + 1)
          twice = omega arith

      pub entered_still : {next : List ℕ} {k : ℕ} → b ≡ false → next ≡ out → k ≡ m
          → Entered s lent next (i + 1) k
      unfolding entries_of
      entered_still e d f = rw (d, f) (record {
        within = omega arith;
        room = so_far.room;
        counted = counted-no (is_first s) (λ i. i) so_far.counted (sym (sym is ∙ e)) refl refl;
        long = so_far.long;
        is = so_far.is
            ∙ ap (λ t. t ++ drop (2 * m) lent) (sym (append-nil (entries s i)))
            ∙ ap (λ b. entries s i ++ entries_of s (cond b (i ∷ []) []) ++ drop (2 * m) lent)
            (sym (sym is ∙ e))
            ∙ ap (λ t. t ++ drop (2 * m) lent) (sym (entries_next s i));
      })
