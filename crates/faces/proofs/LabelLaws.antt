-- Writing the cycle number of each record, one after the other, into a lent array (specs/Lists.antt).
--     front-set                  one number more after those at the start of an array
--     Labelled s lent out i      the array that was `lent` is now `out`: the numbers of the first i records are written
--     labelled_none, _more, _all     from record to record
-- Assumes nothing.
use mathlib.Core.Path.{◌≡◌, refl, sym, ap, ◌∙◌}
use mathlib.Core.List.{List, [], ◌∷◌, ◌++◌}
use Prim.Native.Nat.{ℕ, suc, ◌+◌, ◌<◌, ◌≤◌, zero-le}
use native.Mathlib.Nat.{zero-add}
use native.Mathlib.Numerals.{add-one}
use native.Mathlib.Omega.{arith}
use lib.IntN.{ℤ}
use lib.ListN.{length, get_or, drop, set, length-set}
use lib.Seq.{drop-cons, set_at, append_snoc}
use Rattle.counts.specs.Count.{count, listed, places}
use Rattle.counts.proofs.ListedLaws.{listed-snoc, listed-length}
use Rattle.record.specs.Records.{record_count}
use Rattle.walks.specs.Cycles.{first_of, is_first, cycle_number}
use Rattle.faces.specs.Lists.{labels_of}
use Rattle.faces.specs.Steps.{Numbered}

pub front-set : (xs lent : List ℕ) (k v : ℕ) → length xs ≡ k → k < length lent
    → set (xs ++ drop k lent) k v ≡ xs ++ v ∷ drop (suc k) lent
front-set xs lent k v e l =
    ap (λ t. set (xs ++ t) k v) (drop-cons lent k 0 l) ∙ set_at xs (get_or lent k 0) (drop (suc k) lent) v k e

pub record Labelled (s : List ℤ) (lent out : List ℕ) (i : ℕ) : Type 0 where
  pub within : i ≤ record_count s
  pub room : record_count s ≤ length lent
  pub long : length out ≡ length lent
  pub is : out ≡ listed (cycle_number s) 0 i ++ drop i lent

module _ (s : List ℤ) (lent : List ℕ) where
  pub labelled_none : record_count s ≤ length lent → Labelled s lent lent 0
  unfolding listed
  labelled_none h = record { within = zero-le; room = h; long = refl; is = refl }

  module _ {out : List ℕ} {i : ℕ} (so_far : Labelled s lent out i) where
    pub labelled_more : {f m : ℕ} → i < record_count s → f ≡ first_of s i
        → Numbered s (count (is_first s) (places f)) m → Labelled s lent (set out i m) (i + 1)
    unfolding cycle_number
    labelled_more {m = m} l first number = record {
      within = omega arith;
      room = so_far.room;
      long = length-set out i m ∙ so_far.long;
      is = ap (λ t. set t i m) so_far.is
          ∙ front-set (listed (cycle_number s) 0 i) lent i m (listed-length (cycle_number s) 0 i)
          (omega (arith, so_far.room))
          ∙ sym (append_snoc (listed (cycle_number s) 0 i) m (drop (suc i) lent))
          ∙ ap (λ v. listed (cycle_number s) 0 i ++ (v ∷ []) ++ drop (suc i) lent) value
          ∙ ap (λ t. t ++ drop (suc i) lent) (sym (listed-snoc (cycle_number s) 0 i))
          ∙ ap (λ k. listed (cycle_number s) 0 k ++ drop k lent) (sym (add-one i));
    }
      where
        value : m ≡ cycle_number s (0 + i)
        value =
            number.is ∙ ap (λ f. count (is_first s) (places f)) first
            ∙ ap (cycle_number s) (sym (zero-add i))

    pub labelled_all : record_count s ≡ i → out ≡ labels_of s ++ drop (record_count s) lent
    labelled_all h =
        so_far.is ∙ ap (λ k. listed (cycle_number s) 0 k ++ drop k lent) (sym h)
