-- What the functions inside find on the way: devices that their contracts cite. a and b are the two charts.
--     Sized op a b n           the result has n records, which is no more than the charts have together
--     side_result op a b       the kept records in record order, each with the mark by its upper sides
--     written op a b lent      the array with the numbers of these at its start, the rest as it was
--     with_record lent n r     the array with the numbers of r for its record n
-- Where `kept` tells which records are kept, `mark` how they stand in the result, and n of them are written:
--     Room kept r lent n       the array has room for r too, where it is kept
--     Took kept mark r lent n out m    where it is kept it was written next; so the array is then `out`, with m records
--     TookNext which op a b k ..    the same of record k of the first chart or of the second
--     SoundJoins op a b lent out j     of two accepted charts: the answer is j, and the array that was `lent` is then
--                              `out`
-- Assumes nothing.
use Rattle.std.specs.Prelude.{◌≡◌, Bool, cond, List, [], ◌∷◌, map, ℕ, ◌+◌, ◌*◌, ◌≤◌, ℤ, length, Ok}
use Rattle.std.proofs.lemmas.List.Edits.{sets}
use Rattle.counts.specs.Count.{ind}
use Rattle.record.specs.declared.Record.{Record}
use Rattle.record.specs.Records.{width, record_at, record_count}
use Rattle.parts.specs.declared.Which.{Which}
use Rattle.combined.specs.Kept.{kept}
use Rattle.combined.specs.Results.{in_order, numbers}
use Rattle.sides.specs.declared.Op.{Op}
use Rattle.sides.specs.Operations.{joining, both, side_of}
use Rattle.sides.specs.Kept.{kept_of, side_marked}
use Rattle.join.specs.Joinings.{result_of, joined_in, Joined, contents, Gives}

pub record Sized (op : Op) (a b : List ℤ) (n : ℕ) : Type 0 where
  pub is : n ≡ length (result_of op a b)
  pub most : n ≤ record_count a + record_count b

abbrev pub side_result : Op → List ℤ → List ℤ → List Record
side_result op a b = map (side_marked op a b) (in_order (kept (joining op) (both a b)))

-- ---- writing

abbrev pub written : Op → List ℤ → List ℤ → List ℤ → List ℤ
written op a b lent = contents (Ok (side_result op a b)) lent

abbrev pub with_record : List ℤ → ℕ → Record → List ℤ
with_record lent n r = sets lent (width * n) (numbers (r ∷ []))

pub record Room (kept : Record → Bool) (r : Record) (lent : List ℤ) (n : ℕ) : Type 0 where
  pub fits : width * (n + ind (kept r)) ≤ length lent

pub record Took (kept : Record → Bool) (mark : Record → Record) (r : Record) (lent : List ℤ) (n : ℕ) (out : List ℤ)
    (m : ℕ) : Type 0 where
  pub counts : m ≡ n + ind (kept r)
  pub leaves : out ≡ cond (kept r) (with_record lent n (mark r)) lent

abbrev pub TookNext : Which → Op → List ℤ → List ℤ → ℕ → List ℤ → ℕ → List ℤ → ℕ → Type 0
TookNext which op a b k lent n out m =
    Took (kept_of which op a b) (side_marked op a b) (record_at (side_of which a b) k) lent n out m

-- ---- joining

abbrev pub SoundJoins : Op → List ℤ → List ℤ → List ℤ → List ℤ → Joined → Type 0
SoundJoins op a b lent out j = Gives (joined_in op a b (length lent)) lent out j
