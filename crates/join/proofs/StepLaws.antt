-- One record more, which is kept or not (specs/Steps.antt): n records of a whole are written.
--     took-room, took-kept, took-not    what `take` asks and leaves, by whether it is kept; `taking` has
--                      them all
--     Ahead whole mark lent out n rs    the array that was `lent` is now `out`; with rs written too it is the whole
--     ahead-all        at the beginning
--     ahead-room       there is room for the next record
--     ahead-next       one record on
--     ahead_none       at the end
-- Assumes nothing.
use mathlib.Core.Path.{◌≡◌, refl, sym, ap, ◌∙◌}
use mathlib.Core.Bool.{Bool, true, false, cond}
use mathlib.Core.List.{List, [], ◌∷◌, map}
use Prim.Native.Nat.{ℕ, ◌+◌, ◌*◌, ◌≤◌}
use native.Mathlib.Omega.{arith}
use lib.IntN.{ℤ}
use lib.ListN.{length, length-map}
use lib.Seq.{sets, length-sets}
use Rattle.std.specs.Prelude.{Ok}
use Rattle.counts.specs.Count.{ind}
use Rattle.record.specs.declared.Record.{Record}
use Rattle.record.specs.Records.{width}
use Rattle.combined.specs.Results.{numbers}
use Rattle.join.specs.Joinings.{contents}
use Rattle.join.specs.Steps.{with_record, Room, Took}
use Rattle.join.proofs.PutLaws.{records-put, contents-put}

-- ---- from what the code has: the record e was read, and k tells whether it is kept

module _ (kept : Record → Bool) {r e : Record} {k : Bool} (read : e ≡ r) (is : k ≡ kept e) where
  found : k ≡ kept r
  found = is ∙ ap kept read

  pub took-room : {lent : List ℤ} {n : ℕ} → Room kept r lent n → k ≡ true → width * n + width ≤ length lent
  took-room h t = omega (arith, h.fits, ap ind (sym found ∙ t))

  module _ (mark : Record → Record) (lent : List ℤ) (n : ℕ) where
    pub took-kept : {x : Record} {out : List ℤ} → k ≡ true → x ≡ mark e → out ≡ with_record lent n x
        → Took kept mark r lent n out (n + 1)
    took-kept t h w =
        let passes = sym t ∙ found in
        let put = w ∙ ap (with_record lent n) (h ∙ ap mark read) in
        record {
          counts = ap (λ b. n + ind b) passes;
          leaves = put ∙ ap (λ b. cond b (with_record lent n (mark r)) lent) passes;
        }

    pub took-not : k ≡ false → Took kept mark r lent n lent n
    took-not t =
        let fails = sym t ∙ found in
        record {
          counts = omega (arith, ap ind fails);
          leaves = ap (λ b. cond b (with_record lent n (mark r)) lent) fails;
        }

pub ruleset taking = (took-room, took-kept, took-not)

-- ---- what is still to be written

pub record Ahead (whole : List ℤ) (mark : Record → Record) (lent out : List ℤ) (n : ℕ) (rs : List Record)
    : Type 0 where
  pub room : width * (n + length rs) ≤ length out
  pub long : length out ≡ length lent
  pub is : whole ≡ sets out (width * n) (numbers (map mark rs))

pub ahead-all : (mark : Record → Record) (lent : List ℤ) (rs : List Record) → width * length rs ≤ length lent
    → Ahead (contents (Ok (map mark rs)) lent) mark lent lent 0 rs
ahead-all mark lent rs h =
    let size = length-map rs mark in
    record { room = omega arith; long = refl; is = contents-put lent (map mark rs) (omega arith) }

pub ahead_none : {whole : List ℤ} {mark : Record → Record} {lent out : List ℤ} {n : ℕ}
    → Ahead whole mark lent out n [] → out ≡ whole
unfolding numbers
ahead_none h = sym h.is

module _ (whole : List ℤ) (mark : Record → Record) (lent out : List ℤ) (n : ℕ) (kept : Record → Bool) (r : Record)
    (rs : List Record) (ahead : Ahead whole mark lent out n (cond (kept r) (r ∷ rs) rs)) where
  pub ahead-room : Room kept r out n
  ahead-room = record { fits = go (kept r) ahead.room }
    where
      go : (k : Bool) → width * (n + length (cond k (r ∷ rs) rs)) ≤ length out → width * (n + ind k) ≤ length out
      go true h = omega arith
      go false h = omega arith

  module _ {next : List ℤ} {m : ℕ} (took : Took kept mark r out n next m) where
    next-length : length next ≡ length out
    next-length = ap length took.leaves ∙ go (kept r)
      where
        go : (k : Bool) → length (cond k (with_record out n (mark r)) out) ≡ length out
        go true = length-sets out (width * n) (numbers (mark r ∷ []))
        go false = refl

    next-room : width * (m + length rs) ≤ length out
    next-room = go (kept r) took.counts ahead.room
      where
        go : (k : Bool) → m ≡ n + ind k → width * (n + length (cond k (r ∷ rs) rs)) ≤ length out
            → width * (m + length rs) ≤ length out
        go true e h = omega arith
        go false e h = omega arith

    next-is : sets out (width * n) (numbers (map mark (cond (kept r) (r ∷ rs) rs)))
        ≡ sets next (width * m) (numbers (map mark rs))
    next-is = go (kept r) took.counts took.leaves
      where
        go : (k : Bool) → m ≡ n + ind k → next ≡ cond k (with_record out n (mark r)) out
            → sets out (width * n) (numbers (map mark (cond k (r ∷ rs) rs)))
            ≡ sets next (width * m) (numbers (map mark rs))
        go true e w = rw (e, w) (records-put out n (mark r) (map mark rs))
        go false e w = let same : m ≡ n = omega arith in rw (same, w) refl

    pub ahead-next : Ahead whole mark lent next m rs
    ahead-next = record {
      room = omega (arith, next-room, next-length);
      long = next-length ∙ ahead.long;
      is = ahead.is ∙ next-is;
    }
