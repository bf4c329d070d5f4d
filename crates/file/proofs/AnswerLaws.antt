-- What a caller of `read` knows by its contract.
--     Took s room lent out n   n records of the file s now stand at the beginning of the array, which has room for
--                              them, and places beyond are as they were
--     reads-took               so it is where the answer is n records
--     reads-refused, reads-untouched    a refusal is the file's, and the array is as it was
-- Assumes nothing.
use mathlib.Core.Path.{◌≡◌, refl, sym, ap, ◌∙◌}
use mathlib.Core.List.{List}
use Prim.Native.Nat.{ℕ, ◌*◌, ◌/◌, ◌≤◌}
use native.Mathlib.Omega.{arith}
use lib.IntN.{ℤ}
use lib.ListN.{length, take, drop}
use lib.Seq.{take_at, drop_at}
use Rattle.record.specs.Records.{width}
use Rattle.std.specs.Prelude.{Ok, Err}
use Rattle.file.specs.declared.FileRefusal.{FileRefusal}
use Rattle.chart.specs.Verdicts.{limit}
use Rattle.file.specs.Files.{Taken, taken, refused, file_of}
use Rattle.file.specs.Answers.{Answer, answer_of, contents, Reads}
use Rattle.file.specs.Steps.{is_taken}
use Rattle.file.proofs.FileLaws.{fields-length}
use Rattle.file.proofs.TakenLaws.{file_of-parts}

pub record Took (s : List ℕ) (room : ℕ) (lent out : List ℤ) (n : ℕ) : Type 0 where
  pub end : ℕ
  pub is : file_of s room ≡ taken (take (width * n) out) end
  pub few : n ≤ limit
  pub fits : width * n ≤ room
  pub beyond : drop (width * n) out ≡ drop (width * n) lent

-- the numbers that are taken are five for each record of the count
file_of-length : (s : List ℕ) (room end : ℕ) (zs : List ℤ) → file_of s room ≡ taken zs end
    → (n : ℕ) × (length zs ≡ width * n) × (n ≤ limit) × (width * n ≤ room)
file_of-length s room end zs e =
    let p = file_of-parts s room end zs e in
    let long = fields-length s 0 (width * p.count) p.first (ap is_taken p.records) in
    (p.count, rw p.records at long, p.few, p.fits)

not-records : {r : FileRefusal} {n : ℕ} → ◌≡◌ {A = Answer} (Ok n) (Err r) → ⊥
not-records e = let o : ◌≡◌ {A = ℕ} 0 1 = cc in omega arith

pub reads-took : (s : List ℕ) (lent out : List ℤ) {n : ℕ} {a : Answer} → Reads s lent out a
    → a ≡ Ok n → Took s (length lent) lent out n
reads-took s lent out {n} r e = go (file_of s (length lent)) refl (sym e ∙ r.says) r.leaves
  where
    go : (t : Taken) → file_of s (length lent) ≡ t → Ok n ≡ answer_of t → out ≡ contents t lent
        → Took s (length lent) lent out n
    go (taken zs end) h m w =
        let p = file_of-length s (length lent) end zs h in
        let same : n ≡ length zs / width = cc in
        let long : length zs ≡ width * n = omega (arith, p.1) in
        let few : n ≤ limit = omega (arith, p.1, p.2) in
        let fits : width * n ≤ length lent = omega (arith, p.1, p.3) in
        let whole = ap (take (width * n)) w ∙ take_at zs (drop (length zs) lent) (width * n) long in
        let rest = drop (length zs) lent in
        let beyond = ap (drop (width * n)) w ∙ drop_at zs rest (width * n) long ∙ ap (λ k. drop k lent) long in
        record { end = end; is = h ∙ ap (λ ys. taken ys end) (sym whole); few = few; fits = fits; beyond = beyond }
    go (refused q) h m w = absurd (not-records m)

pub reads-refused : (s : List ℕ) (lent out : List ℤ) {q : FileRefusal} {a : Answer} → Reads s lent out a → a ≡ Err q
    → file_of s (length lent) ≡ refused q
reads-refused s lent out {q} r e = go (file_of s (length lent)) refl (sym e ∙ r.says)
  where
    go : (t : Taken) → file_of s (length lent) ≡ t → Err q ≡ answer_of t → file_of s (length lent) ≡ refused q
    go (taken zs end) h m = absurd (not-records (sym m))
    go (refused x) h m = cc

pub reads-untouched : (s : List ℕ) (lent out : List ℤ) {q : FileRefusal} {a : Answer}
    → Reads s lent out a → a ≡ Err q → out ≡ lent
reads-untouched s lent out r e = rw (reads-refused s lent out r e) at r.leaves
