-- What is known of a chart file that is taken (specs/Files.antt).
--     Parts s room end zs, file_of-parts   its count, its records, and that nothing is left after them
-- Assumes nothing.
use mathlib.Core.Path.{◌≡◌, refl}
use mathlib.Core.Bool.{Bool, true, false, cond}
use mathlib.Core.List.{List}
use Prim.Native.Nat.{ℕ, ◌*◌, ◌≤◌}
use native.Mathlib.Omega.{arith}
use lib.Dec.{ltb}
use lib.IntN.{ℤ}
use lib.ListN.{length}
use borrow.Author.Tests.{ltb-false}
use Rattle.record.specs.Records.{width}
use Rattle.std.specs.Prelude.{Ok, Err}
use Rattle.file.specs.declared.FileRefusal.{FileRefusal}
use Rattle.chart.specs.Verdicts.{limit}
use Rattle.number.specs.Numbers.{Number, got, number_at}
use Rattle.file.specs.Files.{Taken, taken, refused, fields, whole, counted, file_of}
use Rattle.file.proofs.StepLaws.{not_taken}

pub record Parts (s : List ℕ) (room end : ℕ) (zs : List ℤ) : Type 0 where
  pub count : ℕ
  pub first : ℕ
  pub counts : number_at s 0 ≡ got count first
  pub few : count ≤ limit
  pub fits : width * count ≤ room
  pub records : fields s 0 (width * count) first ≡ taken zs end
  pub ends : length s ≤ end

-- a test that stands before a refusal was not passed
not-refused : (t : Bool) (r : FileRefusal) (x : Taken) {zs : List ℤ} {end : ℕ} → cond t (refused r) x ≡ taken zs end
    → (t ≡ false) × (x ≡ taken zs end)
not-refused true r x e = absurd (not_taken e)
not-refused false r x e = (refl, e)

-- nothing is left after the numbers
whole-taken : (s : List ℕ) (t : Taken) {zs : List ℤ} {end : ℕ} → whole s t ≡ taken zs end
    → (t ≡ taken zs end) × (length s ≤ end)
whole-taken s (taken ys last) {zs} {end} e =
    let w = not-refused (ltb last (length s)) _ (taken ys last) e in
    let l : last ≡ end = cc in
    (w.1, omega (arith, ltb-false last (length s) w.0))
whole-taken s (refused r) e = absurd (not_taken e)

-- a file that is taken is its count, its records and nothing else
pub file_of-parts : (s : List ℕ) (room end : ℕ) (zs : List ℤ) → file_of s room ≡ taken zs end → Parts s room end zs
unfolding file_of
file_of-parts s room end zs e = go (number_at s 0) refl e
  where
    go : (x : Number) → number_at s 0 ≡ x → counted s room x ≡ taken zs end → Parts s room end zs
    go (Ok (n, first)) h e =
        let a = not-refused (ltb limit n) _ _ e in
        let b = not-refused (ltb room (width * n)) _ _ a.1 in
        let c = whole-taken s (fields s 0 (width * n) first) b.1 in
        record {
          count = n;
          first = first;
          counts = h;
          few = ltb-false limit n a.0;
          fits = ltb-false room (width * n) b.0;
          records = c.0;
          ends = c.1;
        }
    go (Err r) h e = absurd (not_taken e)
