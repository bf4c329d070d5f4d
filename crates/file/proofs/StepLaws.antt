-- What is known of numbers of a chart file that are taken (specs/Fields.antt, specs/Files.antt).
--     not_taken          those that are refused are not
--     Takes s k at next, field_at-next   of the number at the place `at` that the array gets at its place k
--     Step s k m at end zs, fields-step    of one number and m more: the first is taken, and so are the others
-- Assumes nothing.
use mathlib.Core.Path.{◌≡◌, refl, sym, ap, ◌∙◌}
use Rattle.std.specs.Prelude.{Option, Some, None, Ok, Err, is_some}
use mathlib.Core.Bool.{Bool, true, false, cond, true≢false}
use mathlib.Core.List.{List, ◌∷◌}
use Prim.Native.Nat.{ℕ, suc, ◌+◌, ◌<◌, ◌≤◌}
use native.Mathlib.Omega.{arith}
use lib.Dec.{leb}
use lib.IntN.{ℤ, pos}
use lib.ListN.{length, drop, length-drop}
use borrow.Author.Tests.{leb-true}
use Rattle.file.specs.declared.FileRefusal.{FileRefusal}
use Rattle.number.specs.Numbers.{Number, number_at}
use Rattle.file.specs.Fields.{Field, put, coordinate_for, mark_for, is_mark, number_for, fit, field, field_in, field_at}
use Rattle.file.specs.Files.{Taken, taken, refused, onto, after, fields}
use Rattle.number.proofs.SizeLaws.{number_in-size}

-- two numbers for the array that are one are one after the other
abbrev parts : Field → ℤ × ℕ
parts (Ok x) = x
parts (Err r) = (pos 0, 0)

put-one : {y z : ℤ} {end next : ℕ} → put y end ≡ put z next → end ≡ next
put-one e = ap (λ f. (parts f).1) e

-- a refusal is no number for the array
not-value : {r : FileRefusal} {z : ℤ} {next : ℕ} → ◌≡◌ {A = Field} (Err r) (put z next) → ⊥
not-value e = let o : ◌≡◌ {A = ℕ} 0 1 = cc in omega arith

-- numbers that are refused are not taken
pub not_taken : {r : FileRefusal} {zs : List ℤ} {end : ℕ} → refused r ≡ taken zs end → ⊥
not_taken e = let o : ◌≡◌ {A = ℕ} 0 1 = cc in omega arith

-- ---- one number for the array

pub record Takes (s : List ℕ) (k at next : ℕ) : Type 0 where
  pub after : at < next
  pub within : next ≤ length s
  pub most : next ≤ at + 3
  pub mark : is_mark k ≡ true → next ≡ at + 1

-- a number that fits is the number put
fit-put : (o : Option ℤ) (z : ℤ) (at end next : ℕ) → fit o at end ≡ put z next → (is_some o ≡ true) × (end ≡ next)
fit-put (Some y) z at end next e = (refl, put-one e)
fit-put None z at end next e = absurd (not-value e)

-- a mark is at most 1
mark_small : (n : ℕ) → is_some (mark_for n) ≡ true → n ≤ 1
mark_small n h = go (leb n 1) refl h
  where
    go : (t : Bool) → leb n 1 ≡ t → is_some (cond t (Some (pos n)) None) ≡ true → n ≤ 1
    go true e h = leb-true n 1 e
    go false e h = absurd (true≢false (sym h))

field_next : (k n at end : ℕ) (z : ℤ) (next : ℕ) → field k n at end ≡ put z next
    → (end ≡ next) × (is_mark k ≡ true → n ≤ 1)
unfolding field number_for
field_next k n at end z next e =
    let w = fit-put (number_for k n) z at end next e in
    (w.1, λ t. mark_small n (ap (λ b. is_some (cond b (mark_for n) (coordinate_for n))) (sym t) ∙ w.0))

-- a number that the array gets has a byte at the least and three at the most, all in the file; a mark has one
pub field_at-next : (s : List ℕ) (k at : ℕ) (z : ℤ) (next : ℕ) → field_at s k at ≡ put z next → Takes s k at next
field_at-next s k at z next e = go (number_at s at) refl e
  where
    go : (x : Number) → number_at s at ≡ x → field_in k at x ≡ put z next → Takes s k at next
    go (Ok (n, end)) h e =
        let v = field_next k n at end z next e in
        let w = number_in-size (drop at s) at n end h in
        let d = length-drop at s in
        record {
          after = omega arith;
          within = omega arith;
          most = omega arith;
          mark = λ t. omega (arith, w.one (omega (arith, v.1 t)));
        }
    go (Err r) h e = absurd (not-value e)

-- ---- numbers one after another

pub record Step (s : List ℕ) (k m at end : ℕ) (zs : List ℤ) : Type 0 where
  pub value : ℤ
  pub next : ℕ
  pub rest : List ℤ
  pub is : zs ≡ value ∷ rest
  pub first : field_at s k at ≡ put value next
  pub others : fields s (suc k) m next ≡ taken rest end

-- the first number and the others after it
pub fields-step : (s : List ℕ) (k m at end : ℕ) (zs : List ℤ) → fields s k (suc m) at ≡ taken zs end
    → Step s k m at end zs
unfolding fields
fields-step s k m at end zs e = by_first (field_at s k at) refl e
  where
    by-others : (z : ℤ) (next : ℕ) → field_at s k at ≡ put z next → (t : Taken) → fields s (suc k) m next ≡ t
        → onto z t ≡ taken zs end → Step s k m at end zs
    by-others z next h (taken ys last) g e =
        record { value = z; next = next; rest = ys; is = cc; first = h; others = cc }
    by-others z next h (refused r) g e = absurd (not_taken e)

    by_first : (x : Field) → field_at s k at ≡ x → after x (fields s (suc k) m) ≡ taken zs end → Step s k m at end zs
    by_first (Ok (z, next)) h e = by-others z next h (fields s (suc k) m next) refl e
    by_first (Err r) h e = absurd (not_taken e)
