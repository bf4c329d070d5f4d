-- The two passes over the numbers of a file s: m numbers for the array, the first at the place `from`, of which k are
-- done, the next at the place `at`.
--     Passing       what the loop of `end_of` holds: the rest ends, or is refused, as the whole
--     Filling       what the loop of `fill` holds: k numbers of the array are as they will be, the rest as they were
-- Assumes nothing.
use mathlib.Core.Path.{◌≡◌, refl, sym, ap, ◌∙◌}
use mathlib.Core.Bool.{true, true≢false}
use mathlib.Core.List.{List, ◌∷◌, ◌++◌}
use Prim.Native.Nat.{ℕ, suc, ◌+◌, ◌-◌, ◌≤◌, ◌<◌}
use native.Mathlib.Nat.{sub-zero}
use native.Mathlib.Numerals.{add-one}
use native.Mathlib.Omega.{arith}
use lib.IntN.{ℤ, pos}
use lib.ListN.{length, get_or, set, take, drop, length-set, take-append-drop}
use lib.Seq.{drop-cons, take-suc-set, drop-set-lt, append_snoc}
use mir.Syntax.{w16}
use mir.Val.{SFits, to_z, of_z}
use mir.ValLaws.{to_z-of_z}
use Rattle.std.specs.Prelude.{Ok, Err}
use Rattle.file.specs.declared.FileRefusal.{FileRefusal}
use Rattle.file.specs.Fields.{Field, put, field_at}
use Rattle.file.specs.Files.{Taken, taken, refused, onto, fields}
use Rattle.file.specs.Answers.{contents}
use Rattle.file.specs.Steps.{is_taken, end_of}

-- ---- one number more

module _ (s : List ℕ) (k m at : ℕ) {f : Field} (h : k < m) (is : f ≡ field_at s k at) where
  left : m - k ≡ suc (m - (k + 1))
  left = omega arith

  pub fields_value : {z : ℤ} {next : ℕ} → f ≡ put z next
      → fields s k (m - k) at ≡ onto z (fields s (k + 1) (m - (k + 1)) next)
  unfolding fields
  fields_value e = rw (left, ← is, e, add-one k) refl

  pub fields-refused : {r : FileRefusal} → f ≡ Err r → fields s k (m - k) at ≡ refused r
  unfolding fields
  fields-refused e = rw (left, ← is, e) refl

end_of-onto : (z : ℤ) (t : Taken) → end_of (onto z t) ≡ end_of t
end_of-onto z (taken zs at) = refl
end_of-onto z (refused r) = refl

is_taken-onto : (z : ℤ) (t : Taken) → is_taken (onto z t) ≡ is_taken t
is_taken-onto z (taken zs at) = refl
is_taken-onto z (refused r) = refl

contents-onto : (z x : ℤ) (t : Taken) (out : List ℤ) → is_taken t ≡ true
    → contents (onto z t) (x ∷ out) ≡ z ∷ contents t out
contents-onto z x (taken zs at) out h = refl
contents-onto z x (refused r) out h = absurd (true≢false (sym h))

-- a number stored at the place k is one number of the array more that is as it will be
store : (out : List ℤ) (k : ℕ) (z : ℤ) (t : Taken) → k < length out → is_taken t ≡ true
    → take k out ++ contents (onto z t) (drop k out)
    ≡ take (k + 1) (set out k z) ++ contents t (drop (k + 1) (set out k z))
store out k z t h whole =
    let after = drop (suc k) out in
    rw (
      add-one k,
      take-suc-set out k z h,
      drop-set-lt (suc k) out k z (omega arith),
      drop-cons out k (pos 0) h,
      contents-onto z (get_or out k (pos 0)) t after whole,
    )
    (sym (append_snoc (take k out) z (contents t after)))

-- ---- the first pass

pub record Passing (s : List ℕ) (m from at k : ℕ) : Type 0 where
  pub low : k ≤ m
  pub is : end_of (fields s 0 m from) ≡ end_of (fields s k (m - k) at)

module _ (s : List ℕ) (m from : ℕ) where
  pub passing-none : Passing s m from from 0
  passing-none = record { low = omega arith; is = rw (sub-zero m) refl }

  module _ {at k : ℕ} {f : Field} (p : Passing s m from at k) (h : k < m) (is : f ≡ field_at s k at) where
    pub passing-more : {z : ℤ} {next : ℕ} → f ≡ put z next → Passing s m from next (k + 1)
    passing-more {z} {next} e =
        let rest = fields s (k + 1) (m - (k + 1)) next in
        record { low = omega arith; is = p.is ∙ ap end_of (fields_value s k m at h is e) ∙ end_of-onto z rest }

    pub passing-refused : {r : FileRefusal} → f ≡ Err r → Err r ≡ end_of (fields s 0 m from)
    passing-refused e = sym (p.is ∙ ap end_of (fields-refused s k m at h is e))

  pub passing-all : {at k : ℕ} → Passing s m from at k → m ≤ k → Ok at ≡ end_of (fields s 0 m from)
  unfolding fields
  passing-all {at} {k} p h = let none : m - k ≡ 0 = omega arith in sym (rw (none) at p.is)

-- ---- the second pass

pub record Filling (s : List ℕ) (m from : ℕ) (lent out : List ℤ) (at k : ℕ) : Type 0 where
  pub low : k ≤ m
  pub room : m ≤ length out
  pub long : length out ≡ length lent
  pub rest : is_taken (fields s k (m - k) at) ≡ true
  pub is : contents (fields s 0 m from) lent ≡ take k out ++ contents (fields s k (m - k) at) (drop k out)

module _ (s : List ℕ) (m from : ℕ) (lent : List ℤ) where
  pub filling-none : m ≤ length lent → is_taken (fields s 0 m from) ≡ true → Filling s m from lent lent from 0
  filling-none h t =
      let none = sub-zero m in
      record { low = omega arith; room = h; long = refl; rest = rw none t; is = rw none refl }

  module _ {out : List ℤ} {at k : ℕ} {f : Field} (p : Filling s m from lent out at k) (h : k < m)
      (is : f ≡ field_at s k at) where
    pub filling-more : {z : ℤ} {next : ℕ} → f ≡ put z next → SFits w16 z
        → Filling s m from lent (set out k (to_z w16 (of_z w16 z))) next (k + 1)
    filling-more {z} {next} e fits =
        let more = fields s (k + 1) (m - (k + 1)) next in
        let now = fields_value s k m at h is e in
        let rest = sym (is_taken-onto z more) ∙ ap is_taken (sym now) ∙ p.rest in
        rw (to_z-of_z w16 z fits)
        (record {
          low = omega arith;
          room = rw (length-set out k z) p.room;
          long = length-set out k z ∙ p.long;
          rest = rest;
          is = p.is ∙ rw now (store out k z more (omega (arith, p.room)) rest);
        })

    pub filling-never : {r : FileRefusal} → f ≡ Err r → out ≡ contents (fields s 0 m from) lent
    filling-never e = absurd (true≢false (sym p.rest ∙ ap is_taken (fields-refused s k m at h is e)))

  pub filling-all : {out : List ℤ} {at k : ℕ} → Filling s m from lent out at k → m ≤ k
      → out ≡ contents (fields s 0 m from) lent
  unfolding fields
  filling-all {out} {at} {k} p h =
      let none : m - k ≡ 0 = omega arith in
      sym (rw (none) at p.is ∙ take-append-drop k out)

pub ruleset passing = (passing-none, passing-more, passing-refused, passing-all)

pub ruleset filling = (filling-none, filling-more, filling-never, filling-all)
