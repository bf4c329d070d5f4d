-- One number of a file, by what the code has seen of the bytes from its place on: which are there, and which go on.
-- A law for each exit of `take_number`, by the bytes at and after its place; `grouping` has them all:
--     number_at-none, number_at-cut_one, number_at-cut_two    the bytes end: none is there, or one or two that go on
--     number_at-one, number_at-two, number_at-three    the number of so many groups
--     number_at-second_zero, number_at-third_zero    a last group of zero after another
--     number_at-third_high    a third group that goes on
-- Each is composed of the laws group by group, by the byte at a place or that the bytes end there:
--     drop_here    the bytes from a place on begin with the byte there
--     last_group-zero, last_group-value    a last group after another
--     third-ends, third-goes-on, third_last    what the third group gives, where two give n
--     second-ends, second-goes-on, second-last    the second, where one gives n
--     number-ends, number-goes-on, number-whole    the first
-- And by how many bytes there are from the place on:
--     rest s at    the bytes of the file s from the place `at` on
--     past_end, ends_before, ends_after-one, ends_after-two    the bytes end: the place is past them, none is there, or
--                  one or two that go on
--     one_group, two_groups, three_groups    the number of so many groups
--     second_zero, third_zero    a last group of zero after another
--     third_high   a third group that goes on
-- Assumes nothing.
use mathlib.Core.Path.{◌≡◌, refl, sym, ap, ◌∙◌}
use mathlib.Core.List.{List, [], ◌∷◌}
use Prim.Native.Nat.{ℕ, ◌+◌, ◌-◌, ◌*◌, ◌≤◌, ◌<◌}
use native.Mathlib.Numerals.{add-one}
use native.Mathlib.Omega.{arith}
use borrow.Author.Tests.{le-leb, lt-leb, eq-eqb, ne_eqb}
use lib.ListN.{length, get_or, take, drop, drop_of_length-le}
use lib.Seq.{drop-cons}
use Rattle.std.specs.Prelude.{Err}
use Rattle.std.proofs.lemmas.List.{take_rest}
use Rattle.number.specs.declared.NumberRefusal.TheVariants.{Ends, Overlong}
use Rattle.number.specs.Numbers.{Number, got, bits, number_in, number_at}
use Rattle.number.specs.Groups.{last_group, third_group, second_group, first_group}
use Rattle.number.proofs.NumberLaws.{number_in-groups}

abbrev rest : List ℕ → ℕ → List ℕ
rest s at = take (length s - at) (drop at s)

-- ---- bytes that are there

shown_one : (xs : List ℕ) → 1 ≤ length xs → xs ≡ get_or xs 0 0 ∷ drop 1 xs
shown_one [] h = absurd (omega arith)
shown_one (a ∷ xs) h = refl

shown_two : (xs : List ℕ) → 2 ≤ length xs → xs ≡ get_or xs 0 0 ∷ get_or xs 1 0 ∷ drop 2 xs
shown_two [] h = absurd (omega arith)
shown_two (a ∷ []) h = absurd (omega arith)
shown_two (a ∷ b ∷ xs) h = refl

shown_three : (xs : List ℕ) → 3 ≤ length xs → xs ≡ get_or xs 0 0 ∷ get_or xs 1 0 ∷ get_or xs 2 0 ∷ drop 3 xs
shown_three [] h = absurd (omega arith)
shown_three (a ∷ []) h = absurd (omega arith)
shown_three (a ∷ b ∷ []) h = absurd (omega arith)
shown_three (a ∷ b ∷ c ∷ xs) h = refl

-- ---- bytes that end, all of them going on

none : (xs : List ℕ) (at : ℕ) → length xs < 1 → number_in xs at ≡ Err (Ends at)
unfolding first_group
none [] at h = number_in-groups [] at
none (a ∷ xs) at h = absurd (omega arith)

one_on : (xs : List ℕ) (at : ℕ) → length xs < 2 → 128 ≤ get_or xs 0 0 → number_in xs at ≡ Err (Ends at)
unfolding first_group second_group
one_on [] at h k = absurd (omega arith)
one_on (a ∷ []) at h k = rw (number_in-groups (a ∷ []) at, le-leb 128 a k) refl
one_on (a ∷ b ∷ xs) at h k = absurd (omega arith)

two_on : (xs : List ℕ) (at : ℕ) → length xs < 3 → 128 ≤ get_or xs 0 0 → 128 ≤ get_or xs 1 0
    → number_in xs at ≡ Err (Ends at)
unfolding first_group second_group third_group
two_on [] at h k l = absurd (omega arith)
two_on (a ∷ []) at h k l = absurd (omega arith)
two_on (a ∷ b ∷ []) at h k l = rw (number_in-groups (a ∷ b ∷ []) at, le-leb 128 a k, le-leb 128 b l) refl
two_on (a ∷ b ∷ c ∷ xs) at h k l = absurd (omega arith)

-- ---- the number at a place of a file

module _ (s : List ℕ) (at : ℕ) where
  there : number_at s at ≡ number_in (rest s at) at
  there = ap (λ xs. number_in xs at) (sym (take_rest s at))

  as_shown : {bs : List ℕ} → rest s at ≡ bs → number_at s at ≡ first_group bs at
  as_shown {bs} e = there ∙ ap (λ xs. number_in xs at) e ∙ number_in-groups bs at

  pub past_end : length s < at → number_at s at ≡ Err (Ends at)
  past_end h = ap (λ xs. number_in xs at) (drop_of_length-le s {i = at} (omega arith)) ∙ none [] at (omega arith)

  pub ends_before : length (rest s at) < 1 → number_at s at ≡ Err (Ends at)
  ends_before h = there ∙ none (rest s at) at h

  pub ends_after-one : length (rest s at) < 2 → 128 ≤ get_or (rest s at) 0 0 → number_at s at ≡ Err (Ends at)
  ends_after-one h k = there ∙ one_on (rest s at) at h k

  pub ends_after-two : length (rest s at) < 3 → 128 ≤ get_or (rest s at) 0 0 → 128 ≤ get_or (rest s at) 1 0
      → number_at s at ≡ Err (Ends at)
  ends_after-two h k l = there ∙ two_on (rest s at) at h k l

  pub one_group : 1 ≤ length (rest s at) → get_or (rest s at) 0 0 < 128
      → number_at s at ≡ got (bits (get_or (rest s at) 0 0)) (at + 1)
  unfolding first_group
  one_group h k = as_shown (shown_one (rest s at) h) ∙ rw (lt-leb 128 (get_or (rest s at) 0 0) k) refl

  module _ (h : 2 ≤ length (rest s at)) (k : 128 ≤ get_or (rest s at) 0 0) where
    pub second_zero : get_or (rest s at) 1 0 ≡ 0 → number_at s at ≡ Err (Overlong at)
    unfolding first_group second_group
    second_zero e =
        as_shown (shown_two (rest s at) h)
        ∙ rw (
          le-leb 128 (get_or (rest s at) 0 0) k,
          lt-leb 128 (get_or (rest s at) 1 0) (omega arith),
          eq-eqb (get_or (rest s at) 1 0) 0 e,
        )
        refl

    pub two_groups : 0 < get_or (rest s at) 1 0 → get_or (rest s at) 1 0 < 128
        → number_at s at ≡ got (bits (get_or (rest s at) 0 0) + 128 * bits (get_or (rest s at) 1 0)) (at + 2)
    unfolding first_group second_group
    two_groups p l =
        as_shown (shown_two (rest s at) h)
        ∙ rw (
          le-leb 128 (get_or (rest s at) 0 0) k,
          lt-leb 128 (get_or (rest s at) 1 0) l,
          ne_eqb (get_or (rest s at) 1 0) 0 (λ e. omega arith),
        )
        refl

  module _ (h : 3 ≤ length (rest s at)) (k : 128 ≤ get_or (rest s at) 0 0) (l : 128 ≤ get_or (rest s at) 1 0) where
    third : number_at s at ≡ third_group
        (bits (get_or (rest s at) 0 0) + 128 * bits (get_or (rest s at) 1 0))
        (get_or (rest s at) 2 0 ∷ drop 3 (rest s at)) at
    unfolding first_group second_group
    third =
        as_shown (shown_three (rest s at) h)
        ∙ rw (le-leb 128 (get_or (rest s at) 0 0) k, le-leb 128 (get_or (rest s at) 1 0) l) refl

    pub third_high : 128 ≤ get_or (rest s at) 2 0 → number_at s at ≡ Err (Overlong at)
    unfolding third_group
    third_high m = third ∙ rw (le-leb 128 (get_or (rest s at) 2 0) m) refl

    pub third_zero : get_or (rest s at) 2 0 ≡ 0 → number_at s at ≡ Err (Overlong at)
    unfolding third_group
    third_zero e =
        third
        ∙ rw (lt-leb 128 (get_or (rest s at) 2 0) (omega arith), eq-eqb (get_or (rest s at) 2 0) 0 e) refl

    pub three_groups : 0 < get_or (rest s at) 2 0 → get_or (rest s at) 2 0 < 128
        → number_at s at
        ≡ got
        (bits (get_or (rest s at) 0 0) + 128 * bits (get_or (rest s at) 1 0) + 16384 * bits (get_or (rest s at) 2 0))
        (at + 3)
    unfolding third_group
    three_groups p m =
        third
        ∙ rw (lt-leb 128 (get_or (rest s at) 2 0) m, ne_eqb (get_or (rest s at) 2 0) 0 (λ e. omega arith)) refl

-- ---- group by group

-- the bytes from a place on begin with the byte there
pub drop_here : (s : List ℕ) (i : ℕ) → i < length s → drop i s ≡ get_or s i 0 ∷ drop (i + 1) s
drop_here s i h = rw (add-one i) (drop-cons s i 0 h)

module _ (b n at next : ℕ) {r : Number} where
  pub last_group-zero : b ≡ 0 → r ≡ Err (Overlong at) → r ≡ last_group b n at next
  last_group-zero h e = rw (eq-eqb b 0 h) e

  pub last_group-value : (b ≡ 0 → ⊥) → r ≡ got n next → r ≡ last_group b n at next
  last_group-value h e = rw (ne_eqb b 0 h) e

module _ (s : List ℕ) (n at : ℕ) {r : Number} where
  pub third-ends : length s ≤ at + 2 → r ≡ Err (Ends at) → r ≡ third_group n (drop (at + 2) s) at
  unfolding third_group
  third-ends h e = rw (drop_of_length-le s {i = at + 2} h) e

  pub third-goes-on : at + 2 < length s → 128 ≤ get_or s (at + 2) 0 → r ≡ Err (Overlong at)
      → r ≡ third_group n (drop (at + 2) s) at
  unfolding third_group
  third-goes-on h k e = rw (drop_here s (at + 2) h, le-leb 128 (get_or s (at + 2) 0) k) e

  pub third_last : {m : ℕ} → at + 2 < length s → get_or s (at + 2) 0 < 128 → m ≡ bits (get_or s (at + 2) 0)
      → r ≡ last_group (get_or s (at + 2) 0) (n + 16384 * m) at (at + 3) → r ≡ third_group n (drop (at + 2) s) at
  unfolding third_group
  third_last h k b e = rw (drop_here s (at + 2) h, lt-leb 128 (get_or s (at + 2) 0) k, ← b) e

  pub second-ends : length s ≤ at + 1 → r ≡ Err (Ends at) → r ≡ second_group n (drop (at + 1) s) at
  unfolding second_group
  second-ends h e = rw (drop_of_length-le s {i = at + 1} h) e

  pub second-goes-on : {m : ℕ} → at + 1 < length s → 128 ≤ get_or s (at + 1) 0 → m ≡ bits (get_or s (at + 1) 0)
      → r ≡ third_group (n + 128 * m) (drop (at + 2) s) at → r ≡ second_group n (drop (at + 1) s) at
  unfolding second_group
  second-goes-on h k b e =
      let after : at + 1 + 1 ≡ at + 2 = omega arith in
      rw (drop_here s (at + 1) h, le-leb 128 (get_or s (at + 1) 0) k, ← b, after) e

  pub second-last : {m : ℕ} → at + 1 < length s → get_or s (at + 1) 0 < 128 → m ≡ bits (get_or s (at + 1) 0)
      → r ≡ last_group (get_or s (at + 1) 0) (n + 128 * m) at (at + 2) → r ≡ second_group n (drop (at + 1) s) at
  unfolding second_group
  second-last h k b e = rw (drop_here s (at + 1) h, lt-leb 128 (get_or s (at + 1) 0) k, ← b) e

module _ (s : List ℕ) (at : ℕ) {r : Number} where
  pub number-ends : length s ≤ at → r ≡ Err (Ends at) → r ≡ number_at s at
  unfolding first_group
  number-ends h e = rw (number_in-groups (drop at s) at, drop_of_length-le s {i = at} h) e

  pub number-goes-on : {m : ℕ} → at < length s → 128 ≤ get_or s at 0 → m ≡ bits (get_or s at 0)
      → r ≡ second_group m (drop (at + 1) s) at → r ≡ number_at s at
  unfolding first_group
  number-goes-on h k b e = rw (number_in-groups (drop at s) at, drop_here s at h, le-leb 128 (get_or s at 0) k, ← b) e

  pub number-whole : {m : ℕ} → at < length s → get_or s at 0 < 128 → m ≡ bits (get_or s at 0)
      → r ≡ got m (at + 1) → r ≡ number_at s at
  unfolding first_group
  number-whole h k b e = rw (number_in-groups (drop at s) at, drop_here s at h, lt-leb 128 (get_or s at 0) k, ← b) e

-- ---- exit by exit, as `take_number` asks whether a byte is there, and which

module _ (s : List ℕ) (at : ℕ) where
  pub number_at-none : length s ≤ at → Err (Ends at) ≡ number_at s at
  number_at-none h = number-ends s at h refl

  pub number_at-one : at < length s → get_or s at 0 < 128 → got (bits (get_or s at 0)) (at + 1) ≡ number_at s at
  number_at-one h k = number-whole s at h k refl refl

  module _ (h : at < length s) (k : 128 ≤ get_or s at 0) where
    pub number_at-cut_one : length s ≤ at + 1 → Err (Ends at) ≡ number_at s at
    number_at-cut_one i = number-goes-on s at h k refl (second-ends s _ at i refl)

    module _ (i : at + 1 < length s) where
      pub number_at-second_zero : get_or s (at + 1) 0 ≡ 0 → Err (Overlong at) ≡ number_at s at
      number_at-second_zero e =
          number-goes-on s at h k refl (second-last s _ at i (omega arith) refl (last_group-zero _ _ at _ e refl))

      pub number_at-two : 0 < get_or s (at + 1) 0 → get_or s (at + 1) 0 < 128
          → got (bits (get_or s at 0) + 128 * bits (get_or s (at + 1) 0)) (at + 2) ≡ number_at s at
      number_at-two p l =
          number-goes-on s at h k refl
          (second-last s _ at i l refl (last_group-value _ _ at _ (λ e. omega arith) refl))

      module _ (l : 128 ≤ get_or s (at + 1) 0) where
        goes_on-twice : {r : Number}
            → r ≡ third_group (bits (get_or s at 0) + 128 * bits (get_or s (at + 1) 0)) (drop (at + 2) s) at
            → r ≡ number_at s at
        goes_on-twice e = number-goes-on s at h k refl (second-goes-on s _ at i l refl e)

        pub number_at-cut_two : length s ≤ at + 2 → Err (Ends at) ≡ number_at s at
        number_at-cut_two j = goes_on-twice (third-ends s _ at j refl)

        module _ (j : at + 2 < length s) where
          pub number_at-third_high : 128 ≤ get_or s (at + 2) 0 → Err (Overlong at) ≡ number_at s at
          number_at-third_high m = goes_on-twice (third-goes-on s _ at j m refl)

          pub number_at-third_zero : get_or s (at + 2) 0 ≡ 0 → Err (Overlong at) ≡ number_at s at
          number_at-third_zero e =
              goes_on-twice (third_last s _ at j (omega arith) refl (last_group-zero _ _ at _ e refl))

          pub number_at-three : 0 < get_or s (at + 2) 0 → get_or s (at + 2) 0 < 128
              → got
              (bits (get_or s at 0) + 128 * bits (get_or s (at + 1) 0) + 16384 * bits (get_or s (at + 2) 0))
              (at + 3)
              ≡ number_at s at
          number_at-three p m =
              goes_on-twice (third_last s _ at j m refl (last_group-value _ _ at _ (λ e. omega arith) refl))

pub ruleset grouping = (
  number_at-none,
  number_at-one,
  number_at-cut_one,
  number_at-second_zero,
  number_at-two,
  number_at-cut_two,
  number_at-third_high,
  number_at-third_zero,
  number_at-three,
)
