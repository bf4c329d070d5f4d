-- Laws of the parts that are handed back (specs/Parts.antt), case by case as a program finds them.
--     from_second-short, from_second-alone, from_second-both  by which arrays have a whole record
--     from_second-whole        the second array's head is there if it is the smaller
--     head_of-second, head_of-neither, head_of-first         which array holds the smaller head, in each case
--     first-whole, second-whole                              and that it has a whole record
--     run_of-none, run_of-some  the run, from the two places that were found
--     Within s a, run-within    a lies in s, and so does the run
--     run_rises, run_short      the two halves of that, for a function that cuts by the run
--     whole                     for a function's tactic line: first-whole, second-whole
-- Assumes nothing.
use mathlib.Core.Path.{◌≡◌, refl, sym, ap, subst}
use mathlib.Core.Logic.{◌⊎◌, inl, inr}
use mathlib.Core.Bool.{Bool, true, false, cond}
use mathlib.Core.List.{List}
use Prim.Native.Nat.{ℕ, ◌*◌, ◌<◌, ◌≤◌, zero-le}
use native.Mathlib.Omega.{arith}
use lib.IntN.{ℤ}
use lib.ListN.{length}
use borrow.Author.Tests.{leb-true, lt-leb, le-leb, lt-ltb, le-ltb}
use Rattle.std.specs.Prelude.{Option, Some, None}
use Rattle.counts.specs.Scan.{first_from}
use Rattle.counts.proofs.TestLaws.{and-true, lt-or-le}
use Rattle.counts.proofs.ScanLaws.{first_from-low, first_from-high}
use Rattle.plane.specs.declared.Point.{Point}
use Rattle.record.specs.Records.{width, record_at, record_count}
use Rattle.record.specs.Order.{precedes}
use Rattle.parts.specs.declared.Span.{Span}
use Rattle.parts.specs.declared.Which.{Which}
use Rattle.parts.specs.declared.Which.TheVariants.{First, Second}
use Rattle.parts.specs.Parts.{nowhere, at_corner, off_corner, first_there, run_of}
use Rattle.parts.specs.Parts.{whole_record, from_second, head_of}

abbrev pub Within : List ℤ → Span → Type 0
Within s a = (a.from ≤ a.upto) × (a.upto ≤ length s)

-- ---- the smaller head

module _ (a b : List ℤ) where
  pub from_second-short : length b < width → from_second a b ≡ false
  unfolding from_second
  from_second-short l = rw (lt-leb width (length b) l)

  pub from_second-alone : width ≤ length b → length a < width → from_second a b ≡ true
  unfolding from_second
  from_second-alone l h = rw (le-leb width (length b) l, lt-leb width (length a) h)

  pub from_second-both : width ≤ length b → width ≤ length a
      → from_second a b ≡ precedes (record_at b 0) (record_at a 0)
  unfolding from_second
  from_second-both l h = rw (le-leb width (length b) l, le-leb width (length a) h)

  pub from_second-whole : from_second a b ≡ true → width ≤ length b
  unfolding from_second
  from_second-whole e = leb-true width (length b) (and-true _ _ e).0

  -- ---- which array holds it

  pub head_of-second : from_second a b ≡ true → Some Second ≡ head_of a b
  unfolding head_of
  head_of-second e = rw e

  pub head_of-neither : from_second a b ≡ false → length a < width → None ≡ head_of a b
  unfolding head_of
  head_of-neither e l = rw (e, lt-leb width (length a) l)

  pub head_of-first : from_second a b ≡ false → width ≤ length a → Some First ≡ head_of a b
  unfolding head_of
  head_of-first e l = rw (e, le-leb width (length a) l)

  -- the array that holds it has a whole record
  abbrev Holds : Option Which → Type 0
  Holds None = 0 ≤ 0
  Holds (Some First) = width ≤ length a
  Holds (Some Second) = width ≤ length b

  holds : Holds (head_of a b)
  unfolding head_of
  holds = go (from_second a b) (whole_record a) refl refl
    where
      go : (c d : Bool) → from_second a b ≡ c → whole_record a ≡ d
          → Holds (cond c (Some Second) (cond d (Some First) None))
      go true d e h = from_second-whole e
      go false true e h = leb-true width (length a) h
      go false false e h = zero-le

  pub first-whole : head_of a b ≡ Some First → width ≤ length a
  first-whole e = subst Holds e holds

  pub second-whole : head_of a b ≡ Some Second → width ≤ length b
  second-whole e = subst Holds e holds

-- ---- the run

module _ (s : List ℤ) (p : Point) where
  module _ {i : ℕ} (first : i ≡ first_there s p) where
    pub run_of-none : record_count s ≤ i → run_of s p ≡ nowhere
    unfolding run_of
    run_of-none l = rw (sym first, le-ltb i (record_count s) l)

    pub run_of-some : {j : ℕ} → j ≡ first_from (off_corner p) (record_at s) i (record_count s) → i < record_count s
        → run_of s p ≡ record { from = width * i; upto = width * j }
    unfolding run_of
    run_of-some {j} e l =
        rw (sym first, lt-ltb i (record_count s) l) (ap (λ n. record { from = width * i; upto = width * n }) (sym e))

  -- it lies in the array
  pub run-within : {a : Span} → a ≡ run_of s p → Within s a
  run-within e = rw e (go (lt-or-le (first_there s p) (record_count s)))
    where
      there : first_there s p ≤ record_count s
      there = first_from-high (at_corner p) (record_at s) 0 (record_count s) zero-le

      go : (first_there s p < record_count s) ⊎ (record_count s ≤ first_there s p) → Within s (run_of s p)
      go (inl l) =
          rw (run_of-some refl refl l) (
            omega (arith, first_from-low (off_corner p) (record_at s) (first_there s p) (record_count s) there),
            omega (arith, first_from-high (off_corner p) (record_at s) (first_there s p) (record_count s) there),
          )
      go (inr l) = rw (run_of-none refl l) (zero-le, zero-le)

  pub run_rises : (run_of s p).from ≤ (run_of s p).upto
  run_rises = (run-within refl).0

  pub run_short : (run_of s p).upto ≤ length s
  run_short = (run-within refl).1

pub ruleset whole = (first-whole, second-whole)
