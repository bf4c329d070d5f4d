-- What the two arrays of a chart that is cut tell of a record (specs/Known.antt).
--     known_region        the chart is a region
--     known_start, known_first      the start of its walk, the first record of its cycle
--     is-first, not_first           it is the first of its cycle, by its number in `firsts`
--     first-within                  that number is the place of a record
--     first-not                     where it is not the first it is not that of an outer cycle
--     outer-there, outer-elsewhere  of an outer cycle of the walk that starts at w
--     start_low, first_low          both are places of records
--     first_marked        a first record is that of an outer cycle: by its mark
--     kind-outer, kind-hole   0 or 1, by whether its first record is that of an outer cycle
--     told                for the methods that read the arrays
-- Assumes nothing.
use mathlib.Core.Path.{◌≡◌, sym, ap, ap₂, ◌∙◌}
use mathlib.Core.Bool.{Bool, true, false, cond, ◌&&◌}
use mathlib.Core.List.{List}
use Prim.Native.Nat.{ℕ, ◌<◌, ◌≤◌}
use native.Mathlib.Omega.{arith}
use lib.Dec.{eqb}
use lib.IntN.{ℤ}
use lib.ListN.{get_or}
use borrow.Author.Tests.{eq-eqb, ne_eqb, eqb-true}
use Rattle.record.specs.declared.Record.{Record}
use Rattle.record.specs.Records.{record_at, record_count, marked}
use Rattle.chart.specs.Regions.{Region}
use Rattle.chart.proofs.RegionLaws.{accepted_region}
use Rattle.walks.specs.Cycles.{start_of, first_of, is_first}
use Rattle.walks.specs.Faces.{is_outer, first_outer}
use Rattle.faces.specs.Lists.{kind_of}
use Rattle.faces.specs.Known.{Known}
use Rattle.walks.proofs.StartLaws.{start-less}
use Rattle.walks.proofs.FirstRecordLaws.{first-less}
use Rattle.walks.proofs.SideLaws.{outer-mark}

module _ {s : List ℤ} {starts firsts : List ℕ} (known : Known s starts firsts) where
  pub known_region : Region s
  known_region = accepted_region s known.sound

  module _ {i : ℕ} (l : i < record_count s) where
    pub known_start : get_or starts i 0 ≡ start_of s i
    known_start = known.start i l

    pub known_first : get_or firsts i 0 ≡ first_of s i
    known_first = known.first i l

    pub is-first : get_or firsts i 0 ≡ i → is_first s i ≡ true
    is-first e = eq-eqb _ _ (sym (known.first i l) ∙ e)

    pub not_first : (get_or firsts i 0 ≡ i → ⊥) → is_first s i ≡ false
    not_first d = ne_eqb _ _ (λ e. d (known.first i l ∙ e))

    pub first-within : get_or firsts i 0 ≤ record_count s
    first-within = omega (arith, known.first i l, first-less known_region i l)

    pub first-not : {b : Bool} → b ≡ false → (get_or firsts i 0 ≡ i → ⊥) → b ≡ first_outer s i
    first-not h d = h ∙ ap (λ b. b && is_outer s i) (sym (not_first d))

    module _ (w : ℕ) {b : Bool} (is : b ≡ first_outer s i) where
      pub outer-there : b ≡ true → eqb (get_or starts i 0) w ≡ (first_outer s i && eqb (start_of s i) w)
      outer-there t = ap₂ (λ b v. b && eqb v w) (sym t ∙ is) (known.start i l)

      pub outer-elsewhere : b ≡ false → b ≡ (first_outer s i && eqb (start_of s i) w)
      outer-elsewhere t = t ∙ ap (λ b. b && eqb (start_of s i) w) (sym t ∙ is)

module _ {s : List ℤ} (region : Region s) {i : ℕ} (l : i < record_count s) where
  pub start_low : start_of s i < record_count s
  start_low = start-less region i l

  pub first_low : first_of s i < record_count s
  first_low = first-less region i l

  -- at a first record the mark tells the cycle's side
  pub first_marked : {r : Record} → r ≡ record_at s i → is_first s i ≡ true → eqb r.mark marked ≡ is_outer s i
  first_marked e t =
      ap (λ r. eqb r.mark marked) e
      ∙ ap (λ j. eqb (record_at s j).mark marked) (sym (eqb-true _ _ t))
      ∙ sym (outer-mark region i l)

-- ---- outer or hole

module _ (s : List ℤ) (i : ℕ) {b : Bool} (first : is_first s i ≡ true) (is : b ≡ first_outer s i) where
  side : b ≡ is_outer s i
  side = is ∙ ap (λ b. b && is_outer s i) first

  pub kind-outer : b ≡ true → 0 ≡ kind_of s i
  kind-outer t = ap (λ b. cond b 0 1) (sym t ∙ side)

  pub kind-hole : b ≡ false → 1 ≡ kind_of s i
  kind-hole t = ap (λ b. cond b 0 1) (sym t ∙ side)

pub ruleset told = (known_region, known_start, known_first, start_low, first_low)
