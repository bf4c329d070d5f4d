-- The way, as the code finds it: the half walked, the other half, and what comes next around a corner.
--     departs-marked, departs-unmarked     whether a segment is walked from its dominating end, by its mark
--     back_found          the place of the other half of record i
--     first-zero, first-after              whether no record at its corner comes before record j
--     not-first-before    where one does, j is not 0
--     past_some           the first record past the corner of record j comes after it, so it is not 0
--     clockwise-last, clockwise-before     the first record met, clockwise from record j
--     next-found          the record walked after record i
-- Assumes nothing.
use mathlib.Core.Path.{◌≡◌, refl, sym, ap, ◌∙◌}
use mathlib.Core.Logic.{⊎_elim}
use mathlib.Core.Bool.{Bool, true, false, not, true≢false}
use mathlib.Core.List.{List}
use Prim.Native.Nat.{ℕ, ◌-◌, ◌≤◌, ◌<◌}
use native.Mathlib.Omega.{arith}
use lib.IntN.{ℤ}
use borrow.Author.Tests.{eq-eqb, ne_eqb}
use Rattle.counts.specs.Scan.{first_from, Found}
use Rattle.counts.proofs.TestLaws.{lt-or-le}
use Rattle.counts.proofs.ReadLaws.{found-passes}
use Rattle.plane.proofs.PointLaws.{same_refl}
use Rattle.record.specs.declared.Record.{Record}
use Rattle.record.specs.Records.{record_at, record_count, marked}
use Rattle.record.specs.Order.{left, other_half}
use Rattle.segment.specs.Segments.{is_record}
use Rattle.parts.specs.Parts.{off_corner}
use Rattle.chart.specs.Regions.{Region}
use Rattle.around.specs.Departing.{departs}
use Rattle.walks.specs.Ways.{way_back, first_here, clockwise, next}
use Rattle.cycles.specs.Steps.{PlaceOf}
use Rattle.walks.proofs.PlaceLaws.{back-less}

module _ (r : Record) {b : Bool} (e : b ≡ left r) where
  pub departs-marked : r.mark ≡ marked → b ≡ departs r
  departs-marked m = rw (eq-eqb r.mark marked m) e

  pub departs-unmarked : (r.mark ≡ marked → ⊥) → not b ≡ departs r
  departs-unmarked m = rw (ne_eqb r.mark marked m) (ap not e)

module _ (s : List ℤ) where
  pub back_found : (i : ℕ) {j : ℕ} {r h : Record} → Region s → i < record_count s → r ≡ record_at s i → h ≡ other_half r
      → Found (is_record h) (record_at s) 0 (record_count s) j → PlaceOf s (way_back s i) j
  unfolding way_back
  back_found i {j} region l e g found =
      let is : j ≡ way_back s i = found.is
      ∙ ap (λ h. first_from (is_record h) (record_at s) 0 (record_count s)) (g ∙ ap other_half e)
      in
      record { is = is; less = omega (arith, is, back-less region i l) }

  -- ---- around a corner

  pub first-zero : (j : ℕ) → j ≡ 0 → true ≡ first_here s j
  first-zero j e = rw (eq-eqb j 0 e) refl

  pub first-after : (j : ℕ) {b : Bool} {r : Record} → (j ≡ 0 → ⊥) → r ≡ record_at s j
      → b ≡ off_corner r.dom (record_at s (j - 1)) → b ≡ first_here s j
  first-after j e g h = rw (ne_eqb j 0 e) (h ∙ ap (λ r. off_corner r.dom (record_at s (j - 1))) g)

  pub not-first-before : (j : ℕ) {b : Bool} → b ≡ first_here s j → b ≡ false → 1 ≤ j
  not-first-before j e t =
      ⊎_elim (λ l. omega arith) (λ l. absurd (true≢false (first-zero j (omega arith) ∙ sym e ∙ t))) (lt-or-le 0 j)

  past_after : (j : ℕ) {i n : ℕ} {r : Record} → r ≡ record_at s j
      → Found (off_corner r.dom) (record_at s) j n i → j < n → j < i
  past_after j {i} {n} {r} e h l = ⊎_elim (λ g. g) (λ g. absurd (here g)) (lt-or-le j i)
    where
      here : i ≤ j → ⊥
      here g =
          let at : i ≡ j = omega (arith, h.low) in
          true≢false (sym (found-passes (off_corner r.dom) (record_at s) h (omega arith))
          ∙ rw (at, e, same_refl (record_at s j).dom) refl)

  pub past_some : (j : ℕ) {i n : ℕ} {r : Record} → r ≡ record_at s j
      → Found (off_corner r.dom) (record_at s) j n i → j < n → 1 ≤ i
  past_some j e h l = omega (arith, past_after j e h l)

  pub clockwise-last : (j : ℕ) {i : ℕ} {b : Bool} {r : Record} → j < record_count s → b ≡ first_here s j → b ≡ true
      → r ≡ record_at s j → Found (off_corner r.dom) (record_at s) j (record_count s) i
      → PlaceOf s (clockwise s j) (i - 1)
  unfolding clockwise
  clockwise-last j {i} l e t g h = record {
    is = rw (sym e ∙ t)
        (ap (λ k. k - 1) (h.is ∙ ap (λ r. first_from (off_corner r.dom) (record_at s) j (record_count s)) g));
    less = omega (arith, past_after j g h l, h.high);
  }

  pub clockwise-before : (j : ℕ) {b : Bool} → j < record_count s → b ≡ first_here s j → b ≡ false
      → PlaceOf s (clockwise s j) (j - 1)
  unfolding clockwise
  clockwise-before j l e t = record { is = rw (sym e ∙ t) refl; less = omega arith }

  pub next-found : (i : ℕ) {j k : ℕ} → PlaceOf s (way_back s i) j → PlaceOf s (clockwise s j) k → PlaceOf s (next s i) k
  next-found i back found = record { is = found.is ∙ ap (clockwise s) back.is; less = found.less }
