-- The outer cycle of a walk, in a region.
--     one-outer       a walk has one at most
--     outer-found     where there is one, `outer_in` is its first record
--     outer-in        what `outer_in` finds is the first record of an outer cycle in that walk
-- Assumes nothing.
use mathlib.Core.Path.{◌≡◌, refl, sym, ap, ◌∙◌}
use mathlib.Core.Bool.{Bool, true, false, ◌&&◌}
use mathlib.Core.List.{List}
use Prim.Native.Nat.{ℕ, ◌<◌, zero-le}
use native.Mathlib.Omega.{arith}
use lib.Dec.{eqb}
use lib.IntN.{ℤ}
use borrow.Author.Tests.{eqb-true, eqb-false, eq-eqb}
use Rattle.counts.specs.Count.{◌∈◌}
use Rattle.counts.proofs.TestLaws.{and-true, and_intro, is_false}
use Rattle.counts.proofs.ScanLaws.{first_from-passes, first_from-unique}
use Rattle.counts.proofs.MapLaws.{map-mem, mem-map}
use Rattle.record.specs.declared.Record.{Record}
use Rattle.record.specs.Records.{record_at, record_count}
use Rattle.chart.specs.Regions.{Region}
use Rattle.chart.proofs.OnceLaws.{region-place}
use Rattle.around.specs.Departing.{departs}
use Rattle.walks.specs.Cycles.{start_of, cycle_of, halves, first_of, is_first}
use Rattle.walks.specs.Faces.{is_outer, first_outer, outer_in}
use Rattle.around.proofs.Parts.{left_of}
use Rattle.around.proofs.SmallestLaws.{smallest-point}
use Rattle.walks.proofs.PlaceLaws.{ranked-region}
use Rattle.walks.proofs.CycleLaws.{cycle_start, halves-self, halves-less, halves-same}
use Rattle.walks.proofs.CyclePartLaws.{cycle-part}
use Rattle.walks.proofs.FirstRecordLaws.{first-half, first-less, first-first, first-same, same-cycle}
use Rattle.walks.proofs.SideLaws.{of_cycle, side-along, outer_same}

-- what `outer_in` looks for
abbrev outer_of : List ℤ → ℕ → ℕ → Bool
outer_of s w j = first_outer s j && eqb (start_of s j) w

module _ {s : List ℤ} (region : Region s) where
  -- all records of one outer cycle have any other of their walk on the left
  sees : (i j : ℕ) → i < record_count s → j < record_count s → start_of s j ≡ start_of s i → is_outer s j ≡ true
      → (r : Record) → r ∈ of_cycle s i → departs r ≡ true → left_of (of_cycle s j) r ≡ true
  sees i j l h e o r m d =
      let w = map-mem (record_at s) (halves s (cycle_of s i)) r m in
      ap (left_of (of_cycle s j)) w.2
      ∙ side-along region j h w.0 (halves-less region i w.0 l w.1)
      (cycle_start region i w.0 l w.1 ∙ sym e) (sym (ap (λ q. departs q) w.2) ∙ d)
      ∙ o

  -- two cycles that share a record are one
  shared : (i j : ℕ) → i < record_count s → j < record_count s → (r : Record) → r ∈ of_cycle s i → r ∈ of_cycle s j
      → first_of s j ≡ first_of s i
  shared i j l h r m n =
      let w = map-mem (record_at s) (halves s (cycle_of s i)) r m in
      let v = map-mem (record_at s) (halves s (cycle_of s j)) r n in
      let one : w.0 ≡ v.0 =
      region-place region w.0 v.0 (halves-less region i w.0 l w.1) (halves-less region j v.0 h v.1)
      (sym w.2 ∙ v.2) in
      first-same region i j l h
      (sym (halves-same region j v.0 h v.1) ∙ ap (cycle_of s) (sym one) ∙ halves-same region i w.0 l w.1)

  pub one-outer : (i j : ℕ) → i < record_count s → j < record_count s → start_of s j ≡ start_of s i
      → is_outer s i ≡ true
      → is_outer s j ≡ true → cycle_of s j ≡ cycle_of s i
  one-outer i j l h e o p = go (eqb (first_of s j) (first_of s i)) refl
    where
      go : (b : Bool) → eqb (first_of s j) (first_of s i) ≡ b → cycle_of s j ≡ cycle_of s i
      go true t = same-cycle region i j l h (eqb-true _ _ t)
      go false t =
          absurd (smallest-point (ranked-region region) (cycle-part region i l) (cycle-part region j h)
          (λ r m n. eqb-false _ _ t (shared i j l h r m n)) (sees i j l h e p) (sees j i h l (sym e) o) (record_at s i)
          (mem-map (record_at s) (halves s (cycle_of s i)) i (halves-self region i l)))

  pub outer-found : (i : ℕ) → i < record_count s → is_outer s i ≡ true → outer_in s (start_of s i) ≡ first_of s i
  unfolding outer_in
  outer-found i l o =
      sym (first_from-unique (outer_of s (start_of s i)) (λ j. j) 0 (record_count s) zero-le f zero-le
      (omega (arith, less))
      (λ k. and_intro
      (and_intro (eq-eqb (first_of s f) f (first-first region i l))
      (outer_same region i f l less (halves-same region i f l (first-half region i l)) ∙ o))
      (eq-eqb (start_of s f) (start_of s i) (cycle_start region i f l (first-half region i l))))
      (λ j a k. is_false _ (λ t. not_earlier j k t)))
    where
      f : ℕ
      f = first_of s i

      less : f < record_count s
      less = first-less region i l

      not_earlier : (j : ℕ) → j < f → outer_of s (start_of s i) j ≡ true → ⊥
      not_earlier j k t =
          let h : j < record_count s = omega (arith, less) in
          let a = and-true (first_outer s j) (eqb (start_of s j) (start_of s i)) t in
          let b = and-true (is_first s j) (is_outer s j) a.0 in
          let one = one-outer i j l h (eqb-true (start_of s j) (start_of s i) a.1) o b.1 in
          omega (arith, eqb-true (first_of s j) j b.0, first-same region i j l h one)

  pub outer-in : (w : ℕ) → outer_in s w < record_count s
      → (first_outer s (outer_in s w) ≡ true) × (start_of s (outer_in s w) ≡ w)
  unfolding outer_in
  outer-in w h =
      let t = and-true _ _ (first_from-passes (outer_of s w) (λ j. j) 0 (record_count s) zero-le h) in
      (t.0, eqb-true _ _ t.1)
