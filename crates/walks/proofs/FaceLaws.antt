-- The face of each record of a region.
--     face-outer      it is that of the outer cycle in its walk
--     face-drop       or, where there is none, of the segment nearest below the walk's smallest point
--     face-walk       so all records of a walk have the face of its start
--     face-found      as many walks are enough as the start of the walk has records before it, and one
--     face-less       a face's number is less than the number of faces
-- The sides of cycles: SideLaws.antt; outer cycles: OneOuterLaws.antt; walks without one: DropLaws.antt.
-- Assumes nothing.
use mathlib.Core.Path.{◌≡◌, refl, sym, ap, ◌∙◌}
use mathlib.Core.Logic.{◌⊎◌, inl, inr, ⊎_elim}
use mathlib.Core.Bool.{Bool, true, false, cond}
use mathlib.Core.List.{List}
use Prim.Native.Nat.{ℕ, zero, suc, ◌<◌, ◌≤◌}
use native.Mathlib.Omega.{arith}
use lib.Dec.{ltb}
use lib.IntN.{ℤ}
use borrow.Author.Tests.{lt-ltb, le-ltb}
use Rattle.counts.proofs.TestLaws.{is_false, lt-or-le}
use Rattle.record.specs.Records.{record_count}
use Rattle.chart.specs.Regions.{Region}
use Rattle.walks.specs.Cycles.{start_of, first_of}
use Rattle.walks.specs.Faces.{is_outer, first_outer, face_count, face_number, outer_in, smallest_point, nearest_to}
use Rattle.walks.specs.Faces.{face_from, face_of}
use Rattle.walks.proofs.StartLaws.{start-less, start-start}
use Rattle.counts.proofs.ShareLaws.{count-rises}
use Rattle.walks.proofs.FirstRecordLaws.{first-less}
use Rattle.walks.proofs.OneOuterLaws.{outer-found, outer-in}
use Rattle.walks.proofs.DropLaws.{nearest-less, nearest-start}

module _ {s : List ℤ} (region : Region s) where
  -- ---- one walk, and what it hangs in

  -- the record nearest below the walk that record i is in
  abbrev under : ℕ → ℕ
  under i = nearest_to s (smallest_point s (start_of s i))

  module _ (i k : ℕ) (l : i < record_count s) where
    from-outer : outer_in s (start_of s i) < record_count s
        → face_from s (suc k) i ≡ face_number s (outer_in s (start_of s i))
    unfolding face_from
    from-outer h = go (is_outer s i) refl
      where
        go : (b : Bool) → is_outer s i ≡ b
            → cond b (face_number s (first_of s i))
            (cond (ltb (outer_in s (start_of s i)) (record_count s)) (face_number s (outer_in s (start_of s i)))
            (face_from s k (under i)))
            ≡ face_number s (outer_in s (start_of s i))
        go true o = ap (face_number s) (sym (outer-found region i l o))
        go false o =
            ap (λ b. cond b (face_number s (outer_in s (start_of s i))) (face_from s k (under i)))
            (lt-ltb (outer_in s (start_of s i)) (record_count s) h)

    from-drop : record_count s ≤ outer_in s (start_of s i) → face_from s (suc k) i ≡ face_from s k (under i)
    unfolding face_from
    from-drop h =
        ap (λ b. cond b (face_number s (first_of s i))
        (cond (ltb (outer_in s (start_of s i)) (record_count s)) (face_number s (outer_in s (start_of s i)))
        (face_from s k (under i))))
        (is_false (is_outer s i) (λ o. omega (arith, outer-found region i l o, first-less region i l)))
        ∙ ap (λ b. cond b (face_number s (outer_in s (start_of s i))) (face_from s k (under i)))
        (le-ltb (outer_in s (start_of s i)) (record_count s) h)

  -- ---- enough walks

  enough : (k h i : ℕ) → i < record_count s → start_of s i < k → start_of s i < h → face_from s k i ≡ face_from s h i
  enough zero h i l a b = absurd (omega arith)
  enough (suc k) zero i l a b = absurd (omega arith)
  enough (suc k) (suc h) i l a b =
      ⊎_elim (λ o. from-outer i k l o ∙ sym (from-outer i h l o))
      (λ o.
      let falls = nearest-start region i l o in
      from-drop i k l o
      ∙ enough k h (under i) (nearest-less region i l o) (omega (arith, falls)) (omega (arith, falls))
      ∙ sym (from-drop i h l o))
      (lt-or-le (outer_in s (start_of s i)) (record_count s))

  pub face-found : (i k : ℕ) → i < record_count s → start_of s i < k → face_from s k i ≡ face_of s i
  face-found i k l h = enough k (record_count s) i l h (start-less region i l)

  one_more : (i : ℕ) → i < record_count s → face_of s i ≡ face_from s (suc (record_count s)) i
  one_more i l = sym (face-found i (suc (record_count s)) l (omega (arith, start-less region i l)))

  pub face-outer : (i : ℕ) → i < record_count s → outer_in s (start_of s i) < record_count s
      → face_of s i ≡ face_number s (outer_in s (start_of s i))
  face-outer i l h = one_more i l ∙ from-outer i (record_count s) l h

  pub face-drop : (i : ℕ) → i < record_count s → record_count s ≤ outer_in s (start_of s i)
      → face_of s i ≡ face_of s (nearest_to s (smallest_point s (start_of s i)))
  face-drop i l h = one_more i l ∙ from-drop i (record_count s) l h

  pub face-walk : (i : ℕ) → i < record_count s → face_of s i ≡ face_of s (start_of s i)
  face-walk i l = go (lt-or-le (outer_in s w) (record_count s))
    where
      w : ℕ
      w = start_of s i

      short : w < record_count s
      short = start-less region i l

      same : start_of s w ≡ w
      same = start-start region i l

      go : (outer_in s w < record_count s) ⊎ (record_count s ≤ outer_in s w) → face_of s i ≡ face_of s w
      go (inl h) =
          face-outer i l h
          ∙ ap (λ v. face_number s (outer_in s v)) (sym same)
          ∙ sym (face-outer w short (omega (arith, ap (outer_in s) same)))
      go (inr h) =
          face-drop i l h
          ∙ ap (λ v. face_of s (nearest_to s (smallest_point s v))) (sym same)
          ∙ sym (face-drop w short (omega (arith, ap (outer_in s) same)))

  -- ---- its number

  outer-less : (w : ℕ) → outer_in s w < record_count s → face_number s (outer_in s w) < face_count s
  unfolding face_number
  outer-less w h = count-rises (first_outer s) (outer_in s w) (record_count s) h (outer-in region w h).0

  from_less : (k i : ℕ) → i < record_count s → start_of s i < k → face_from s k i < face_count s
  from_less zero i l h = absurd (omega arith)
  from_less (suc k) i l h =
      ⊎_elim (λ o. rw (from-outer i k l o) (outer-less (start_of s i) o))
      (λ o.
      rw (from-drop i k l o)
      (from_less k (under i) (nearest-less region i l o) (omega (arith, nearest-start region i l o))))
      (lt-or-le (outer_in s (start_of s i)) (record_count s))

  pub face-less : (i : ℕ) → i < record_count s → face_of s i < face_count s
  face-less i l = from_less (record_count s) i l (start-less region i l)
