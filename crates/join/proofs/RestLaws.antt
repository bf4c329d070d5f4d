-- The kept records that are left of two charts a and b, in record order: of the first from record i on, and of the
-- second from record j on.
--     rest_of op a b i j    they are these
--     rest_all              at the beginning, all that are kept
--     rest-first, rest-second    one record on, where it is the smaller head
--     rest-none             none, where no record is left
-- Assumes nothing.
use mathlib.Core.Path.{◌≡◌, refl, sym, ap, ap₂, ◌∙◌}
use mathlib.Core.Logic.{◌⊎◌, inl, inr}
use mathlib.Core.Bool.{Bool, true, false, cond}
use mathlib.Core.List.Memᴰ
use mathlib.Core.List.{List, [], ◌∷◌, ◌++◌}
use Prim.Native.Nat.{ℕ, suc, ◌+◌, ◌-◌, ◌*◌, ◌<◌, ◌≤◌}
use native.Mathlib.Nat.{sub-zero}
use native.Mathlib.Numerals.{add-one}
use native.Mathlib.Omega.{arith}
use lib.IntN.{ℤ}
use lib.ListN.{drop}
use Rattle.std.specs.Prelude.{Some}
use Rattle.counts.specs.Count.{◌∈◌, keep, listed}
use Rattle.counts.proofs.CountLaws.{keep-mem}
use Rattle.counts.proofs.ListedLaws.{listed-mem}
use Rattle.record.specs.declared.Record.{Record}
use Rattle.record.specs.Records.{width, record_at, record_count}
use Rattle.record.specs.Order.{precedes}
use Rattle.parts.specs.declared.Which.TheVariants.{First, Second}
use Rattle.parts.specs.Parts.{head_of}
use Rattle.chart.specs.Regions.{Region}
use Rattle.combined.specs.Kept.{kept}
use Rattle.combined.specs.Results.{in_order}
use Rattle.combined.proofs.OrderedLaws.{in_order-first, in_order-second}
use Rattle.sides.specs.declared.Op.{Op}
use Rattle.sides.specs.Operations.{joining, both}
use Rattle.sides.specs.Kept.{kept_first, kept_second}
use Rattle.join.proofs.SizeLaws.{kept-both}
use Rattle.join.proofs.HeadLaws.{head_first, head-second, own-later, first-least, second-least}

-- ---- of one chart

abbrev left_of : (Record → Bool) → List ℤ → ℕ → List Record
left_of p s i = keep p (listed (record_at s) i (record_count s - i))

module _ (p : Record → Bool) (s : List ℤ) where
  left-all : left_of p s 0 ≡ keep p (listed (record_at s) 0 (record_count s))
  left-all = rw (sub-zero (record_count s)) refl

  left-next : (i : ℕ) → i < record_count s
      → left_of p s i ≡ cond (p (record_at s i)) (record_at s i ∷ left_of p s (i + 1)) (left_of p s (i + 1))
  unfolding keep listed
  left-next i l =
      let more : record_count s - i ≡ suc (record_count s - (i + 1)) = omega arith in
      rw (more, add-one i) refl

  left-none : (i : ℕ) → record_count s ≤ i → left_of p s i ≡ []
  unfolding keep listed
  left-none i l =
      let none : record_count s - i ≡ 0 = omega arith in
      rw none refl

  left-mem : (i : ℕ) (e : Record) → e ∈ left_of p s i → (k : ℕ) × (i ≤ k) × (k < record_count s) × (e ≡ record_at s k)
  left-mem i e m =
      let at = listed-mem (record_at s) i (record_count s - i) e (keep-mem p _ e m).0 in
      (at.0, at.1, omega (arith, at.2, at.1), at.3)

-- ---- of both

abbrev pub rest_of : Op → List ℤ → List ℤ → ℕ → ℕ → List Record
rest_of op a b i j = in_order (left_of (kept_first op a b) a i ++ left_of (kept_second op a b) b j)

module _ (op : Op) (a b : List ℤ) where
  abbrev of_first : ℕ → List Record
  of_first i = left_of (kept_first op a b) a i

  abbrev of_second : ℕ → List Record
  of_second j = left_of (kept_second op a b) b j

  pub rest_all : rest_of op a b 0 0 ≡ in_order (kept (joining op) (both a b))
  rest_all =
      ap in_order (ap₂ ◌++◌ (left-all (kept_first op a b) a) (left-all (kept_second op a b) b) ∙ sym (kept-both op a b))

  pub rest-none : (i j : ℕ) → record_count a ≤ i → record_count b ≤ j → rest_of op a b i j ≡ []
  unfolding in_order
  rest-none i j l h = rw (left-none (kept_first op a b) a i l, left-none (kept_second op a b) b j h) refl

  module _ (first : Region a) (second : Region b) (i j : ℕ) where
    -- ---- the first chart's head: no other record that is left precedes it

    module _ (e : head_of (drop (width * i) a) (drop (width * j) b) ≡ Some First) where
      none-earlier : (x : Record) → x ∈ of_first (i + 1) ++ of_second j → precedes x (record_at a i) ≡ false
      none-earlier x m = by-chart (Memᴰ.append_cases (of_first (i + 1)) m)
        where
          by-chart : (x ∈ of_first (i + 1)) ⊎ (x ∈ of_second j) → precedes x (record_at a i) ≡ false
          by-chart (inl k) =
              let at = left-mem (kept_first op a b) a (i + 1) x k in
              rw at.3 (own-later first i at.0 (omega arith) at.2)
          by-chart (inr k) =
              let at = left-mem (kept_second op a b) b j x k in
              let head = head_first a b i j e in
              rw at.3 (first-least first second i j at.0 head.0 head.1 at.1 at.2)

      pub rest-first : rest_of op a b i j
          ≡ cond (kept_first op a b (record_at a i))
          (record_at a i ∷ rest_of op a b (i + 1) j) (rest_of op a b (i + 1) j)
      rest-first =
          ap (λ l. in_order (l ++ of_second j)) (left-next (kept_first op a b) a i (head_first a b i j e).0)
          ∙ go (kept_first op a b (record_at a i))
        where
          go : (k : Bool) → in_order (cond k (record_at a i ∷ of_first (i + 1)) (of_first (i + 1)) ++ of_second j)
              ≡ cond k (record_at a i ∷ rest_of op a b (i + 1) j) (rest_of op a b (i + 1) j)
          go true = in_order-first (record_at a i) (of_first (i + 1) ++ of_second j) none-earlier
          go false = refl

    -- ---- the second chart's head: it precedes all that are left of the first, and none of the second precedes it

    module _ (e : head_of (drop (width * i) a) (drop (width * j) b) ≡ Some Second) where
      all-later : (x : Record) → x ∈ of_first i → precedes (record_at b j) x ≡ true
      all-later x m =
          let at = left-mem (kept_first op a b) a i x m in
          let head = head-second a b i j e in
          rw at.3 (second-least first second i j at.0 head.0 head.1 at.1 at.2)

      own-none : (x : Record) → x ∈ of_second (j + 1) → precedes x (record_at b j) ≡ false
      own-none x m =
          let at = left-mem (kept_second op a b) b (j + 1) x m in
          rw at.3 (own-later second j at.0 (omega arith) at.2)

      pub rest-second : rest_of op a b i j
          ≡ cond (kept_second op a b (record_at b j))
          (record_at b j ∷ rest_of op a b i (j + 1)) (rest_of op a b i (j + 1))
      rest-second =
          ap (λ l. in_order (of_first i ++ l)) (left-next (kept_second op a b) b j (head-second a b i j e).0)
          ∙ go (kept_second op a b (record_at b j))
        where
          go : (k : Bool) → in_order (of_first i ++ cond k (record_at b j ∷ of_second (j + 1)) (of_second (j + 1)))
              ≡ cond k (record_at b j ∷ rest_of op a b i (j + 1)) (rest_of op a b i (j + 1))
          go true = in_order-second (of_first i) (of_second (j + 1)) (record_at b j) all-later own-none
          go false = refl
