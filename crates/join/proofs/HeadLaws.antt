-- Two charts a and b of which the records from i and from j on are left: which of the two heads is smaller, and that no
-- record that is left precedes it.
--     record_at-drop      what is left of an array begins with record i
--     head_first          the head is the first chart's: it has one, which that of the second, if any, does not precede
--     head-second         the head is the second chart's: it has one, which precedes that of the first, if any
--     head-neither        neither has a record left
--     own-later, first-least, second-least    a later record of the same chart, or of the other
-- Assumes nothing.
use mathlib.Core.Path.{◌≡◌, refl, sym, ap, ap₂, ◌∙◌}
use mathlib.Core.Logic.{◌⊎◌, inl, inr}
use mathlib.Core.Bool.{Bool, true, false, true≢false}
use mathlib.Core.List.{List}
use Prim.Native.Nat.{ℕ, suc, ◌+◌, ◌*◌, ◌<◌, ◌≤◌, zero-le}
use native.Mathlib.Nat.{eq-or-lt_of_le}
use native.Mathlib.Omega.{arith}
use lib.IntN.{ℤ, pos}
use lib.ListN.{length, get_or, drop, length-drop}
use lib.Seq.{get_or-drop}
use Rattle.std.specs.Prelude.{Option, Some, None}
use Rattle.counts.proofs.TestLaws.{is_false, lt-or-le}
use Rattle.counts.proofs.ListedLaws.{mem-listed}
use Rattle.grid.specs.Coordinates.{up, point_of}
use Rattle.record.specs.Records.{width, record_at, record_count}
use Rattle.record.specs.Order.{Proper, precedes}
use Rattle.record.proofs.OrderLaws.{precedes-trans, precedes-asym}
use Rattle.parts.specs.declared.Which.{Which}
use Rattle.parts.specs.declared.Which.TheVariants.{First, Second}
use Rattle.parts.specs.Parts.{from_second, head_of}
use Rattle.parts.proofs.PartLaws.{from_second-alone, from_second-both, head_of-second, head_of-neither, head_of-first}
use Rattle.parts.proofs.PartLaws.{first-whole, second-whole}
use Rattle.chart.specs.Regions.{Region}
use Rattle.chart.proofs.OnceLaws.{sound-proper, region-rising}

pub record_at-drop : (s : List ℤ) (i : ℕ) → record_at (drop (width * i) s) 0 ≡ record_at s i
unfolding record_at
record_at-drop s i =
    λ t. record {
      dom = point_of (at 0 (width * i) (omega arith) t) (at 1 (width * i + 1) (omega arith) t);
      other = point_of (at 2 (width * i + 2) (omega arith) t) (at 3 (width * i + 2 + 1) (omega arith) t);
      mark = up (at 4 (width * i + 4) (omega arith) t);
    }
  where
    at : (k m : ℕ) → width * i + k ≡ m → get_or (drop (width * i) s) k (pos 0) ≡ get_or s m (pos 0)
    at k m e = get_or-drop (width * i) s k (pos 0) ∙ ap (λ m. get_or s m (pos 0)) e

-- ---- which of two arrays has the smaller head, from the answer

first-not-second : Some First ≡ Some Second → ⊥
first-not-second e = let o : ◌≡◌ {A = ℕ} 0 1 = cc in omega arith

neither-not-second : ◌≡◌ {A = Option Which} None (Some Second) → ⊥
neither-not-second e = let o : ◌≡◌ {A = ℕ} 0 1 = cc in omega arith

first-not-neither : ◌≡◌ {A = Option Which} (Some First) None → ⊥
first-not-neither e = let o : ◌≡◌ {A = ℕ} 0 1 = cc in omega arith

module _ (a b : List ℤ) where
  from_first : {h : Option Which} → head_of a b ≡ h → (h ≡ Some Second → ⊥) → from_second a b ≡ false
  from_first e differ = is_false _ (λ t. differ (sym e ∙ sym (head_of-second a b t)))

  from-second : head_of a b ≡ Some Second → from_second a b ≡ true
  from-second e = go (from_second a b) refl (lt-or-le (length a) width)
    where
      go : (f : Bool) → from_second a b ≡ f → (length a < width) ⊎ (width ≤ length a) → f ≡ true
      go true g l = refl
      go false g (inl l) = absurd (neither-not-second (head_of-neither a b g l ∙ e))
      go false g (inr l) = absurd (first-not-second (head_of-first a b g l ∙ e))

  both-short : head_of a b ≡ None → (length a < width) × (length b < width)
  both-short e = go (lt-or-le (length a) width) (lt-or-le (length b) width)
    where
      first : from_second a b ≡ false
      first = from_first e neither-not-second

      go : (length a < width) ⊎ (width ≤ length a) → (length b < width) ⊎ (width ≤ length b)
          → (length a < width) × (length b < width)
      go (inl l) (inl h) = (l, h)
      go (inl l) (inr h) = absurd (true≢false (sym (from_second-alone a b h l) ∙ first))
      go (inr l) h = absurd (first-not-neither (head_of-first a b first l ∙ e))

-- ---- the same of what is left of two charts

left-some : (s : List ℤ) (i : ℕ) → width ≤ length (drop (width * i) s) → i < record_count s
left-some s i h = omega (arith, length-drop (width * i) s)

left-whole : (s : List ℤ) (i : ℕ) → i < record_count s → width ≤ length (drop (width * i) s)
left-whole s i h = omega (arith, length-drop (width * i) s)

left-none : (s : List ℤ) (i : ℕ) → length (drop (width * i) s) < width → record_count s ≤ i
left-none s i h = omega (arith, length-drop (width * i) s)

module _ (a b : List ℤ) (i j : ℕ) where
  heads : i < record_count a → j < record_count b
      → from_second (drop (width * i) a) (drop (width * j) b) ≡ precedes (record_at b j) (record_at a i)
  heads l h =
      from_second-both _ _ (left-whole b j h) (left-whole a i l)
      ∙ ap₂ precedes (record_at-drop b j) (record_at-drop a i)

  pub head_first : head_of (drop (width * i) a) (drop (width * j) b) ≡ Some First
      → (i < record_count a) × (j < record_count b → precedes (record_at b j) (record_at a i) ≡ false)
  head_first e =
      let l = left-some a i (first-whole _ _ e) in
      (l, (λ h. sym (heads l h) ∙ from_first _ _ e first-not-second))

  pub head-second : head_of (drop (width * i) a) (drop (width * j) b) ≡ Some Second
      → (j < record_count b) × (i < record_count a → precedes (record_at b j) (record_at a i) ≡ true)
  head-second e =
      let h = left-some b j (second-whole _ _ e) in
      (h, (λ l. sym (heads l h) ∙ from-second _ _ e))

  pub head-neither : head_of (drop (width * i) a) (drop (width * j) b) ≡ None
      → (record_count a ≤ i) × (record_count b ≤ j)
  head-neither e = let short = both-short _ _ e in (left-none a i short.0, left-none b j short.1)

-- ---- no record that is left precedes the smaller head

pub own-later : {s : List ℤ} → Region s → (i k : ℕ) → i < k → k < record_count s
    → precedes (record_at s k) (record_at s i) ≡ false
own-later region i k l h = precedes-asym _ _ (region-rising region i k l h)

proper : {s : List ℤ} → Region s → (i : ℕ) → i < record_count s → Proper (record_at s i)
proper {s} region i l =
    sound-proper region.sound _ (mem-listed (record_at s) 0 (record_count s) i zero-le (omega arith))

module _ {a b : List ℤ} (first : Region a) (second : Region b) (i j k : ℕ) where
  pub first-least : i < record_count a → (j < record_count b → precedes (record_at b j) (record_at a i) ≡ false)
      → j ≤ k → k < record_count b → precedes (record_at b k) (record_at a i) ≡ false
  first-least l head h g = is_false _ (λ t. go t (eq-or-lt_of_le h))
    where
      go : precedes (record_at b k) (record_at a i) ≡ true → (j ≡ k) ⊎ (suc j ≤ k) → ⊥
      go t (inl e) = true≢false (sym (rw (sym e) at t) ∙ head (omega arith))
      go t (inr m) =
          let short : j < record_count b = omega arith in
          let through = precedes-trans _ _ _ (proper second j short) (proper second k g) (proper first i l)
          (region-rising second j k m g) t in
          true≢false (sym through ∙ head short)

  pub second-least : j < record_count b → (i < record_count a → precedes (record_at b j) (record_at a i) ≡ true)
      → i ≤ k → k < record_count a → precedes (record_at b j) (record_at a k) ≡ true
  second-least l head h g = go (eq-or-lt_of_le h)
    where
      go : (i ≡ k) ⊎ (suc i ≤ k) → precedes (record_at b j) (record_at a k) ≡ true
      go (inl e) = rw (sym e) (head (omega arith))
      go (inr m) =
          let short : i < record_count a = omega arith in
          precedes-trans _ _ _ (proper second j l) (proper first i short) (proper first k g) (head short)
          (region-rising first i k m g)
