-- Turning clockwise around a corner of a region: the record that `clockwise` names by its place is the first met, by
-- determinants. The places go around the corner once, counter-clockwise.
--     clockwise-first     each record at the corner is that one, or is met after it
-- Assumes nothing.
use mathlib.Core.Path.{◌≡◌, refl, sym, ap, ◌∙◌}
use mathlib.Core.Logic.{◌⊎◌, inl, inr, ⊎_elim}
use mathlib.Core.Bool.{Bool, true, false, true≢false}
use mathlib.Core.List.{List}
use Prim.Native.Nat.{ℕ, suc, ◌<◌, ◌≤◌}
use native.Mathlib.Omega.{arith}
use lib.IntN.{ℤ}
use Rattle.counts.specs.Count.{◌⊕◌}
use Rattle.counts.proofs.TestLaws.{xor_self, Side, less, equal, more, side, xor-none, xor-both}
use Rattle.record.specs.declared.Record.{Record}
use Rattle.record.specs.Records.{record_at, record_count}
use Rattle.record.specs.Order.{left, Proper}
use Rattle.chart.specs.Regions.{Region}
use Rattle.walks.specs.Ways.{clockwise}
use Rattle.walks.specs.Turning.{sooner}
use Rattle.walks.proofs.TurnLaws.{clockwise-is}
use Rattle.walks.proofs.CourseLaws.{onto}
use Rattle.walks.proofs.SoonerLaws.{sooner-alike, sooner-aside, sooner-across, sooner-alone, sooner-self}
use Rattle.walks.proofs.CornerOrderLaws.{proper, onto-later, halfway}

-- three places at one corner: of b, e and f
module _ {s : List ℤ} (region : Region s) (j c k : ℕ)
    (lj : j < record_count s) (lc : c < record_count s) (lk : k < record_count s)
    (dc : (record_at s c).dom ≡ (record_at s j).dom) (dk : (record_at s k).dom ≡ (record_at s j).dom) where
  abbrev b : Record
  b = record_at s j

  abbrev e : Record
  e = record_at s c

  abbrev f : Record
  f = record_at s k

  pb : Proper b
  pb = proper region j lj

  pe : Proper e
  pe = proper region c lc

  pf : Proper f
  pf = proper region k lk

  e-onto-b : c < j → left b ≡ left e → onto e b ≡ true
  e-onto-b l h = onto-later region c j l lj dc (sym h)

  b-onto-f : j < k → left b ≡ left f → onto b f ≡ true
  b-onto-f l h = onto-later region j k l lk (sym dk) h

  f-onto-e : k < c → left f ≡ left e → onto f e ≡ true
  f-onto-e l h = onto-later region k c l lc (dk ∙ sym dc) h

  -- they stand in the order e, b, f from some start
  abbrev Round : Type 0
  Round = ((k < c) × (c < j)) ⊎ (((c < j) × (j < k)) ⊎ ((j < k) × (k < c)))

  alike : left b ≡ left e → left b ≡ left f → Round
      → ((onto f e ≡ true) × (onto e b ≡ true))
      ⊎ (((onto e b ≡ true) × (onto b f ≡ true)) ⊎ ((onto b f ≡ true) × (onto f e ≡ true)))
  alike p q (inl (l, h)) = inl (f-onto-e l (sym q ∙ p), e-onto-b h p)
  alike p q (inr (inl (l, h))) = inr (inl (e-onto-b l p, b-onto-f h q))
  alike p q (inr (inr (l, h))) = inr (inr (b-onto-f l q, f-onto-e h (sym q ∙ p)))

  -- one alone of its half does not stand between the other two
  differ : (a b : Bool) → a ⊕ b ≡ true → a ≡ b → ⊥
  differ a b h g = true≢false (sym h ∙ xor_self a b g)

  aside : left b ≡ left e → left b ⊕ left f ≡ true → Round → onto e b ≡ true
  aside p q (inl (l, h)) = e-onto-b h p
  aside p q (inr (inl (l, h))) = e-onto-b l p
  aside p q (inr (inr (l, h))) =
      absurd (differ (left b) (left f) q (halfway region j k c l h lc (sym dk) (dk ∙ sym dc) p))

  across : left f ≡ left e → left b ⊕ left e ≡ true → Round → onto f e ≡ true
  across p q (inl (l, h)) = f-onto-e l p
  across p q (inr (inl (l, h))) =
      absurd (differ (left b) (left e) q (sym (halfway region c j k l h lk dc (sym dk) (sym p))))
  across p q (inr (inr (l, h))) = f-onto-e h p

  alone : left b ≡ left f → left b ⊕ left e ≡ true → Round → onto b f ≡ true
  alone p q (inl (l, h)) =
      absurd (differ (left b) (left e) q (p ∙ halfway region k c j l h lj (dk ∙ sym dc) dc (sym p)))
  alone p q (inr (inl (l, h))) = b-onto-f h p
  alone p q (inr (inr (l, h))) = b-onto-f l p

  round-sooner : Round → sooner b e f ≡ true
  round-sooner o = go (left b ⊕ left e) (left b ⊕ left f) refl refl
    where
      one-half : left b ⊕ left e ≡ false → left b ≡ left e
      one-half = xor-none (left b) (left e)

      go : (x y : Bool) → left b ⊕ left e ≡ x → left b ⊕ left f ≡ y → sooner b e f ≡ true
      go false false p q =
          sooner-alike b e f pb pe pf (sym dc) (sym dk) p q (alike (one-half p) (xor-none (left b) (left f) q) o)
      go false true p q = sooner-aside b e f pb pe pf (sym dc) (sym dk) p q (aside (one-half p) q o)
      go true true p q =
          sooner-across b e f pb pe pf (sym dc) (sym dk) p q (across (xor-both (left b) (left f) (left e) q p) p o)
      go true false p q =
          sooner-alone b e f pb pe pf (sym dc) (sym dk) p q (alone (xor-none (left b) (left f) q) p o)

  itself-later : (c < j) ⊎ (j < c) → sooner b e b ≡ true
  itself-later o = sooner-self b e pb pe (sym dc) (λ p. go (xor-none (left b) (left e) p) o)
    where
      go : left b ≡ left e → (c < j) ⊎ (j < c) → (onto b e ≡ true) ⊎ (onto e b ≡ true)
      go p (inl l) = inr (e-onto-b l p)
      go p (inr l) = inl (onto-later region j c l lc (sym dc) p)

  met-first : (suc c ≡ j) ⊎ ((j ≤ k) × (k ≤ c)) → Side k c → Side k j → (k ≡ c) ⊎ (sooner b e f ≡ true)
  met-first a (equal g) o = inl g
  met-first (inl t) (less g) o = inr (round-sooner (inl (g, omega arith)))
  met-first (inl t) (more g) (less o) = absurd (omega arith)
  met-first (inl t) (more g) (equal o) = inr (ap (λ i. sooner b e (record_at s i)) o ∙ itself-later (inl (omega arith)))
  met-first (inl t) (more g) (more o) = inr (round-sooner (inr (inl (omega arith, o))))
  met-first (inr t) (less g) (less o) = absurd (omega (arith, t.0))
  met-first (inr t) (less g) (equal o) = inr (ap (λ i. sooner b e (record_at s i)) o ∙ itself-later (inr (omega arith)))
  met-first (inr t) (less g) (more o) = inr (round-sooner (inr (inr (o, g))))
  met-first (inr t) (more g) o = absurd (omega (arith, t.1))

pub clockwise-first : {s : List ℤ} → Region s → (j k : ℕ) → j < record_count s → k < record_count s
    → (record_at s k).dom ≡ (record_at s j).dom
    → (k ≡ clockwise s j) ⊎ (sooner (record_at s j) (record_at s (clockwise s j)) (record_at s k) ≡ true)
clockwise-first {s} region j k l h d =
    let turned = clockwise-is region j l in
    met-first region j (clockwise s j) k l turned.less h turned.at d
    (⊎_elim inl (λ t. inr (t k h d)) turned.just) (side k (clockwise s j)) (side k j)
