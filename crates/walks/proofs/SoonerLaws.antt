-- Which of the records e and f is met first on turning clockwise from b around their corner: `sooner` of
-- specs/Turning.antt, by the halves of the three and by how their courses turn.
--     sooner-alike      all are of one half: e is met first where the three turn in the order e, b, f from some start
--     sooner-aside      only f is of the other half: where e turns onto b
--     sooner-across     only b is of the other half: where f turns onto e
--     sooner-alone      only e is of the other half: where b turns onto f
--     sooner-self       e is met before b itself, where it is of the other half or not in line with b
-- Assumes nothing.
use mathlib.Core.Path.{◌≡◌, refl, sym, ap, ◌∙◌}
use mathlib.Core.Logic.{◌⊎◌, inl, inr}
use mathlib.Core.Bool.{Bool, true, false, cond, ◌&&◌, ◌||◌, true≢false}
use Prim.Native.Nat.{ℕ}
use lib.Dec.{ltb, eqb}
use Rattle.counts.specs.Count.{◌⊕◌}
use Rattle.counts.proofs.TestLaws.{or_left, is_false, xor_self}
use Rattle.plane.specs.Turns.{turns_right}
use Rattle.record.specs.declared.Record.{Record}
use Rattle.record.specs.Order.{left, Proper}
use Rattle.walks.specs.Turning.{quarter, sooner}
use Rattle.walks.proofs.CourseLaws.{onto, onto-once, onto-trans, onto-level, turns_right-onto, turns_left-onto}

-- ---- how two courses lie

abbrev Lies : Record → Record → Bool → Bool → Type 0
Lies r e u v = (onto r e ≡ u) × (onto e r ≡ v)

data Turning (r e : Record) : Type 0 where
  on : Lies r e true false → Turning r e
  level : Lies r e false false → Turning r e
  off : Lies r e false true → Turning r e

turning : (r e : Record) → Turning r e
turning r e = go (onto r e) (onto e r) refl refl
  where
    go : (u v : Bool) → onto r e ≡ u → onto e r ≡ v → Turning r e
    go true v p q = on (p, onto-once r e p)
    go false true p q = off (p, q)
    go false false p q = level (p, q)

ahead : (r e : Record) → onto r e ≡ true → Lies r e true false
ahead r e h = (h, onto-once r e h)

behind : (r e : Record) → onto e r ≡ true → Lies r e false true
behind r e h = (onto-once e r h, h)

-- ---- how far the turn goes

-- `quarter`, where x tells whether the halves differ, u and v how the courses turn
abbrev quarter_by : Bool → Bool → Bool → ℕ
quarter_by x u v = cond (cond x u v) 0 (cond (cond x v u) 2 (cond x 1 3))

quarter-by : (b e : Record) → Proper b → Proper e → b.dom ≡ e.dom → {x u v : Bool}
    → left b ⊕ left e ≡ x → Lies b e u v → quarter b e ≡ quarter_by x u v
quarter-by b e pb pe d p l =
    (λ i. cond (turns_right-onto b e pb pe d i) 0
    (cond (turns_left-onto b e pb pe d i) 2 (cond (left b ⊕ left e) 1 3)))
    ∙ (λ i. quarter_by (p i) (l.0 i) (l.1 i))

module _ (b e f : Record) (pb : Proper b) (pe : Proper e) (pf : Proper f)
    (d : b.dom ≡ e.dom) (c : b.dom ≡ f.dom) where
  -- `sooner`, where x and y tell whether the halves of e and f differ from that of b
  met : {x y be eb bf fb ef fe : Bool} → left b ⊕ left e ≡ x → left b ⊕ left f ≡ y
      → Lies b e be eb → Lies b f bf fb → Lies e f ef fe
      → ltb (quarter_by x be eb) (quarter_by y bf fb)
      || (eqb (quarter_by x be eb) (quarter_by y bf fb) && cond (x ⊕ y) ef fe) ≡ true
      → sooner b e f ≡ true
  met {x} {y} {be} {eb} {bf} {fb} {ef} {fe} p q k l m t =
      (λ i. ltb (first i) (second i) || (eqb (first i) (second i) && turned i)) ∙ t
    where
      first : quarter b e ≡ quarter_by x be eb
      first = quarter-by b e pb pe d p k

      second : quarter b f ≡ quarter_by y bf fb
      second = quarter-by b f pb pf c q l

      halves : (h j k : Bool) → j ⊕ k ≡ (h ⊕ j) ⊕ (h ⊕ k)
      halves false j k = refl
      halves true true true = refl
      halves true true false = refl
      halves true false true = refl
      halves true false false = refl

      turned : turns_right b.dom e.other f.other ≡ cond (x ⊕ y) ef fe
      turned =
          ap (λ p. turns_right p e.other f.other) d
          ∙ turns_right-onto e f pe pf (sym d ∙ c)
          ∙ ap (λ x. cond x (onto e f) (onto f e)) (halves (left b) (left e) (left f))
          ∙ (λ i. cond (p i ⊕ q i) (m.0 i) (m.1 i))

  pub sooner-alike : left b ⊕ left e ≡ false → left b ⊕ left f ≡ false
      → ((onto f e ≡ true) × (onto e b ≡ true))
      ⊎ (((onto e b ≡ true) × (onto b f ≡ true)) ⊎ ((onto b f ≡ true) × (onto f e ≡ true)))
      → sooner b e f ≡ true
  sooner-alike p q (inl (h, g)) =
      met p q (behind b e g) (behind b f (onto-trans f e b pf pe pb h g)) (behind e f h) refl
  sooner-alike p q (inr (inl (h, g))) = met p q (behind b e h) (ahead b f g) (refl, refl) refl
  sooner-alike p q (inr (inr (h, g))) =
      met p q (ahead b e (onto-trans b f e pb pf pe h g)) (ahead b f h) (behind e f g) refl

  pub sooner-aside : left b ⊕ left e ≡ false → left b ⊕ left f ≡ true → onto e b ≡ true → sooner b e f ≡ true
  sooner-aside p q h = go (turning b f)
    where
      go : Turning b f → sooner b e f ≡ true
      go (on l) = met p q (behind b e h) l (ahead e f (onto-trans e b f pe pb pf h l.0)) refl
      go (level l) = met p q (behind b e h) l (refl, refl) refl
      go (off l) = met p q (behind b e h) l (refl, refl) refl

  pub sooner-across : left b ⊕ left e ≡ true → left b ⊕ left f ≡ true → onto f e ≡ true → sooner b e f ≡ true
  sooner-across p q h = go (turning b e) (turning b f)
    where
      go : Turning b e → Turning b f → sooner b e f ≡ true
      go (on k) (on l) = met p q k l (behind e f h) refl
      go (on k) (level l) = met p q k l (behind e f h) refl
      go (on k) (off l) = met p q k l (behind e f h) refl
      go (level k) l = met p q k (behind b f (onto-level f e b pf pe pb h k.1 k.0)) (behind e f h) refl
      go (off k) l = met p q k (behind b f (onto-trans f e b pf pe pb h k.1)) (behind e f h) refl

  pub sooner-alone : left b ⊕ left e ≡ true → left b ⊕ left f ≡ false → onto b f ≡ true → sooner b e f ≡ true
  sooner-alone p q h = go (turning b e)
    where
      go : Turning b e → sooner b e f ≡ true
      go (on k) = met p q k (ahead b f h) (refl, refl) refl
      go (level k) = met p q k (ahead b f h) (refl, refl) refl
      go (off k) = met p q k (ahead b f h) (ahead e f (onto-trans e b f pe pb pf k.1 h)) refl

pub sooner-self : (b e : Record) → Proper b → Proper e → b.dom ≡ e.dom
    → (left b ⊕ left e ≡ false → (onto b e ≡ true) ⊎ (onto e b ≡ true)) → sooner b e b ≡ true
sooner-self b e pb pe d h = go (left b ⊕ left e) refl (turning b e)
  where
    itself : onto b b ≡ false
    itself = is_false (onto b b) (λ t. true≢false (sym t ∙ onto-once b b t))

    by : {x u v : Bool} → left b ⊕ left e ≡ x → Lies b e u v → ltb (quarter_by x u v) 3 ≡ true → sooner b e b ≡ true
    by p k t =
        met b e b pb pe pb d refl p (xor_self (left b) (left b) refl) k (itself, itself) (refl, refl) (or_left _ t)

    of-one-half : left b ⊕ left e ≡ false → (onto b e ≡ true) ⊎ (onto e b ≡ true) → sooner b e b ≡ true
    of-one-half p (inl t) = by p (ahead b e t) refl
    of-one-half p (inr t) = by p (behind b e t) refl

    go : (x : Bool) → left b ⊕ left e ≡ x → Turning b e → sooner b e b ≡ true
    go false p l = of-one-half p (h p)
    go true p (on k) = by p k refl
    go true p (level k) = by p k refl
    go true p (off k) = by p k refl
