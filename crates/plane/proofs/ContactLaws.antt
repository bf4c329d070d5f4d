-- Touching minds no order of the two segments, and the test passes at five kinds of contact.
--     touch-sym, touches-sym          the statement and the test are the same the other way round
--     Contact s t                     they cross, or one of the four ends lies within the other segment
--     touches-true, touches-intro     the test passes exactly at a contact
-- Assumes nothing.
use mathlib.Core.Path.{◌≡◌, refl, sym, ap, ◌∙◌}
use mathlib.Core.Logic.{◌⊎◌, inl, inr}
use mathlib.Core.Bool.{Bool, true, false, ◌&&◌, ◌||◌, or_comm, or_assoc}
use Rattle.counts.proofs.TestLaws.{and-true, and_intro, and_comm, or-true, or_left, or_right}
use Rattle.plane.specs.declared.Segment.{Segment}
use Rattle.plane.specs.Touching.{Touch, within, splits, touches}

unfoldable pub touch-sym : {s t : Segment} → Touch s t → Touch t s
touch-sym r = record {
  α = r.γ;
  β = r.δ;
  γ = r.α;
  δ = r.β;
  total = sym r.total;
  on-x = sym r.on-x;
  on-y = sym r.on-y;
  inner = turn r.inner;
}
  where
    turn : {A B : Type 0} → A ⊎ B → B ⊎ A
    turn (inl a) = inr a
    turn (inr b) = inl b

any_swap : (p q r u : Bool) → p || q || r || u ≡ r || u || p || q
any_swap p q r u = or_assoc (p || q) r u ∙ or_comm (p || q) (r || u) ∙ sym (or_assoc (r || u) p q)

pub touches-sym : (s t : Segment) → touches s t ≡ touches t s
unfolding touches
touches-sym s t =
    ap (λ e. e || within s t.a || within s t.b || within t s.a || within t s.b)
    (and_comm (splits s t) (splits t s))
    ∙ go (splits t s && splits s t) (within s t.a) (within s t.b) (within t s.a) (within t s.b)
  where
    go : (e p q r u : Bool) → e || p || q || r || u ≡ e || r || u || p || q
    go true p q r u = refl
    go false p q r u = any_swap p q r u

-- the five kinds of contact
pub data Contact (s t : Segment) : Type 0 where
  crossing : splits s t ≡ true → splits t s ≡ true → Contact s t
  a-within-s : within s t.a ≡ true → Contact s t
  b-within-s : within s t.b ≡ true → Contact s t
  a-within-t : within t s.a ≡ true → Contact s t
  b-within-t : within t s.b ≡ true → Contact s t

pub touches-true : (s t : Segment) → touches s t ≡ true → Contact s t
unfolding touches
touches-true s t e = go (or-true _ _ e)
  where
    pair : (splits s t && splits t s ≡ true) ⊎ (within s t.a ≡ true) → Contact s t
    pair (inl h) = let g = and-true _ _ h in crossing g.0 g.1
    pair (inr h) = a-within-s h

    three : ((splits s t && splits t s) || within s t.a ≡ true) ⊎ (within s t.b ≡ true) → Contact s t
    three (inl h) = pair (or-true _ _ h)
    three (inr h) = b-within-s h

    four : ((splits s t && splits t s) || within s t.a || within s t.b ≡ true) ⊎ (within t s.a ≡ true)
        → Contact s t
    four (inl h) = three (or-true _ _ h)
    four (inr h) = a-within-t h

    go : ((splits s t && splits t s) || within s t.a || within s t.b || within t s.a ≡ true)
        ⊎ (within t s.b ≡ true) → Contact s t
    go (inl h) = four (or-true _ _ h)
    go (inr h) = b-within-t h

pub touches-intro : (s t : Segment) → Contact s t → touches s t ≡ true
unfolding touches
touches-intro s t (crossing g h) = or_left _ (or_left _ (or_left _ (or_left _ (and_intro g h))))
touches-intro s t (a-within-s h) = or_left _ (or_left _ (or_left _ (or_right (splits s t && splits t s) h)))
touches-intro s t (b-within-s h) =
    or_left _ (or_left _ (or_right ((splits s t && splits t s) || within s t.a) h))
touches-intro s t (a-within-t h) =
    or_left _ (or_right ((splits s t && splits t s) || within s t.a || within s t.b) h)
touches-intro s t (b-within-t h) =
    or_right ((splits s t && splits t s) || within s t.a || within s t.b || within t s.a) h
