-- A walk, given by its records in turn: it does not come to two points by turns.
--     nested     where it comes to one point before and after it comes to another, and to that once more before it has
--                come round, the two are one point
-- Assumes nothing.
use mathlib.Core.Path.{◌≡◌, refl, sym, ap, ◌∙◌}
use mathlib.Core.Logic.{◌⊎◌, inl, inr}
use mathlib.Core.Bool.{Bool, true, false, true≢false}
use mathlib.Core.List.Memᴰ
use mathlib.Core.List.{List, ◌++◌, map}
use Prim.Native.Nat.{ℕ, zero, suc, ◌+◌, ◌-◌, ◌<◌, ◌≤◌}
use native.Mathlib.Omega.{arith}
use Rattle.counts.specs.Count.{◌∈◌, ind, sum, count, listed}
use Rattle.counts.proofs.TestLaws.{is_false, lt-or-le}
use Rattle.counts.proofs.CountLaws.{count-off}
use Rattle.counts.proofs.ListedLaws.{listed-mem, mem-listed}
use Rattle.counts.proofs.MapLaws.{mem-map}
use Rattle.plane.specs.declared.Point.{Point}
use Rattle.plane.specs.Points.{same}
use Rattle.plane.proofs.PointLaws.{same_true, same_refl}
use Rattle.record.specs.declared.Record.{Record}
use Rattle.record.specs.Order.{other_half}
use Rattle.segment.specs.Segments.{is_record}
use Rattle.segment.proofs.SegmentLaws.{is_record-true}
use Rattle.around.specs.Departing.{departs}
use Rattle.around.proofs.Parts.{Part, Ranked, Before, Next, left_of}
use Rattle.around.proofs.WedgeLaws.{next-same}
use Rattle.around.proofs.StretchLaws.{loop-walked, loop-part}
use Rattle.around.proofs.InterleaveLaws.{no-other-visit}

-- records that differ are each there once
listed-once : (w : ℕ → Record) (i n : ℕ) → ((a c : ℕ) → i ≤ a → a < c → c < i + n → w a ≡ w c → ⊥)
    → (r : Record) → count (is_record r) (listed w i n) ≤ 1
unfolding listed sum
listed-once w i zero differ r = omega arith
listed-once w i (suc n) differ r =
    go (is_record r (w i)) refl (listed-once w (suc i) n (λ a c l h k. differ a c (omega arith) h (omega arith)) r)
  where
    go : (b : Bool) → is_record r (w i) ≡ b → count (is_record r) (listed w (suc i) n) ≤ 1
        → ind b + count (is_record r) (listed w (suc i) n) ≤ 1
    go true e ih =
        omega (
          arith,
          count-off (is_record r) (listed w (suc i) n) (λ q m. is_false _ (λ t.
              let h = listed-mem w (suc i) n q m in
              differ i h.0 (omega arith) h.1 (omega (arith, h.2))
              (is_record-true r (w i) e ∙ sym (is_record-true r q t) ∙ h.3))),
        )
    go false e ih = omega arith

-- what goes on where it has come to leaves each point as often as it comes to it, but for its two ends
listed-level : (w : ℕ → Record) → ((a : ℕ) → (w (suc a)).dom ≡ (w a).other) → (p : Point) (i n k : ℕ) → i + n ≡ k
    → count (λ r. same r.dom p) (listed w i n) + ind (same (w k).dom p)
    ≡ count (λ r. same r.other p) (listed w i n) + ind (same (w i).dom p)
unfolding listed sum
listed-level w on p i zero k e = ap (λ a. 0 + ind (same (w a).dom p)) (omega (arith, e))
listed-level w on p i (suc n) k e =
    omega (arith, listed-level w on p (suc i) n k (omega arith), ap (λ q. ind (same q p)) (on i))

module _ {rs : List Record} {rank : Record → ℕ} (ranked : Ranked rs rank) (w : ℕ → Record)
    (known : (i : ℕ) → w i ∈ rs) (leaves : (i : ℕ) → departs (w i) ≡ true)
    (onward : (i : ℕ) → Next rs rank (w i) (w (suc i))) (N : ℕ) (around : (i : ℕ) → w (i + N) ≡ w i)
    (fresh : (i j : ℕ) → i < j → j < i + N → w i ≡ w j → ⊥) where
  -- what a part has on the left of the walk
  along : {C : List Record} → Part rs C → (i : ℕ) → left_of C (w i) ≡ left_of C (w 0)
  along part zero = refl
  along part (suc i) = next-same ranked part (w i) (w (suc i)) (known i) (known (suc i)) (onward i) ∙ along part i

  -- the n records from the one at i on, after which it is where it was
  module _ (i n : ℕ) (short : n ≤ N) (closed : (w i).dom ≡ (w (i + n)).dom) where
    abbrev stretch : List Record
    stretch = listed w i n

    stretch-known : (r : Record) → r ∈ stretch → r ∈ rs
    stretch-known r m = let h = listed-mem w i n r m in rw h.3 (known h.0)

    stretch-leaves : (r : Record) → r ∈ stretch → departs r ≡ true
    stretch-leaves r m = let h = listed-mem w i n r m in ap departs h.3 ∙ leaves h.0

    abbrev both : List Record
    both = stretch ++ map other_half stretch

    stretch-part : Part rs both
    stretch-part =
        loop-part ranked stretch stretch-known stretch-leaves
        (listed-once w i n (λ a c l h k. fresh a c h (omega arith)))
        (λ p. omega (
          arith,
          listed-level w (λ a. (onward a).at) p i n (i + n) refl,
          ap (λ q. ind (same q p)) closed,
        ))

    walked-there : (r : Record) → r ∈ both → departs r ≡ true → r ∈ stretch
    walked-there = loop-walked ranked stretch stretch-known stretch-leaves

    -- a record that it departs by, but for the first, is just before one by which it has come
    paired : (b : Point) → ((w i).dom ≡ b → ⊥) → (r : Record) → r ∈ both → r.dom ≡ b → departs r ≡ true
        → (j : Record) × (j ∈ both) × Before rs rank r j
    paired b far r m d h = go (listed-mem w i n r (walked-there r m h))
      where
        come : (a : ℕ) → i ≤ a → a < i + n → r ≡ w a → (i < a) ⊎ (a ≤ i)
            → (j : Record) × (j ∈ both) × Before rs rank r j
        come a l k e (inl g) = before (a - 1) (omega arith)
          where
            before : (c : ℕ) → suc c ≡ a → (j : Record) × (j ∈ both) × Before rs rank r j
            before c f = (
              other_half (w c),
              Memᴰ.append_right stretch
                  (mem-map other_half stretch (w c) (mem-listed w i n c (omega arith) (omega arith))),
              rw (e ∙ ap w (sym f)) (onward c),
            )
        come a l k e (inr g) = absurd (far (ap (λ c. (w c).dom) (omega arith) ∙ ap (λ q. q.dom) (sym e) ∙ d))

        go : (a : ℕ) × (i ≤ a) × (a < i + n) × (r ≡ w a) → (j : Record) × (j ∈ both) × Before rs rank r j
        go (a, l, k, e) = come a l k e (lt-or-le i a)

    -- a point that it passes, other than where it starts, is not come to again before the walk comes round
    not-again : (j l : ℕ) → i ≤ j → j < i + n → i + n ≤ l → l < i + N → ((w i).dom ≡ (w j).dom → ⊥)
        → (w j).dom ≡ (w l).dom → ⊥
    not-again j l ij jn nl lN far e =
        no-other-visit ranked stretch-part (left_of both (w 0)) keeps (w j).dom (paired (w j).dom far) (w l) (known l)
        (sym e) off (along stretch-part l) (w j)
        (Memᴰ.append_left (map other_half stretch) (mem-listed w i n j ij jn)) refl
      where
        keeps : (r : Record) → r ∈ both → departs r ≡ true → left_of both r ≡ left_of both (w 0)
        keeps r m d =
            let h = listed-mem w i n r (walked-there r m d) in ap (left_of both) h.3 ∙ along stretch-part h.0

        off : w l ∈ both → ⊥
        off m =
            let h = listed-mem w i n (w l) (walked-there (w l) m (leaves l)) in
            fresh h.0 l (omega (arith, h.2)) (omega (arith, h.1)) (sym h.3)

  pub nested : (i j k l : ℕ) → i < j → j < k → k < l → l ≤ i + N → (w i).dom ≡ (w k).dom → (w j).dom ≡ (w l).dom
      → (w i).dom ≡ (w j).dom
  nested i j k l ij jk kl lN ei ej = by-test (same (w i).dom (w j).dom) refl
    where
      come-round : i + N ≤ l → (w i).dom ≡ (w j).dom
      come-round h = sym (ej ∙ ap (λ m. (w m).dom) (omega arith) ∙ ap (λ r. r.dom) (around i))

      apart : ((w i).dom ≡ (w j).dom → ⊥) → (l < i + N) ⊎ (i + N ≤ l) → ⊥
      apart far (inl h) =
          let e : k ≡ i + (k - i) = omega arith in
          not-again i (k - i) (omega arith) (ei ∙ ap (λ m. (w m).dom) e) j l (omega arith) (omega arith) (omega arith) h
          far ej
      apart far (inr h) = far (come-round h)

      by-test : (b : Bool) → same (w i).dom (w j).dom ≡ b → (w i).dom ≡ (w j).dom
      by-test true h = same_true _ _ h
      by-test false h =
          absurd (apart (λ e. true≢false (sym (ap (λ q. same q (w j).dom) e ∙ same_refl (w j).dom) ∙ h))
          (lt-or-le l (i + N)))
