-- Records of a round of n steps that a returning stretch parts; the step that the round is begun with makes no
-- difference. Step i walks record w i.
--     On w u v a             one of the steps from u on, before v, walks record a
--     Parted s w n o a b     in the round from step o a stretch that returns to its point has record a and lacks b
--     Unparted s w n o a b   a and b are of the round from step o, and no such stretch parts them
--     unparted-any           if unparted in one round, then in every round
-- Assumes nothing.
use mathlib.Core.Path.{◌≡◌, sym, ap, ◌∙◌}
use mathlib.Core.Logic.{◌⊎◌, ◌↔◌, inl, inr, ⊎_elim}
use mathlib.Core.List.{List}
use Prim.Native.Nat.{ℕ, zero, suc, ◌+◌, ◌<◌, ◌≤◌}
use native.Mathlib.Omega.{arith}
use lib.IntN.{ℤ}
use Rattle.counts.proofs.TestLaws.{lt-or-le}
use Rattle.plane.specs.declared.Point.{Point}
use Rattle.record.specs.Records.{record_at}
use Rattle.walks.proofs.Taken.{corner}

abbrev pub On : (ℕ → ℕ) → ℕ → ℕ → ℕ → Type 0
On w u v a = (i : ℕ) × (u ≤ i) × (i < v) × (w i ≡ a)

pub record Parted (s : List ℤ) (w : ℕ → ℕ) (n o a b : ℕ) : Type 0 where
  pub from : ℕ
  pub upto : ℕ
  pub begun : o ≤ from
  pub ended : upto ≤ o + n
  pub again : corner s w from ≡ corner s w upto
  pub has : On w from upto a
  pub lacks : On w from upto b → ⊥

pub record Unparted (s : List ℤ) (w : ℕ → ℕ) (n o a b : ℕ) : Type 0 where
  pub one : On w o (o + n) a
  pub other : On w o (o + n) b
  pub whole : Parted s w n o a b ⊎ Parted s w n o b a → ⊥

module _ (s : List ℤ) (w : ℕ → ℕ) (n : ℕ) (around : (i : ℕ) → w (i + n) ≡ w i)
    (fresh : (i j : ℕ) → i < j → j < i + n → w i ≡ w j → ⊥) where
  abbrev at : ℕ → Point
  at i = corner s w i

  abbrev Either : ℕ → ℕ → ℕ → Type 0
  Either o a b = Parted s w n o a b ⊎ Parted s w n o b a

  -- no record is both in a stretch and in what is left of its round
  apart : (a u v : ℕ) → On w u v a → On w v (u + n) a → ⊥
  apart a u v (i, ui, iv, e) (j, vj, jn, f) = fresh i j (omega arith) (omega arith) (e ∙ sym f)

  -- ---- the round from one step later: a stretch that begins with the first step is exchanged for the others

  on-next : (a o : ℕ) → On w o (o + n) a → On w (suc o) (suc o + n) a
  on-next a o (i, oi, il, e) = go (lt-or-le o i)
    where
      go : (o < i) ⊎ (i ≤ o) → On w (suc o) (suc o + n) a
      go (inl l) = (i, l, omega arith, e)
      go (inr l) = (i + n, omega arith, omega arith, around i ∙ e)

  on-back : (a o : ℕ) → On w (suc o) (suc o + n) a → On w o (o + n) a
  on-back a o (i, oi, il, e) = go (lt-or-le i (o + n))
    where
      go : (i < o + n) ⊎ (o + n ≤ i) → On w o (o + n) a
      go (inl l) = (i, omega arith, l, e)
      go (inr l) = (o, omega arith, omega arith, sym (around o) ∙ ap w (omega arith) ∙ e)

  parted-next : (o a b : ℕ) → On w o (o + n) b → Parted s w n o a b → Either (suc o) a b
  parted-next o a b (j, oj, jn, f) h = go (lt-or-le o h.from)
    where
      go : (o < h.from) ⊎ (h.from ≤ o) → Either (suc o) a b
      go (inl l) =
          inl (record {
            from = h.from;
            upto = h.upto;
            begun = l;
            ended = omega (arith, h.ended);
            again = h.again;
            has = h.has;
            lacks = h.lacks;
          })
      go (inr l) =
          let first : h.from ≡ o = omega (arith, h.begun) in
          let m = h.has in
          inr (record {
            from = h.upto;
            upto = o + n;
            begun = omega (arith, m.1, m.2);
            ended = omega arith;
            again = sym h.again ∙ ap at first ∙ ap (λ r. (record_at s r).dom) (sym (around o));
            has = (j, ⊎_elim (λ g. absurd (h.lacks (j, omega arith, g, f))) (λ g. g) (lt-or-le j h.upto), jn, f);
            lacks = λ k. apart a o h.upto (m.0, omega (arith, m.1), m.2, m.3) k;
          })

  parted-back : (o a b : ℕ) → On w (suc o) (suc o + n) b → Parted s w n (suc o) a b → Either o a b
  parted-back o a b (j, oj, jn, f) h = go (lt-or-le (o + n) h.upto)
    where
      go : (o + n < h.upto) ⊎ (h.upto ≤ o + n) → Either o a b
      go (inr l) =
          inl (record {
            from = h.from;
            upto = h.upto;
            begun = omega (arith, h.begun);
            ended = l;
            again = h.again;
            has = h.has;
            lacks = h.lacks;
          })
      go (inl l) =
          let end : h.upto ≡ suc o + n = omega (arith, h.ended) in
          let m = h.has in
          inr (record {
            from = suc o;
            upto = h.from;
            begun = omega arith;
            ended = omega (arith, m.1, m.2);
            again = ap (λ r. (record_at s r).dom) (sym (around (suc o))) ∙ ap at (sym end) ∙ sym h.again;
            has = (j, oj, ⊎_elim (λ g. g) (λ g. absurd (h.lacks (j, g, omega arith, f))) (lt-or-le j h.from), f);
            lacks = λ k. apart a (suc o) h.from k (m.0, m.1, omega (arith, m.2), m.3);
          })

  -- ---- from any step

  turned : (o a b : ℕ) → Either o a b → Either o b a
  turned o a b = ⊎_elim inr inl

  unparted-next : (o a b : ℕ) → Unparted s w n o a b → Unparted s w n (suc o) a b
  unparted-next o a b h =
      record {
        one = on-next a o h.one;
        other = on-next b o h.other;
        whole =
            ⊎_elim (λ p. h.whole (parted-back o a b (on-next b o h.other) p))
            (λ p. h.whole (turned o b a (parted-back o b a (on-next a o h.one) p)));
      }

  unparted-back : (o a b : ℕ) → Unparted s w n (suc o) a b → Unparted s w n o a b
  unparted-back o a b h =
      record {
        one = on-back a o h.one;
        other = on-back b o h.other;
        whole =
            ⊎_elim (λ p. h.whole (parted-next o a b (on-back b o h.other) p))
            (λ p. h.whole (turned (suc o) b a (parted-next o b a (on-back a o h.one) p)));
      }

  pub unparted-any : (t a b : ℕ) → Unparted s w n 0 a b ↔ Unparted s w n t a b
  unparted-any zero a b = ((λ h. h), λ h. h)
  unparted-any (suc t) a b =
      let ih = unparted-any t a b in
      ((λ h. unparted-next t a b (ih.0 h)), λ h. ih.1 (unparted-back t a b h))
