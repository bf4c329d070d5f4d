-- What the cutting of a walk leaves and takes off (Cut, cut_at, walk_on and walk_all of specs/Walks), for a walk that
-- departs from the point p.
--     Holding s p q c      of a cut c that has come to q: its rest is a chain from p to q with no two records that
--                          depart from one point, and its cycles are loops
--     held_all             a chain of records, walked on from where the cut has come to, keeps that
--     held_cut             so does a cut where it stands, and no record left departs from there
--     all_back             back at p, a cut leaves nothing
--     shared v c           the sum of v over all that a cut holds, its cycles and its rest
--     shared-cut, shared-all     a cut shares out anew what there was; walking on adds what is walked
-- Assumes nothing.
use mathlib.Core.Path.{◌≡◌, refl, sym, ap, ◌∙◌, subst}
use mathlib.Core.Logic.{⊎_elim}
use mathlib.Core.Bool.{Bool, true, false, cond}
use mathlib.Core.List.Memᴰ
use mathlib.Core.List.{List, [], ◌∷◌, ◌++◌}
use Prim.Native.Nat.{ℕ, ◌+◌, ◌<◌, ◌≤◌}
use native.Mathlib.Omega.{arith}
use lib.Dec.{ltb}
use lib.IntN.{ℤ}
use lib.ListN.{length, get_or, take, drop, take-append-drop, length-drop}
use borrow.Author.Tests.{ltb-true, ltb-false}
use Rattle.counts.specs.Count.{◌∈◌, ind, sum, count, first_index}
use Rattle.counts.proofs.SumLaws.{sum-append}
use Rattle.counts.proofs.CountLaws.{count-off, count-append, count-split}
use Rattle.counts.proofs.FirstLaws.{first_index-most, first_index-passes, first_index-none}
use Rattle.plane.specs.declared.Point.{Point}
use Rattle.plane.specs.Points.{same}
use Rattle.plane.proofs.PointLaws.{same_true, same_refl}
use Rattle.record.specs.Records.{record_at}
use Rattle.walks.specs.Walks.{from, Cut, cut_at, walk_on, walk_all}
use Rattle.counts.proofs.ShareLaws.{count-before}
use Rattle.walks.proofs.ChainLaws.{Chain, Loop, chain-append, chain-take, chain-drop}

pub record Holding (s : List ℤ) (p q : Point) (c : Cut) : Type 0 where
  pub chain : Chain s p c.rest q
  pub simple : (o : Point) → count (from s o) c.rest ≤ 1
  pub loops : (d : List ℕ) → d ∈ c.cycles → Loop s d

module _ (s : List ℤ) where
  -- what is taken off where the walk comes to q: what was walked since it departed from there
  abbrev since : Point → Cut → ℕ
  since q c = first_index (from s q) c.rest

  abbrev taken : Point → Cut → Cut
  taken q c =
      record { rest = take (since q c) c.rest; cycles = c.cycles ++ (drop (since q c) c.rest ∷ []) }

  -- ---- one cut

  module _ (p q : Point) (c : Cut) (h : Holding s p q c) where
    pub held_cut : Holding s p q (cut_at s q c) × (count (from s q) (cut_at s q c).rest ≡ 0)
    unfolding cut_at
    held_cut = go (ltb (since q c) (length c.rest)) refl
      where
        here : since q c < length c.rest → (record_at s (get_or c.rest (since q c) 0)).dom ≡ q
        here l = same_true _ _ (first_index-passes (from s q) 0 c.rest l)

        loop : since q c < length c.rest → Loop s (drop (since q c) c.rest)
        loop l = record {
          start = q;
          some = omega (arith, length-drop (since q c) c.rest);
          round = subst (λ o. Chain s o (drop (since q c) c.rest) q) (here l)
              (chain-drop s (since q c) p q c.rest h.chain l);
          simple = λ o. omega (arith, h.simple o, count-split (from s o) (since q c) c.rest);
        }

        off : since q c < length c.rest → Holding s p q (taken q c)
        off l = record {
          chain = subst (Chain s p (take (since q c) c.rest)) (here l)
              (chain-take s (since q c) p q c.rest h.chain l);
          simple = λ o. omega (arith, h.simple o, count-split (from s o) (since q c) c.rest);
          loops = λ d m. ⊎_elim (h.loops d)
              (λ n. subst (Loop s) (sym (Memᴰ.eq_of_singleton n)) (loop l))
              (Memᴰ.append_cases c.cycles m);
        }

        go : (b : Bool) → ltb (since q c) (length c.rest) ≡ b
            → Holding s p q (cond b (taken q c) c) × (count (from s q) (cond b (taken q c) c).rest ≡ 0)
        go true e = (off (ltb-true _ _ e), count-before (from s q) c.rest)
        go false e =
            let l : since q c ≡ length c.rest =
            omega (arith, ltb-false (since q c) (length c.rest) e, first_index-most (from s q) 0 c.rest)
            in
            (h, count-off (from s q) c.rest ((first_index-none (from s q) 0 c.rest).0 l))

  -- ---- walking on

  held_on : (p : Point) (c : Cut) (j : ℕ) → Holding s p (record_at s j).dom c
      → Holding s p (record_at s j).other (walk_on s c j)
  unfolding sum
  held_on p c j h = record {
    chain = chain-append s p o (record_at s j).other rest (j ∷ []) kept.0.chain (refl, refl);
    simple = λ q. omega (arith, count-append (from s q) rest (j ∷ []), one q (from s q j) refl);
    loops = kept.0.loops;
  }
    where
      o : Point
      o = (record_at s j).dom

      rest : List ℕ
      rest = (cut_at s o c).rest

      kept : Holding s p o (cut_at s o c) × (count (from s o) rest ≡ 0)
      kept = held_cut p o c h

      one : (q : Point) (b : Bool) → from s q j ≡ b → count (from s q) rest + ind b ≤ 1
      one q true e = omega (arith, kept.1, ap (λ z. count (from s z) rest) (same_true o q e))
      one q false e = omega (arith, kept.0.simple q)

  pub held_all : (p q e : Point) (js : List ℕ) (c : Cut) → Chain s q js e → Holding s p q c
      → Holding s p e (walk_all s c js)
  unfolding walk_all
  held_all p q e [] c h g = subst (λ z. Holding s p z c) h g
  held_all p q e (j ∷ js) c h g =
      held_all p (record_at s j).other e js (walk_on s c j) h.1
      (held_on p c j (subst (λ z. Holding s p z c) (sym h.0) g))

  pub all_back : (p : Point) (c : Cut) → Holding s p p c → (cut_at s p c).rest ≡ []
  unfolding sum
  all_back p c h = go (cut_at s p c).rest (held_cut p p c h).0.chain (held_cut p p c h).1
    where
      go : (js : List ℕ) → Chain s p js p → count (from s p) js ≡ 0 → js ≡ []
      go [] g e = refl
      go (j ∷ js) g e =
          absurd (omega (arith, ap ind (ap (λ z. same z p) g.0 ∙ same_refl p)))

  -- ---- what is shared out

  abbrev pub shared : (ℕ → ℕ) → Cut → ℕ
  shared v c = sum (λ d. sum v d) c.cycles + sum v c.rest

  module _ (v : ℕ → ℕ) where
    pub shared-cut : (p : Point) (c : Cut) → shared v (cut_at s p c) ≡ shared v c
    unfolding cut_at sum
    shared-cut p c = go (ltb (since p c) (length c.rest))
      where
        go : (b : Bool) → shared v (cond b (taken p c) c) ≡ shared v c
        go true =
            omega (
              arith,
              sum-append (λ d. sum v d) c.cycles (drop (since p c) c.rest ∷ []),
              sum-append v (take (since p c) c.rest) (drop (since p c) c.rest),
              ap (sum v) (take-append-drop (since p c) c.rest),
            )
        go false = refl

    pub shared-all : (js : List ℕ) (c : Cut) → shared v (walk_all s c js) ≡ shared v c + sum v js
    unfolding walk_all sum
    shared-all [] c = omega arith
    shared-all (j ∷ js) c =
        omega (
          arith,
          shared-all js (walk_on s c j),
          shared-cut (record_at s j).dom c,
          sum-append v (cut_at s (record_at s j).dom c).rest (j ∷ []),
        )
