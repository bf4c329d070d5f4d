-- What the cut of a walk takes off: the steps that are taken, and no other; what is left stays free.
--     stands-cut    so the machine stands after the cut where step t departs
-- Assumes nothing.
use mathlib.Core.Path.{◌≡◌, refl, sym, ap, ◌∙◌}
use mathlib.Core.Logic.{◌⊎◌, inl, inr, ⊎_elim}
use mathlib.Core.Bool.{true≢false}
use mathlib.Core.List.Memᴰ
use mathlib.Core.List.{List, [], ◌∷◌, ◌++◌, map}
use Prim.Native.Nat.{ℕ, suc, ◌+◌, ◌<◌, ◌≤◌}
use native.Mathlib.Omega.{arith}
use lib.IntN.{ℤ}
use Rattle.counts.specs.Count.{◌∈◌}
use Rattle.counts.proofs.MapLaws.{mem-map}
use Rattle.plane.specs.declared.Point.{Point}
use Rattle.plane.specs.Points.{same}
use Rattle.plane.proofs.PointLaws.{same_true, same_refl}
use Rattle.walks.specs.Walks.{Cut, from, cut_at}
use Rattle.walks.proofs.SplitLaws.{Split, Whole, cut-cases, Rising, rising-split}
use Rattle.walks.proofs.Taken.{corner, Nested, Free, Taken, TakenAt, Stands}
use Rattle.walks.proofs.FreeLaws.{longer, shorter, unseen}

module _ (s : List ℤ) (w : ℕ → ℕ) (o n : ℕ) (nested : Nested s w n) where
  abbrev at : ℕ → Point
  at i = corner s w i

  module _ (t : ℕ) (tn : t ≤ o + n) (c : Cut) (h : Stands s w o t t c) where
    stands-whole : Whole (from s (at t)) w h.steps → Stands s w o t (suc t) c
    stands-whole whole =
        record {
          steps = h.steps;
          is = h.is;
          rising = h.rising;
          member = λ i m. let f = h.member i m in
              (f.0, f.1, longer s w o t i f.2 (λ u ou ui it. unseen s w o n nested t tn none u ou (omega arith)));
          all = λ i l g f. h.all i l g (shorter s w o t i f);
          covered = h.covered;
          taken = λ d m. let f = h.taken d m in (f.0, omega (arith, f.1), f.2);
        }
      where
        none : (i : ℕ) → o ≤ i → i < t → Free s w o t i → at i ≡ at t → ⊥
        none i l g f e =
            true≢false (sym (same_refl (at t)) ∙ ap (λ p. same p (at t)) (sym e) ∙ whole i (h.all i l g f))

    stands-split : (p : Split (from s (at t)) w h.steps)
        → Stands s w o t (suc t)
        (record { rest = map w p.early; cycles = c.cycles ++ (map w (p.at ∷ p.late) ∷ []) })
    stands-split p =
        record {
          steps = p.early;
          is = refl;
          rising = order.0;
          member = λ i m. let f = h.member i (left i m) in (f.0, f.1, still i m);
          all = λ i l g f. ⊎_elim (λ m. m) (λ m. absurd (gone i m f)) (sides i (h.all i l g (shorter s w o t i f)));
          covered = λ i l g. cover i (h.covered i l g);
          taken = λ d m. cycle d (Memᴰ.append_cases c.cycles m);
        }
      where
        returns : at p.at ≡ at t
        returns = same_true _ _ p.passes

        order : Rising p.early × ((i : ℕ) → i ∈ p.early → i < p.at) × ((i : ℕ) → i ∈ p.at ∷ p.late → p.at ≤ i)
        order = rising-split p.early p.at p.late (rw (← p.whole) h.rising)

        left : (i : ℕ) → i ∈ p.early → i ∈ h.steps
        left i m = rw p.whole (Memᴰ.append_left (p.at ∷ p.late) m)

        off : (i : ℕ) → i ∈ p.at ∷ p.late → i ∈ h.steps
        off i m = rw p.whole (Memᴰ.append_right p.early m)

        sides : (i : ℕ) → i ∈ h.steps → (i ∈ p.early) ⊎ (i ∈ p.at ∷ p.late)
        sides i m = Memᴰ.append_cases p.early (rw p.whole at m)

        here : (o ≤ p.at) × (p.at < t) × Free s w o t p.at
        here = h.member p.at (off p.at (Memᴰ.head refl))

        -- what is left is not enclosed by a return to where step t departs: nor had it been left before
        still : (i : ℕ) → i ∈ p.early → Free s w o (suc t) i
        still i m =
            let f = h.member i (left i m) in
            longer s w o t i f.2
            (λ u ou ui it e. f.2 u p.at ou ui (order.1 i m) here.1 (e ∙ sym returns))

        gone : (i : ℕ) → i ∈ p.at ∷ p.late → Free s w o (suc t) i → ⊥
        gone i m f = f p.at t here.0 (order.2 i m) (h.member i (off i m)).1 (omega arith) returns

        cover : (i : ℕ) → (i ∈ h.steps) ⊎ ((d : List ℕ) × (d ∈ c.cycles) × (w i ∈ d))
            → (i ∈ p.early) ⊎ ((d : List ℕ) × (d ∈ c.cycles ++ (map w (p.at ∷ p.late) ∷ [])) × (w i ∈ d))
        cover i (inl m) =
            let last = Memᴰ.append_right c.cycles (Memᴰ.head refl) in
            ⊎_elim inl (λ k. inr (map w (p.at ∷ p.late), last, mem-map w (p.at ∷ p.late) i k)) (sides i m)
        cover i (inr f) = inr (f.0, Memᴰ.append_left _ f.1, f.2)

        new : (d : List ℕ) → (d ≡ map w (p.at ∷ p.late)) ⊎ (d ∈ []) → TakenAt s w o t d
        new d (inr k) = absurd (Memᴰ.not-nil k)
        new d (inl e) =
            record {
              steps = p.at ∷ p.late;
              is = e;
              member = λ i m. let f = h.member i (off i m) in
                  record {
                    from = f.0;
                    upto = f.1;
                    free = f.2;
                    base = p.at;
                    begun = here.0;
                    below = order.2 i m;
                    again = returns;
                  };
              all = λ i k.
                  ⊎_elim (λ m. absurd (kept i k m)) (λ m. m) (sides i (h.all i k.from k.upto k.free));
            }
          where
            kept : (i : ℕ) → Taken s w o t i → i ∈ p.early → ⊥
            kept i k m = still i m k.base t k.begun k.below k.upto (omega arith) k.again

        cycle : (d : List ℕ) → (d ∈ c.cycles) ⊎ (d ∈ map w (p.at ∷ p.late) ∷ [])
            → (v : ℕ) × (v < suc t) × TakenAt s w o v d
        cycle d (inl k) = let f = h.taken d k in (f.0, omega (arith, f.1), f.2)
        cycle d (inr k) = (t, omega arith, new d (Memᴰ.cases_cons k))

    pub stands-cut : Stands s w o t (suc t) (cut_at s (at t) c)
    stands-cut = go (cut-cases s (at t) w h.steps c h.is)
      where
        go : (Whole (from s (at t)) w h.steps × (cut_at s (at t) c ≡ c))
            ⊎ ((p : Split (from s (at t)) w h.steps)
            × (cut_at s (at t) c
            ≡ record { rest = map w p.early; cycles = c.cycles ++ (map w (p.at ∷ p.late) ∷ []) }))
            → Stands s w o t (suc t) (cut_at s (at t) c)
        go (inl (whole, e)) = rw e (stands-whole whole)
        go (inr (p, e)) = rw e (stands-split p)
