-- The start of a walk makes no difference to how it is cut.
--     any-start           of a walk that comes round after n steps, the same records are together whichever step it is
--                         taken to start with
-- Assumes nothing.
use mathlib.Core.Path.{◌≡◌, refl, sym, ap, ◌∙◌}
use mathlib.Core.Logic.{◌↔◌, ⊎_elim}
use mathlib.Core.List.{List}
use Prim.Native.Nat.{ℕ, suc, ◌+◌, ◌<◌}
use native.Mathlib.Omega.{arith}
use lib.IntN.{ℤ}
use Rattle.counts.specs.Count.{◌∈◌, listed}
use Rattle.counts.proofs.MapLaws.{map-mem, mem-map}
use Rattle.record.specs.Records.{record_at}
use Rattle.walks.specs.Walks.{cut_at, walk_all, uncut, cycles_in}
use Rattle.walks.specs.Circuits.{Together}
use Rattle.walks.proofs.Taken.{Nested, TakenAt, Stands}
use Rattle.walks.proofs.StandsLaws.{stands-end}
use Rattle.walks.proofs.PartedLaws.{On, Unparted, unparted-any}
use Rattle.walks.proofs.UnpartedLaws.{taken-whole, whole-taken}

module _ (s : List ℤ) (w : ℕ → ℕ) (n : ℕ) (around : (i : ℕ) → w (i + n) ≡ w i)
    (fresh : (i j : ℕ) → i < j → j < i + n → w i ≡ w j → ⊥) (nested : Nested s w n) where
  module _ (o a b : ℕ) where
    abbrev cycles : List (List ℕ)
    cycles = cycles_in s (w o) (listed w o n)

    stands : Stands s w o (o + n) (suc (o + n)) (cut_at s (record_at s (w o)).dom (walk_all s uncut (listed w o n)))
    stands = rw (← around o) (stands-end s w o n nested)

    unparted : Together cycles a b → Unparted s w n o a b
    unparted h = go (stands.taken h.it h.listed)
      where
        go : (v : ℕ) × (v < suc (o + n)) × TakenAt s w o v h.it → Unparted s w n o a b
        go (v, vn, k) = both (step a h.one) (step b h.other)
          where
            step : (x : ℕ) → x ∈ h.it → (i : ℕ) × (i ∈ k.steps) × (x ≡ w i)
            step x m = map-mem w k.steps x (rw k.is at m)

            both : (i : ℕ) × (i ∈ k.steps) × (a ≡ w i) → (j : ℕ) × (j ∈ k.steps) × (b ≡ w j) → Unparted s w n o a b
            both (i, im, e) (j, jm, f) =
                let x = k.member i im in
                let y = k.member j jm in
                rw (e, f) (record {
                  one = (i, x.from, omega (arith, x.upto), refl);
                  other = (j, y.from, omega (arith, y.upto), refl);
                  whole =
                      ⊎_elim (taken-whole s w n fresh nested o v i j (omega arith) x y)
                      (taken-whole s w n fresh nested o v j i (omega arith) y x);
                })

    together : Unparted s w n o a b → Together cycles a b
    together h = go h.one h.other
      where
        none_left : (i : ℕ) → i ∈ stands.steps → ⊥
        none_left i m =
            let f = stands.member i m in
            f.2 o (o + n) (omega arith) f.0 f.1 (omega arith) (ap (λ r. (record_at s r).dom) (sym (around o)))

        go : On w o (o + n) a → On w o (o + n) b → Together cycles a b
        go (i, oi, il, e) (j, oj, jl, f) =
            ⊎_elim (λ m. absurd (none_left i m)) (λ d. cycle d.0 d.1 d.2 (stands.taken d.0 d.1))
            (stands.covered i oi il)
          where
            cycle : (d : List ℕ) → d ∈ cycles → w i ∈ d → (v : ℕ) × (v < suc (o + n)) × TakenAt s w o v d
                → Together cycles a b
            cycle d dm im (v, vn, k) =
                let m = map-mem w k.steps (w i) (rw k.is at im) in
                let whole = rw (sym e ∙ m.2, sym f) at h.whole in
                let y = whole-taken s w n fresh o v m.0 j (omega arith) (k.member m.0 m.1) oj jl whole in
                record {
                  it = d;
                  listed = dm;
                  one = rw (← e) im;
                  other = rw (k.is, ← f) (mem-map w k.steps j (k.all j y));
                }

  pub any-start : (t a b : ℕ)
      → Together (cycles_in s (w 0) (listed w 0 n)) a b ↔ Together (cycles_in s (w t) (listed w t n)) a b
  any-start t a b =
      let e = unparted-any s w n around fresh t a b in
      ((λ h. together t a b (e.0 (unparted 0 a b h))), λ h. together 0 a b (e.1 (unparted t a b h)))
