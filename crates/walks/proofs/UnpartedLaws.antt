-- What the cut takes off together is what no returning stretch parts.
--     taken-whole    two steps that are taken at one step are not parted
--     whole-taken    a step that is not parted from one that is taken is taken with it
-- Assumes nothing.
use mathlib.Core.Path.{◌≡◌, refl, sym, ap, ◌∙◌}
use mathlib.Core.Logic.{◌⊎◌, inl, inr, ⊎_elim}
use mathlib.Core.List.{List}
use Prim.Native.Nat.{ℕ, ◌+◌, ◌<◌, ◌≤◌}
use native.Mathlib.Omega.{arith}
use lib.IntN.{ℤ}
use Rattle.counts.proofs.TestLaws.{lt-or-le, Side, side, less, equal, more}
use Rattle.walks.proofs.Taken.{corner, Nested, Taken}
use Rattle.walks.proofs.PartedLaws.{On, Parted}

module _ (s : List ℤ) (w : ℕ → ℕ) (n : ℕ) (fresh : (i j : ℕ) → i < j → j < i + n → w i ≡ w j → ⊥) where
  -- a record is walked once in a round
  step-one : (o i j : ℕ) → o ≤ i → o ≤ j → i < o + n → j < o + n → w i ≡ w j → i ≡ j
  step-one o i j oi oj il jl e = go (side i j)
    where
      go : Side i j → i ≡ j
      go (less l) = absurd (fresh i j l (omega arith) e)
      go (equal l) = l
      go (more l) = absurd (fresh j i l (omega arith) (sym e))

  -- what is taken at one step is not parted
  pub taken-whole : Nested s w n → (o v i j : ℕ) → v ≤ o + n → Taken s w o v i → Taken s w o v j
      → Parted s w n o (w i) (w j) → ⊥
  taken-whole nested o v i j vn ti tj h = go (lt-or-le j h.from) (lt-or-le j h.upto)
    where
      inner : (h.from ≤ i) × (i < h.upto)
      inner =
          let m = h.has in
          let e = step-one o m.0 i (omega (arith, h.begun, m.1)) ti.from (omega (arith, m.2, h.ended))
          (omega (arith, ti.upto)) m.3 in
          (omega (arith, m.1), omega (arith, m.2))

      -- a return from below j to the stretch's beginning would have taken j before
      early : corner s w tj.base ≡ corner s w h.from → j < h.from → ⊥
      early e l = tj.free tj.base h.from tj.begun tj.below l (omega (arith, inner.0, ti.upto)) e

      go : (j < h.from) ⊎ (h.from ≤ j) → (j < h.upto) ⊎ (h.upto ≤ j) → ⊥
      go (inr l) (inl g) = h.lacks (j, l, g, refl)
      go l (inr g) = ti.free h.from h.upto h.begun inner.0 inner.1 (omega (arith, tj.upto)) h.again
      go (inl l) (inl g) = ends (side h.upto v)
        where
          ends : Side h.upto v → ⊥
          ends (less k) = ti.free h.from h.upto h.begun inner.0 inner.1 k h.again
          ends (equal k) = early (tj.again ∙ ap (λ i. corner s w i) (sym k) ∙ sym h.again) l
          ends (more k) =
              early
              (nested tj.base h.from v h.upto (omega (arith, tj.below)) (omega (arith, inner.0, ti.upto)) k
              (omega (arith, h.ended, tj.begun)) tj.again h.again) l

  -- a stretch that returns has j with i, where it does not part them
  with_it : (o u v i j : ℕ) → o ≤ u → v ≤ o + n → corner s w u ≡ corner s w v → u ≤ i → i < v → o ≤ j → j < o + n
      → (Parted s w n o (w i) (w j) → ⊥) → (u ≤ j) × (j < v)
  with_it o u v i j ou vn e ui iv oj jn whole = go (lt-or-le j u) (lt-or-le j v)
    where
      parted : (j < u) ⊎ (v ≤ j) → Parted s w n o (w i) (w j)
      parted out =
          record { from = u; upto = v; begun = ou; ended = vn; again = e; has = (i, ui, iv, refl); lacks = lacks }
        where
          lacks : On w u v (w j) → ⊥
          lacks (k, uk, kv, f) =
              let g = step-one o k j (omega arith) oj (omega arith) jn f in
              ⊎_elim (λ l. omega arith) (λ l. omega arith) out

      go : (j < u) ⊎ (u ≤ j) → (j < v) ⊎ (v ≤ j) → (u ≤ j) × (j < v)
      go (inl l) g = absurd (whole (parted (inl l)))
      go (inr l) (inl g) = (l, g)
      go (inr l) (inr g) = absurd (whole (parted (inr g)))

  -- what is not parted from a step that is taken is taken with it
  pub whole-taken : (o v i j : ℕ) → v ≤ o + n → Taken s w o v i → o ≤ j → j < o + n
      → (Parted s w n o (w i) (w j) ⊎ Parted s w n o (w j) (w i) → ⊥) → Taken s w o v j
  whole-taken o v i j vn t oj jn whole =
      let m = with_it o t.base v i j t.begun vn t.again t.below t.upto oj jn (λ p. whole (inl p)) in
      record {
        from = oj;
        upto = m.1;
        free = λ u k ou uj jk kv e.
            let l : i < o + n = omega (arith, t.upto) in
            let f = with_it o u k j i ou (omega arith) e uj jk t.from l (λ p. whole (inr p)) in
            t.free u k ou f.0 f.1 kv e;
        base = t.base;
        begun = t.begun;
        below = m.0;
        again = t.again;
      }
