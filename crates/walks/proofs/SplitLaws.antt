-- Where the cut of a walk parts what is left of it, told by the numbers of its steps: step i walks record w i.
--     Split q w is       the steps `is` fall into the early ones, the first whose record passes q, and the late ones;
--                        `take` and `drop` at the first index give the records of the two stretches
--     Whole q w is       none of the steps has a record that passes q
--     cut-cases          the cut at p leaves all as it is where no record left departs from p; else it leaves the early
--                        stretch, and the other is one cycle more
--     Rising is          the steps ascend
--     rising-split       of ascending steps the early stretch ascends, and comes before the other
--     rising-more        ascending steps and a later one ascend
-- Assumes nothing.
use mathlib.Core.Path.{◌≡◌, refl, ap}
use mathlib.Core.Logic.{◌⊎◌, inl, inr, ⊎_elim}
use mathlib.Core.Bool.{Bool, true, false}
use mathlib.Core.List.Memᴰ
use mathlib.Core.List.{List, [], ◌∷◌, ◌++◌, map}
use Prim.Native.Nat.{ℕ, suc, ◌<◌, ◌≤◌}
use native.Mathlib.Omega.{arith}
use lib.IntN.{ℤ}
use lib.ListN.{length, take, drop}
use borrow.Author.Tests.{lt-ltb, le-ltb}
use Rattle.counts.specs.Count.{◌∈◌, first_index}
use Rattle.counts.proofs.AscendingLaws.{Ascending}
use Rattle.plane.specs.declared.Point.{Point}
use Rattle.walks.specs.Walks.{Cut, from, cut_at}

pub record Split (q : ℕ → Bool) (w : ℕ → ℕ) (is : List ℕ) : Type 0 where
  pub early : List ℕ
  pub at : ℕ
  pub late : List ℕ
  pub whole : is ≡ early ++ (at ∷ late)
  pub passes : q (w at) ≡ true
  pub found : first_index q (map w is) < length (map w is)
  pub kept : take (first_index q (map w is)) (map w is) ≡ map w early
  pub off : drop (first_index q (map w is)) (map w is) ≡ map w (at ∷ late)

abbrev pub Whole : (ℕ → Bool) → (ℕ → ℕ) → List ℕ → Type 0
Whole q w is = (i : ℕ) → i ∈ is → q (w i) ≡ false

abbrev NonePasses : (ℕ → Bool) → (ℕ → ℕ) → List ℕ → Type 0
NonePasses q w is = Whole q w is × (first_index q (map w is) ≡ length (map w is))

first-split : (q : ℕ → Bool) (w : ℕ → ℕ) (is : List ℕ) → NonePasses q w is ⊎ Split q w is
unfolding first_index
first-split q w [] = inl ((λ i m. absurd (Memᴰ.not-nil m)), refl)
first-split q w (j ∷ js) = go (q (w j)) refl (first-split q w js)
  where
    go : (b : Bool) → q (w j) ≡ b → NonePasses q w js ⊎ Split q w js → NonePasses q w (j ∷ js) ⊎ Split q w (j ∷ js)
    go true e ih =
        inr (record {
          early = [];
          at = j;
          late = js;
          whole = refl;
          passes = e;
          found = rw e (omega arith);
          kept = rw e refl;
          off = rw e refl;
        })
    go false e (inl (none, end)) = inl (fails, rw e (ap suc end))
      where
        fails : Whole q w (j ∷ js)
        fails i m = cases (Memᴰ.cases_cons m)
          where
            cases : (i ≡ j) ⊎ (i ∈ js) → q (w i) ≡ false
            cases (inl h) = rw h e
            cases (inr k) = none i k
    go false e (inr h) =
        inr (record {
          early = j ∷ h.early;
          at = h.at;
          late = h.late;
          whole = ap (λ is. j ∷ is) h.whole;
          passes = h.passes;
          found = rw e (omega (arith, h.found));
          kept = rw e (ap (λ is. w j ∷ is) h.kept);
          off = rw e h.off;
        })

-- ---- the cut

module _ (s : List ℤ) (p : Point) (w : ℕ → ℕ) (is : List ℕ) (c : Cut) (left : c.rest ≡ map w is) where
  abbrev k : ℕ
  k = first_index (from s p) (map w is)

  cut-whole : k ≡ length (map w is) → cut_at s p c ≡ c
  unfolding cut_at
  cut-whole e = rw (left, le-ltb k (length (map w is)) (omega arith)) refl

  cut-split : (h : Split (from s p) w is)
      → cut_at s p c ≡ record { rest = map w h.early; cycles = c.cycles ++ (map w (h.at ∷ h.late) ∷ []) }
  unfolding cut_at
  cut-split h = rw (left, lt-ltb k (length (map w is)) h.found, h.kept, h.off) refl

  pub cut-cases : (Whole (from s p) w is × (cut_at s p c ≡ c))
      ⊎ ((h : Split (from s p) w is)
      × (cut_at s p c ≡ record { rest = map w h.early; cycles = c.cycles ++ (map w (h.at ∷ h.late) ∷ []) }))
  cut-cases =
      ⊎_elim (λ none. inl (none.0, cut-whole none.1)) (λ h. inr (h, cut-split h)) (first-split (from s p) w is)

-- ---- in ascending order

abbrev pub Rising : List ℕ → Type 0
Rising is = Ascending (λ i j. i < j) is

pub rising-split : (early : List ℕ) (at : ℕ) (late : List ℕ) → Rising (early ++ (at ∷ late))
    → (Rising early) × ((i : ℕ) → i ∈ early → i < at) × ((i : ℕ) → i ∈ at ∷ late → at ≤ i)
rising-split [] at late a = (tt, (λ i m. absurd (Memᴰ.not-nil m)), λ i m. go i (Memᴰ.cases_cons m))
  where
    go : (i : ℕ) → (i ≡ at) ⊎ (i ∈ late) → at ≤ i
    go i (inl e) = omega arith
    go i (inr m) = omega (arith, a.0 i m)
rising-split (j ∷ js) at late a =
    let ih = rising-split js at late a.1 in
    (((λ i m. a.0 i (Memᴰ.append_left (at ∷ late) m)), ih.0), (λ i m. go i (Memᴰ.cases_cons m) ih.1), ih.2)
  where
    go : (i : ℕ) → (i ≡ j) ⊎ (i ∈ js) → ((i : ℕ) → i ∈ js → i < at) → i < at
    go i (inl e) ih = rw e (a.0 at (Memᴰ.append_right js (Memᴰ.head refl)))
    go i (inr m) ih = ih i m

pub rising-more : (is : List ℕ) (n : ℕ) → Rising is → ((i : ℕ) → i ∈ is → i < n) → Rising (is ++ (n ∷ []))
rising-more [] n a h = ((λ i m. absurd (Memᴰ.not-nil m)), tt)
rising-more (j ∷ js) n a h =
    ((λ i m. go i (Memᴰ.append_cases js m)), rising-more js n a.1 (λ i m. h i (Memᴰ.tail m)))
  where
    go : (i : ℕ) → (i ∈ js) ⊎ (i ∈ n ∷ []) → j < i
    go i (inl m) = a.0 i m
    go i (inr m) = end (Memᴰ.cases_cons m)
      where
        end : (i ≡ n) ⊎ (i ∈ []) → j < i
        end (inl e) = rw e (h j (Memᴰ.head refl))
        end (inr k) = absurd (Memᴰ.not-nil k)
