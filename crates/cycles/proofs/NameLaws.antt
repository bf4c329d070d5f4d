-- What stands at a place once the halves of some records have been given a number.
--     halved s i j        i is a half of record j
--     halved_in s i cs    i is a half of a record of one of the cycles cs
--     starts_of-length, firsts_of-length   as many places as before
--     starts_of-at        the start at a place: w where it is a half of a record of the cycles, else as it was
--     least_half s c      the first record of the cycle c, as it is computed
--     firsts_of-at        the first record at a place: f where it is such a half and f is the first record of its cycle
--     starts_of-snoc, firsts_of-snoc    one more cycle
-- Assumes nothing.
use mathlib.Core.Path.{◌≡◌, refl, sym, ap, ◌∙◌}
use mathlib.Core.Bool.{Bool, true, false, cond, ◌||◌}
use mathlib.Core.List.{List, [], ◌∷◌, ◌++◌}
use mathlib.Core.List.Memᴰ
use Prim.Native.Nat.{ℕ, ◌<◌}
use native.Mathlib.Omega.{arith}
use lib.Dec.{eqb}
use lib.IntN.{ℤ}
use lib.ListN.{length, get_or, set, length-set}
use lib.Seq.{get_or-set_same, get_or-set_other}
use borrow.Author.Tests.{eqb-true, eqb-false}
use Rattle.counts.specs.Count.{◌∈◌, any}
use Rattle.counts.proofs.TestLaws.{or_left, or_right}
use Rattle.walks.specs.Ways.{way_back}
use Rattle.cycles.specs.Steps.{first_half, name_record, name_all, name_first, firsts_of, starts_of}

abbrev pub halved : List ℤ → ℕ → ℕ → Bool
halved s i j = eqb j i || eqb (way_back s j) i

abbrev pub halved_in : List ℤ → ℕ → List (List ℕ) → Bool
halved_in s i cs = any (λ c. any (halved s i) c) cs

abbrev pub least_half : List ℤ → List ℕ → ℕ
least_half s c = first_half s (get_or c 0 0) c

cond-or : (a b : Bool) (v x : ℕ) → cond b v (cond a v x) ≡ cond (a || b) v x
cond-or true true v x = refl
cond-or true false v x = refl
cond-or false b v x = refl

set_at : (to : List ℕ) (j v i : ℕ) → (eqb j i ≡ true → i < length to)
    → get_or (set to j v) i 0 ≡ cond (eqb j i) v (get_or to i 0)
set_at to j v i h = go (eqb j i) refl
  where
    go : (b : Bool) → eqb j i ≡ b → get_or (set to j v) i 0 ≡ cond b v (get_or to i 0)
    go true e = rw (eqb-true j i e) (get_or-set_same to i v 0 (h e))
    go false e = get_or-set_other to j i v 0 (λ g. eqb-false j i e (sym g))

module _ (s : List ℤ) where
  -- ---- as many places

  name_all-length : (v : ℕ) (js to : List ℕ) → length (name_all s v js to) ≡ length to
  unfolding name_all
  name_all-length v [] to = refl
  name_all-length v (j ∷ js) to = name_all-length v js (name_record s v j to) ∙ simp length-set

  name_first-is : (c to : List ℕ) → name_first s c to ≡ name_all s (least_half s c) c to
  unfolding name_first name_all
  name_first-is [] to = refl
  name_first-is (j ∷ js) to = refl

  name_first-length : (c to : List ℕ) → length (name_first s c to) ≡ length to
  name_first-length c to = ap length (name_first-is c to) ∙ name_all-length (least_half s c) c to

  pub starts_of-length : (w : ℕ) (cs : List (List ℕ)) (to : List ℕ) → length (starts_of s w cs to) ≡ length to
  unfolding starts_of
  starts_of-length w [] to = refl
  starts_of-length w (c ∷ cs) to = starts_of-length w cs (name_all s w c to) ∙ name_all-length w c to

  pub firsts_of-length : (cs : List (List ℕ)) (to : List ℕ) → length (firsts_of s cs to) ≡ length to
  unfolding firsts_of
  firsts_of-length [] to = refl
  firsts_of-length (c ∷ cs) to = firsts_of-length cs (name_first s c to) ∙ name_first-length c to

  -- ---- one more cycle

  pub starts_of-snoc : (w : ℕ) (cs : List (List ℕ)) (c to : List ℕ)
      → starts_of s w (cs ++ (c ∷ [])) to ≡ name_all s w c (starts_of s w cs to)
  unfolding starts_of
  starts_of-snoc w [] c to = refl
  starts_of-snoc w (d ∷ cs) c to = starts_of-snoc w cs c (name_all s w d to)

  pub firsts_of-snoc : (cs : List (List ℕ)) (c to : List ℕ)
      → firsts_of s (cs ++ (c ∷ [])) to ≡ name_first s c (firsts_of s cs to)
  unfolding firsts_of
  firsts_of-snoc [] c to = refl
  firsts_of-snoc (d ∷ cs) c to = firsts_of-snoc cs c (name_first s d to)

  -- ---- what stands at place i

  module _ (i : ℕ) where
    name_record-at : (v j : ℕ) (to : List ℕ) → (halved s i j ≡ true → i < length to)
        → get_or (name_record s v j to) i 0 ≡ cond (halved s i j) v (get_or to i 0)
    name_record-at v j to h =
        set_at (set to j v) (way_back s j) v i (λ e. simp length-set (h (or_right (eqb j i) e)))
        ∙ ap (cond (eqb (way_back s j) i) v) (set_at to j v i (λ e. h (or_left (eqb (way_back s j) i) e)))
        ∙ cond-or (eqb j i) (eqb (way_back s j) i) v (get_or to i 0)

    name_all-at : (v : ℕ) (js to : List ℕ) → (any (halved s i) js ≡ true → i < length to)
        → get_or (name_all s v js to) i 0 ≡ cond (any (halved s i) js) v (get_or to i 0)
    unfolding name_all any
    name_all-at v [] to h = refl
    name_all-at v (j ∷ js) to h =
        name_all-at v js (name_record s v j to) (λ e. simp length-set (h (or_right (halved s i j) e)))
        ∙ ap (cond (any (halved s i) js) v) (name_record-at v j to (λ e. h (or_left (any (halved s i) js) e)))
        ∙ cond-or (halved s i j) (any (halved s i) js) v (get_or to i 0)

    pub starts_of-at : (w : ℕ) (cs : List (List ℕ)) (to : List ℕ) → (halved_in s i cs ≡ true → i < length to)
        → get_or (starts_of s w cs to) i 0 ≡ cond (halved_in s i cs) w (get_or to i 0)
    unfolding starts_of any
    starts_of-at w [] to h = refl
    starts_of-at w (c ∷ cs) to h =
        starts_of-at w cs (name_all s w c to)
        (λ e. omega (arith, name_all-length w c to, h (or_right (any (halved s i) c) e)))
        ∙ ap (cond (halved_in s i cs) w) (name_all-at w c to (λ e. h (or_left (halved_in s i cs) e)))
        ∙ cond-or (any (halved s i) c) (halved_in s i cs) w (get_or to i 0)

    name_first-at : (f : ℕ) (c to : List ℕ) → (any (halved s i) c ≡ true → i < length to)
        → (any (halved s i) c ≡ true → least_half s c ≡ f)
        → get_or (name_first s c to) i 0 ≡ cond (any (halved s i) c) f (get_or to i 0)
    name_first-at f c to h g =
        ap (λ to. get_or to i 0) (name_first-is c to)
        ∙ name_all-at (least_half s c) c to h
        ∙ go (any (halved s i) c) g
      where
        go : (b : Bool) → (b ≡ true → least_half s c ≡ f)
            → cond b (least_half s c) (get_or to i 0) ≡ cond b f (get_or to i 0)
        go true g = g refl
        go false g = refl

    pub firsts_of-at : (f : ℕ) (cs : List (List ℕ)) (to : List ℕ) → (halved_in s i cs ≡ true → i < length to)
        → ((c : List ℕ) → c ∈ cs → any (halved s i) c ≡ true → least_half s c ≡ f)
        → get_or (firsts_of s cs to) i 0 ≡ cond (halved_in s i cs) f (get_or to i 0)
    unfolding firsts_of any
    firsts_of-at f [] to h g = refl
    firsts_of-at f (c ∷ cs) to h g =
        firsts_of-at f cs (name_first s c to)
        (λ e. omega (arith, name_first-length c to, h (or_right (any (halved s i) c) e)))
        (λ d m. g d (Memᴰ.tail m))
        ∙ ap (cond (halved_in s i cs) f)
        (name_first-at f c to (λ e. h (or_left (halved_in s i cs) e)) (g c (Memᴰ.head refl)))
        ∙ cond-or (any (halved s i) c) (halved_in s i cs) f (get_or to i 0)
