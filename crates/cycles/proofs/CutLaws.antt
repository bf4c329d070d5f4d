-- One cut of a walk, as the code makes it and as specs of the crate walks say it.
--     first_index_is      the first member that passes, as std says it
--     position_some, position_none     where std's word finds one, and where it finds none
--     visit-within        the first visit is the place of a record that was walked
--     places-after        from there on they are places of records
--     cut-here, cut-nowhere     what `cut_at` comes to where the walk has departed from p, and where it has not
--     cut-rest            what is left of a walk that is cut at its first visit of p
--     cut-starts, cut-firsts    what is written for the cycles then: what was, and the cycle that is cut off
-- Assumes nothing.
use mathlib.Core.Path.{◌≡◌, refl, sym, ap, ◌∙◌}
use mathlib.Core.Bool.{Bool, true, false, cond, true≢false}
use mathlib.Core.List.{List, [], ◌∷◌, ◌++◌}
use Prim.Native.Nat.{ℕ, suc, ◌+◌, ◌-◌, ◌≤◌, ◌<◌}
use native.Mathlib.Omega.{arith}
use lib.Dec.{ltb}
use lib.IntN.{ℤ}
use lib.ListN.{length, get_or, take, drop, drop_of_length-le, length-drop}
use lib.Seq.{drop-cons, get_or-drop, take_all}
use borrow.Author.Tests.{ltb-true, ltb-false}
use Rattle.std.specs.Prelude.{Option, Some, None}
use Rattle.std.specs.List.{position, position_or_len}
use Rattle.std.specs.Option.{unwrap_or, is_some}
use Rattle.std.proofs.lemmas.List.{take_rest}
use Rattle.std.proofs.lemmas.List.Recursion.{is_position_or_len}
use Rattle.counts.specs.Count.{first_index}
use Rattle.plane.specs.declared.Point.{Point}
use Rattle.walks.specs.Walks.{from, Cut, cut_at}
use Rattle.cycles.specs.Steps.{Places, first_half, name_all, name_first, firsts_of, starts_of, CutTo}
use Rattle.cycles.proofs.NameLaws.{starts_of-snoc, firsts_of-snoc}

-- ---- the first that passes, in std's words

module _ {A : Type 0} (p : A → Bool) where
  pub first_index_is : (xs : List A) → first_index p xs ≡ position_or_len p xs
  unfolding first_index
  first_index_is xs = is_position_or_len (first_index p) p refl (λ x xs. ap (λ n. cond (p x) 0 n) (omega arith)) xs

  pub position_some : (xs : List A) {k : ℕ} → position p xs ≡ Some k → (k ≡ first_index p xs) × (k < length xs)
  position_some xs {k} e = go (ltb (position_or_len p xs) (length xs)) refl e
    where
      go : (b : Bool) → ltb (position_or_len p xs) (length xs) ≡ b → cond b (Some (position_or_len p xs)) None ≡ Some k
          → (k ≡ first_index p xs) × (k < length xs)
      go true t h =
          let g : position_or_len p xs ≡ k = ap (λ o. unwrap_or o 0) h in
          (sym g ∙ sym (first_index_is xs), omega (arith, g, ltb-true (position_or_len p xs) (length xs) t))
      go false t h = absurd (true≢false (sym (ap is_some h)))

  pub position_none : (xs : List A) → position p xs ≡ None → length xs ≤ first_index p xs
  position_none xs e = go (ltb (position_or_len p xs) (length xs)) refl e
    where
      go : (b : Bool) → ltb (position_or_len p xs) (length xs) ≡ b → cond b (Some (position_or_len p xs)) None ≡ None
          → length xs ≤ first_index p xs
      go true t h = absurd (true≢false (ap is_some h))
      go false t h = omega (arith, first_index_is xs, ltb-false (position_or_len p xs) (length xs) t)

-- ---- as the code makes it

module _ (s : List ℤ) (p : Point) {rest walked : List ℕ} {v : Option ℕ} (is : walked ≡ rest)
    (visit : v ≡ position (from s p) walked) where
  module _ {k : ℕ} (here : v ≡ Some k) where
    found : (k ≡ first_index (from s p) walked) × (k < length walked)
    found = position_some (from s p) walked (sym visit ∙ here)

    pub visit-within : k < length walked
    visit-within = found.1

    pub cut-here : {w f : ℕ} {starts firsts rest' starts' firsts' : List ℕ}
        → f ≡ first_half s (get_or (take (length walked - k) (drop k walked)) 0 0)
        (take (length walked - k) (drop k walked))
        → starts' ≡ name_all s w (take (length walked - k) (drop k walked)) starts
        → firsts' ≡ name_all s f (take (length walked - k) (drop k walked)) firsts
        → rest' ≡ take k rest
        → CutTo s p w rest starts firsts rest' starts' firsts'
    unfolding name_first
    cut-here {w} {f} {starts} {firsts} e g h l =
        let one : k ≡ first_index (from s p) rest = found.0 ∙ ap (first_index (from s p)) is in
        let cycle : take (length walked - k) (drop k walked) ≡ drop k rest = take_rest walked k ∙ ap (drop k) is in
        record {
          left = rw (← one) l;
          begun = rw (← one) (rw cycle at g);
          named = rw (← one)
              (h ∙ ap (λ f. name_all s f (take (length walked - k) (drop k walked)) firsts) e
              ∙ ap (λ c. name_all s (first_half s (get_or c 0 0) c) c firsts) cycle
              ∙ named (drop k rest) (drop-cons rest k 0 (rw is at found.1)));
        }
      where
        named : (c : List ℕ) → c ≡ get_or rest k 0 ∷ drop (suc k) rest
            → name_all s (first_half s (get_or c 0 0) c) c firsts ≡ name_first s c firsts
        named c e = rw e refl

  pub cut-nowhere : {w : ℕ} {starts firsts : List ℕ} → v ≡ None → CutTo s p w rest starts firsts rest starts firsts
  unfolding name_all name_first
  cut-nowhere none =
      let past : length rest ≤ first_index (from s p) rest =
      rw is at (position_none (from s p) walked (sym visit ∙ none))
      in
      record {
        left = sym (take_all (first_index (from s p) rest) rest past);
        begun = rw (drop_of_length-le rest {i = first_index (from s p) rest} past) refl;
        named = rw (drop_of_length-le rest {i = first_index (from s p) rest} past) refl;
      }

pub places-after : {s : List ℤ} {rest walked : List ℕ} (k : ℕ) → Places s rest → walked ≡ rest
    → Places s (take (length walked - k) (drop k walked))
places-after {s} {rest} {walked} k h is = rw (take_rest walked k, is) (record {
  known = λ t l. rw (get_or-drop k rest t 0) (h.known (k + t) (omega (arith, length-drop k rest)));
})

-- ---- as it is said

module _ (s : List ℤ) (p : Point) (c : Cut) where
  abbrev visit : ℕ
  visit = first_index (from s p) c.rest

  at-end : ltb visit (length c.rest) ≡ false → length c.rest ≤ visit
  at-end e = ltb-false visit (length c.rest) e

  pub cut-rest : (cut_at s p c).rest ≡ take visit c.rest
  unfolding cut_at
  cut-rest = go (ltb visit (length c.rest)) refl
    where
      go : (b : Bool) → ltb visit (length c.rest) ≡ b
          → (cond b (record { rest = take visit c.rest; cycles = c.cycles ++ (drop visit c.rest ∷ []) }) c).rest
          ≡ take visit c.rest
      go true e = refl
      go false e = sym (take_all visit c.rest (at-end e))

  pub cut-starts : (w : ℕ) (to : List ℕ)
      → name_all s w (drop visit c.rest) (starts_of s w c.cycles to) ≡ starts_of s w (cut_at s p c).cycles to
  unfolding cut_at name_all
  cut-starts w to = go (ltb visit (length c.rest)) refl
    where
      go : (b : Bool) → ltb visit (length c.rest) ≡ b
          → name_all s w (drop visit c.rest) (starts_of s w c.cycles to)
          ≡ starts_of s w
          (cond b (record { rest = take visit c.rest; cycles = c.cycles ++ (drop visit c.rest ∷ []) }) c).cycles to
      go true e = sym (starts_of-snoc s w c.cycles (drop visit c.rest) to)
      go false e = rw (drop_of_length-le c.rest {i = visit} (at-end e)) refl

  pub cut-firsts : (to : List ℕ)
      → name_first s (drop visit c.rest) (firsts_of s c.cycles to) ≡ firsts_of s (cut_at s p c).cycles to
  unfolding cut_at name_first
  cut-firsts to = go (ltb visit (length c.rest)) refl
    where
      go : (b : Bool) → ltb visit (length c.rest) ≡ b
          → name_first s (drop visit c.rest) (firsts_of s c.cycles to)
          ≡ firsts_of s
          (cond b (record { rest = take visit c.rest; cycles = c.cycles ++ (drop visit c.rest ∷ []) }) c).cycles to
      go true e = sym (firsts_of-snoc s c.cycles (drop visit c.rest) to)
      go false e = rw (drop_of_length-le c.rest {i = visit} (at-end e)) refl
