-- Numbers written into an array at both halves of some records.
--     name_next, name_end from record t on, by that record and those after it; at the end
-- Assumes nothing.
use mathlib.Core.Path.{◌≡◌, refl}
use mathlib.Core.List.{List}
use Prim.Native.Nat.{ℕ, ◌+◌, ◌≤◌, ◌<◌}
use native.Mathlib.Numerals.{add-one}
use lib.IntN.{ℤ}
use lib.ListN.{length, get_or, drop, drop_of_length-le}
use lib.Seq.{drop-cons}
use Rattle.cycles.specs.Steps.{name_record, name_all}

module _ (s : List ℤ) (v : ℕ) (js to : List ℕ) (t : ℕ) where
  pub name_next : t < length js
      → name_all s v (drop t js) to ≡ name_all s v (drop (t + 1) js) (name_record s v (get_or js t 0) to)
  unfolding name_all
  name_next l = rw (drop-cons js t 0 l, add-one t) refl

  pub name_end : length js ≤ t → name_all s v (drop t js) to ≡ to
  unfolding name_all
  name_end l = rw (drop_of_length-le js {i = t} l) refl
