-- A walk that is cut as it is walked: what the loop of `cut_walk` holds, and one cut more.
--     Cutting s w starts firsts starts' firsts' rest j k     k records are walked of the walk from w, j comes next, and
--                         `rest` is left of them; for the cycles so far the numbers are written
--     cutting-places      what is left are records
--     cut                 the walk so far, as the crate walks has it
--     left_is, starts-are, firsts-are      what is left of it and what is written once it is cut at p
-- Assumes nothing.
use mathlib.Core.Path.{◌≡◌, sym, ap, ◌∙◌}
use mathlib.Core.List.{List}
use Prim.Native.Nat.{ℕ, ◌-◌, ◌≤◌, ◌<◌}
use lib.IntN.{ℤ}
use lib.ListN.{length, get_or, drop}
use Rattle.counts.specs.Count.{first_index}
use Rattle.plane.specs.declared.Point.{Point}
use Rattle.record.specs.Records.{record_count}
use Rattle.chart.specs.Verdicts.{limit}
use Rattle.walks.specs.Walks.{from, onward, walk, Cut, cut_at, walk_all, uncut}
use Rattle.cycles.specs.Steps.{Places, firsts_of, starts_of, name_all, name_first, CutTo}
use Rattle.cycles.proofs.CutLaws.{cut-rest, cut-starts, cut-firsts}

pub record Cutting (s : List ℤ) (w : ℕ) (starts firsts starts' firsts' rest : List ℕ) (j k : ℕ) : Type 0 where
  pub cycles : List (List ℕ)
  pub on : walk_all s (record { rest = rest; cycles = cycles }) (onward s w j (record_count s - k))
      ≡ walk_all s uncut (walk s w)
  pub begun : starts' ≡ starts_of s w cycles starts
  pub named : firsts' ≡ firsts_of s cycles firsts
  pub left : length rest ≤ k
  pub most : k ≤ record_count s
  pub few : record_count s ≤ limit
  pub here : j < record_count s
  pub known : (t : ℕ) → t < length rest → get_or rest t 0 < record_count s

module _ {s : List ℤ} {w : ℕ} {starts firsts starts' firsts' rest : List ℕ} {j k : ℕ}
    (held : Cutting s w starts firsts starts' firsts' rest j k) where
  pub cutting-places : Places s rest
  cutting-places = record { known = held.known }

  unfoldable pub cut : Cut
  cut = record { rest = rest; cycles = held.cycles }

  module _ (p : Point) {starts'' firsts'' rest' : List ℕ}
      (to : CutTo s p w rest starts' firsts' rest' starts'' firsts'') where
    abbrev visit : ℕ
    visit = first_index (from s p) rest

    pub left_is : rest' ≡ (cut_at s p cut).rest
    unfolding cut
    left_is = to.left ∙ sym (cut-rest s p cut)

    pub starts-are : starts'' ≡ starts_of s w (cut_at s p cut).cycles starts
    unfolding cut
    starts-are = to.begun ∙ ap (name_all s w (drop visit rest)) held.begun ∙ cut-starts s p cut w starts

    pub firsts-are : firsts'' ≡ firsts_of s (cut_at s p cut).cycles firsts
    unfolding cut
    firsts-are = to.named ∙ ap (name_first s (drop visit rest)) held.named ∙ cut-firsts s p cut firsts
