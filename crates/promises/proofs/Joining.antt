-- What the library promises of joining, over document 01's rules, for whatever arrays.
--     union-inside, intersection-inside, difference-inside    demand 3's second part, by operation: or, and, and-not
--     any-charts        demand 3's second part in its widest form: any number of charts, and any function of their
--                       answers that is false where all are false
--     any-marks         and the result's marks are that function of the upper sides
--     join-refused      a refusal is the first chart's own, which it names; the second's own, which it names, the first
--                       being accepted; or one of 11 to 13, which names none, both being accepted; and the lent array
--                       is as it was
--     join-ends         so every question ends with the number 0, for none, or a refusal, and the array is as it was
--     join-records      where n records are written they are the result's, to the last, and places beyond stay
-- Demand 3's second part of two charts: Promises.antt. That two outcomes coincide: Outcomes.antt. Assumes nothing.
use mathlib.Core.Path.{◌≡◌, refl}
use mathlib.Core.Logic.{◌⊎◌, inl, inr}
use mathlib.Core.Bool.{Bool, false, not, cond, ◌&&◌, ◌||◌}
use mathlib.Core.List.{List, map}
use Prim.Native.Nat.{ℕ, ◌*◌, ◌≤◌}
use lib.IntN.{ℤ}
use lib.ListN.{length, take, drop}
use Rattle.counts.specs.Count.{◌∈◌}
use Rattle.plane.specs.declared.Point.{Point}
use Rattle.record.specs.declared.Record.{Record}
use Rattle.record.specs.Records.{width, records, unmarked, marked}
use Rattle.segment.specs.Segments.{segment}
use Rattle.std.specs.Prelude.{Ok, Err}
use Rattle.chart.specs.Verdicts.{limit, no_refusal, verdict}
use Rattle.chart.proofs.RegionLaws.{accepted-is}
use Rattle.region.specs.Boundaries.{held}
use Rattle.question.specs.declared.Place.TheVariants.{Inside, Outside}
use Rattle.question.specs.Places.{is_inside, placed}
use Rattle.combined.specs.Kept.{upper_sides}
use Rattle.combined.specs.Results.{result, numbers}
use Rattle.combined.specs.Together.{Together}
use Rattle.combined.proofs.SoundLaws.{result-region, result-mark}
use Rattle.combined.proofs.PlaceLaws.{result-place}
use Rattle.sides.specs.declared.Op.{Op}
use Rattle.sides.specs.declared.Op.TheVariants.{Union, Intersection, Difference}
use Rattle.join.specs.declared.JoinRefusal.{JoinRefusal}
use Rattle.join.specs.Joinings.{Joined, result_of, told_joining, named, join_refusal, chart_named, Joins}
use Rattle.join.proofs.OutcomeLaws.{Told, outcome-told, joins-combined, joins-refused, joins-untouched}
use Rattle.promises.proofs.Promises.{combined-charts}

-- ---- two charts, by operation

module _ (a b : List ℤ) (v : verdict a ≡ Ok tt) (w : verdict b ≡ Ok tt) (lent out : List ℤ) (n : ℕ) (p : Point)
    (off_a : held (records a) p ≡ false) (off_b : held (records b) p ≡ false) where
  -- what is written, at p
  abbrev says : Bool
  says = is_inside (placed (take (width * n) out) p)

  pub union-inside : Joins Union a b lent out (Ok n) → says ≡ is_inside (placed a p) || is_inside (placed b p)
  union-inside h = (combined-charts Union a b v w lent out n h).1 p off_a off_b

  pub intersection-inside : Joins Intersection a b lent out (Ok n)
      → says ≡ is_inside (placed a p) && is_inside (placed b p)
  intersection-inside h = (combined-charts Intersection a b v w lent out n h).1 p off_a off_b

  pub difference-inside : Joins Difference a b lent out (Ok n)
      → says ≡ is_inside (placed a p) && not (is_inside (placed b p))
  difference-inside h = (combined-charts Difference a b v w lent out n h).1 p off_a off_b

-- ---- any number of charts

module _ (ss : List (List ℤ)) (together : Together ss) (f : List Bool → Bool)
    (none : f (map (λ c. false) (map records ss)) ≡ false) where
  -- what they give, as records
  abbrev given : List Record
  given = result f (map records ss)

  pub any-charts : length given ≤ limit
      → (verdict (numbers given) ≡ Ok tt)
      × ((p : Point) → ((s : List ℤ) → s ∈ ss → held (records s) p ≡ false)
      → placed (numbers given) p ≡ Ok (cond (f (map (λ s. is_inside (placed s p)) ss)) Inside Outside))
  any-charts few = (
    (accepted-is (numbers given)).1 (result-region together f none few),
    λ p off. result-place together f none p off few,
  )

  pub any-marks : (r : Record) → r ∈ given
      → r.mark ≡ cond (f (upper_sides (map records ss) (segment r))) marked unmarked
  any-marks r m = result-mark together f none r m

-- ---- two arrays

module _ (op : Op) (a b lent out : List ℤ) (j : Joined) (joins : Joins op a b lent out j) where
  pub join-refused : (r : JoinRefusal) → j ≡ Err r → Told a b (named r) (told_joining r) × (out ≡ lent)
  join-refused r e = (
    outcome-told op a b (length lent) r (joins-refused op a b lent out joins e),
    joins-untouched op a b lent out joins e,
  )

  pub join-ends : (join_refusal j ≡ no_refusal) ⊎ (Told a b (chart_named j) (join_refusal j) × (out ≡ lent))
  join-ends = go j refl
    where
      go : (k : Joined) → j ≡ k
          → (join_refusal k ≡ no_refusal) ⊎ (Told a b (chart_named k) (join_refusal k) × (out ≡ lent))
      go (Ok n) e = inl refl
      go (Err r) e = inr (join-refused r e)

  pub join-records : (n : ℕ) → j ≡ Ok n
      → (n ≡ length (result_of op a b)) × (n ≤ limit) × (take (width * n) out ≡ numbers (result_of op a b))
      × (drop (width * n) out ≡ drop (width * n) lent)
  join-records n e =
      let c = joins-combined op a b lent out joins e in
      (c.many, rw c.many c.met.few, c.is, c.beyond)
