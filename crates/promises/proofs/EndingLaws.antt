-- How each question ends, over its definition: by the number 0 or by one of document 01's tables, and then what was
-- lent is as it was.
--     low, out_of       a number up to 13; one out of a list of refusals
--     chart-ends        a question that gives the refusal of a chart and is lent nothing
--     place-ends, nearest-ends, area-ends     so the questions about one chart
--     faces-end, join-end, read-end           those that are lent arrays
--     sample-ends, number-end                 a gauge sample; one number of a file
-- Assumes nothing.
use mathlib.Core.Path.{◌≡◌, refl, sym, ap, ap₂, ◌∙◌}
use mathlib.Core.Logic.{inl, inr, ⊎_elim}
use mathlib.Core.Bool.{Bool, true, false, not, cond, ◌||◌}
use mathlib.Core.List.{List, [], ◌∷◌}
use Prim.Native.Nat.{ℕ, ◌≤◌}
use native.Mathlib.Omega.{arith}
use lib.Dec.{eqb}
use lib.IntN.{ℤ}
use borrow.Author.Tests.{eqb-true, eqb-false, le-leb}
use Rattle.counts.specs.Count.{all, any}
use Rattle.counts.proofs.CountLaws.{all-is}
use Rattle.counts.proofs.ShareLaws.{any-mem}
use Rattle.grid.specs.Coordinates.{on_grid}
use Rattle.plane.specs.declared.Point.{Point}
use Rattle.chart.specs.Verdicts.{refusal_of, verdict}
use Rattle.chart.proofs.IndexLaws.{verdict-told}
use Rattle.question.specs.Places.{placed}
use Rattle.nearest.specs.Nearests.{nearest_below}
use Rattle.area.specs.Areas.{area_of}
use Rattle.faces.specs.Lists.{FaceList, list_refusal, Lists}
use Rattle.sides.specs.declared.Op.{Op}
use Rattle.join.specs.Joinings.{Joined, join_refusal, chart_named, Joins}
use Rattle.join.proofs.OutcomeLaws.{Told, first, second, neither}
use Rattle.gauge.specs.declared.Card.{Card}
use Rattle.gauge.specs.Readings.{pressure, row, at_pin, refusal}
use Rattle.gauge.specs.Cards.{sound}
use Rattle.number.specs.Numbers.{number_at, number_refusal}
use Rattle.file.specs.Answers.{Answer, read_refusal, Reads}
use Rattle.promises.specs.Endings.{is_from, is_refusal, Numbered, Ends}
use Rattle.promises.proofs.Refusals.{point-refusal, nearest-refusal, area-refusal}
use Rattle.promises.proofs.Faces.{faces-ends}
use Rattle.promises.proofs.Joining.{join-ends}
use Rattle.promises.proofs.Files.{read-ends, number-ends}

-- ---- numbers

from : (l h k : ℕ) → l ≤ k → k ≤ h → is_from l h k ≡ true
from l h k a b = rw (le-leb l k a, le-leb k h b) refl

pub low : (k : ℕ) → k ≤ 13 → Numbered k
low k l = go (eqb k 0) refl
  where
    go : (b : Bool) → eqb k 0 ≡ b → Numbered k
    go true e = inl (eqb-true k 0 e)
    go false e =
        inr (ap (λ t. t || is_from 21 23 k || is_from 31 36 k) (from 1 13 k (omega (arith, eqb-false k 0 e)) l))

pub out_of : (k : ℕ) (ks : List ℕ) → all is_refusal ks ≡ true → any (eqb k) ks ≡ true → is_refusal k ≡ true
out_of k ks a e = (all-is is_refusal ks).0 a k (any-mem k ks e)

-- ---- charts

-- the chart's own refusal
own : (s : List ℤ) (k : ℕ) → k ≡ (refusal_of (verdict s)).number → Numbered k
own s k e = low k (omega (arith, e, (verdict-told s).number))

-- where what was lent is as it was
kept : {B : Type 0} {lent out : B} (k : ℕ) → Numbered k → out ≡ lent → Ends B k lent out
kept k h same = ⊎_elim inl (λ e. inr (e, same)) h

module _ (s : List ℤ) where
  pub chart-ends : Numbered (refusal_of (verdict s)).number
  chart-ends = own s _ refl

  pub area-ends : Numbered (refusal_of (area_of s)).number
  area-ends = own s _ (ap (λ r. r.number) (area-refusal s))

  module _ (p : Point) where
    pub place-ends : Numbered (refusal_of (placed s p)).number
    place-ends = own s _ (ap (λ r. r.number) (point-refusal s p))

    pub nearest-ends : Numbered (refusal_of (nearest_below s p)).number
    nearest-ends = own s _ (ap (λ r. r.number) (nearest-refusal s p))

pub faces-end : (s : List ℤ) (labels cycles labels' cycles' : List ℕ) (a : FaceList)
    → Lists s labels cycles labels' cycles' a
    → Ends (List ℕ × List ℕ) (list_refusal a).number (labels, cycles) (labels', cycles')
faces-end s labels cycles labels' cycles' a lists =
    ⊎_elim (λ e. inl (ap (λ r. r.number) e))
    (λ w.
    let same : (labels', cycles') ≡ (labels, cycles) = ap₂ (λ l c. (l, c)) w.1.0 w.1.1 in
    ⊎_elim (λ v. kept _ (own s _ (ap (λ r. r.number) v.2 ∙ ap (λ u. (refusal_of u).number) (sym v.1))) same)
    (λ v. inr (rw v.1 refl, same)) w.0)
    (faces-ends s labels cycles labels' cycles' a lists)

pub join-end : (op : Op) (a b lent out : List ℤ) (j : Joined) → Joins op a b lent out j
    → Ends (List ℤ) (join_refusal j).number lent out
unfolding all any
join-end op a b lent out j joins =
    ⊎_elim (λ e. inl (ap (λ r. r.number) e)) (λ w. go w.0 w.1) (join-ends op a b lent out j joins)
  where
    k : ℕ
    k = (join_refusal j).number

    go : Told a b (chart_named j) (join_refusal j) → out ≡ lent → Ends (List ℤ) (join_refusal j).number lent out
    go (first n v w) same = kept k (own a k (ap (λ r. r.number) w ∙ ap (λ u. (refusal_of u).number) (sym v))) same
    go (second n u v w) same = kept k (own b k (ap (λ r. r.number) w ∙ ap (λ u. (refusal_of u).number) (sym v))) same
    go (neither n u v e l) same = inr (out_of k (11 ∷ 12 ∷ 13 ∷ []) refl e, same)

-- ---- samples and files

pub sample-ends : (c : Card) (n : ℤ) → Numbered (refusal c n)
unfolding refusal
sample-ends c n = go (sound c) (at_pin c n) (on_grid (row (pressure c n)))
  where
    go : (s p g : Bool) → Numbered (cond (not s) 21 (cond p 22 (cond (not g) 23 0)))
    go false p g = inr refl
    go true true g = inr refl
    go true false false = inr refl
    go true false true = inl refl

pub read-end : (s : List ℕ) (lent out : List ℤ) (a : Answer) → Reads s lent out a
    → Ends (List ℤ) (read_refusal a).number lent out
unfolding all any
read-end s lent out a reads =
    ⊎_elim (λ e. inl (ap (λ r. r.number) e))
    (λ w. inr (out_of (read_refusal a).number (31 ∷ 32 ∷ 33 ∷ 34 ∷ 35 ∷ 36 ∷ []) refl w.0, w.1))
    (read-ends s lent out a reads)

pub number-end : (s : List ℕ) (at : ℕ) → Numbered (number_refusal (number_at s at)).number
unfolding all any
number-end s at =
    ⊎_elim (λ e. inl (ap (λ r. r.number) e))
    (λ w. inr (out_of (number_refusal (number_at s at)).number (31 ∷ 32 ∷ []) refl w.0)) (number-ends s at)
