-- The answer: the start of each walk and the first record of each cycle.
--     unset-filled        where the first n places have the number n, no record has a start
--     arrays-cut          so once the walks are cut from there the arrays are those of the answer
-- Assumes nothing.
use mathlib.Core.Path.{◌≡◌, sym, ap, ap₂, ◌∙◌}
use mathlib.Core.Logic.{⊎_elim}
use mathlib.Core.List.{List, ◌++◌}
use Prim.Native.Nat.{ℕ, ◌+◌, ◌-◌, ◌≤◌, ◌<◌}
use native.Mathlib.Omega.{arith}
use lib.IntN.{ℤ}
use lib.ListN.{length, get_or, drop, replicate, length-append, length-drop, length-replicate, get_or-replicate}
use lib.ListN.{get_or-eq_default, get_or-append}
use lib.Seq.{ext_get_or, get_or-drop}
use Rattle.std.proofs.lemmas.List.{get_or-append_right}
use Rattle.counts.specs.Count.{listed}
use Rattle.counts.proofs.ListedLaws.{listed-length, listed_at}
use Rattle.counts.proofs.TestLaws.{lt-or-le}
use Rattle.record.specs.Records.{record_count}
use Rattle.chart.specs.Verdicts.{limit}
use Rattle.walks.specs.Cycles.{start_of, first_of}
use Rattle.cycles.specs.declared.Cycles.{Cycles}
use Rattle.cycles.specs.Circles.{filled, arrays_of}
use Rattle.cycles.specs.Steps.{Unset, CutWalks}

abbrev zeros : List ℕ
zeros = replicate limit 0

zeros-length : length zeros ≡ limit
zeros-length = length-replicate {A = ℕ} limit 0

zeros-at : (i : ℕ) → get_or zeros i 0 ≡ 0
zeros-at i =
    ⊎_elim (λ l. get_or-replicate limit i 0 0 l)
    (λ l. get_or-eq_default zeros 0 {n = i} (omega (arith, zeros-length))) (lt-or-le i limit)

-- ---- an array by its first places and the others

front_at : (f : ℕ → ℕ) (n : ℕ) (l : List ℕ) (i : ℕ) → i < n → get_or (listed f 0 n ++ l) i 0 ≡ f i
front_at f n l i h =
    get_or-append (listed f 0 n) l 0 i (omega (arith, listed-length f 0 n))
    ∙ listed_at f 0 0 n i h
    ∙ ap f (omega arith)

back_at : (f : ℕ → ℕ) (n : ℕ) (l : List ℕ) (i : ℕ) → n ≤ i → get_or (listed f 0 n ++ l) i 0 ≡ get_or l (i - n) 0
back_at f n l i h = get_or-append_right (listed f 0 n) l n i 0 (listed-length f 0 n) h

filled_is : (f : ℕ → ℕ) (n : ℕ) (to : List ℕ) → n ≤ limit → length to ≡ limit
    → ((i : ℕ) → i < n → get_or to i 0 ≡ f i) → ((i : ℕ) → n ≤ i → get_or to i 0 ≡ 0) → to ≡ filled f n
unfolding filled
filled_is f n to few size front back =
    ext_get_or 0 to (listed f 0 n ++ listed (λ i. 0) n (limit - n))
    (omega (
      arith,
      length-append (listed f 0 n) (listed (λ i. 0) n (limit - n)),
      listed-length f 0 n,
      listed-length {A = ℕ} (λ i. 0) n (limit - n),
    ))
    (λ i l. ⊎_elim (λ h. front i h ∙ sym (front_at f n _ i h))
    (λ h. back i h ∙ sym (back_at f n _ i h ∙ listed_at (λ i. 0) 0 n (limit - n) (i - n) (omega arith)))
    (lt-or-le i n))

-- n places with the number n, and the others as they were at first
abbrev unset : ℕ → List ℕ
unset n = replicate n n ++ drop n zeros

unset-length : (n : ℕ) → n ≤ limit → length (unset n) ≡ limit
unset-length n few =
    omega (
      arith,
      length-append (replicate n n) (drop n zeros),
      length-replicate {A = ℕ} n n,
      length-drop n zeros,
      zeros-length,
    )

unset-behind : (n i : ℕ) → n ≤ i → get_or (unset n) i 0 ≡ 0
unset-behind n i l =
    get_or-append_right (replicate n n) (drop n zeros) n i 0 (length-replicate {A = ℕ} n n) l
    ∙ get_or-drop n zeros (i - n) 0
    ∙ zeros-at (n + (i - n))

pub unset-filled : {n : ℕ} {to : List ℕ} → n ≤ limit → to ≡ replicate n n ++ drop n zeros → Unset n to
unset-filled {n} {to} few e = record {
  room = omega (arith, ap length e, unset-length n few);
  none = λ i l. ap (λ to. get_or to i 0) e
      ∙ get_or-append (replicate n n) (drop n zeros) 0 i (omega (arith, length-replicate {A = ℕ} n n))
      ∙ get_or-replicate n i n 0 l;
}

-- ---- the answer

pub arrays-cut : {s : List ℤ} {n : ℕ} {starts : List ℕ} {cycles : Cycles} → n ≡ record_count s → n ≤ limit
    → starts ≡ replicate n n ++ drop n zeros → CutWalks s starts zeros cycles.starts cycles.firsts
    → cycles ≡ arrays_of s
unfolding arrays_of
arrays-cut {s} {n} {starts} {cycles} all few unset cut =
    ap₂ (λ starts firsts. record { starts = starts; firsts = firsts })
    (filled_is (start_of s) (record_count s) cycles.starts short
    (cut.size.0 ∙ ap length unset ∙ unset-length n few) cut.begun
    (λ i l. (cut.behind i l).0 ∙ ap (λ to. get_or to i 0) unset ∙ unset-behind n i (omega arith)))
    (filled_is (first_of s) (record_count s) cycles.firsts short (cut.size.1 ∙ zeros-length) cut.named
    (λ i l. (cut.behind i l).1 ∙ zeros-at i))
  where
    short : record_count s ≤ limit
    short = omega arith
