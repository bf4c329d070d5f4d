-- How many records the result of two charts has.
--     few_places        no more places are counted than there are
--     kept-both         the kept records are those of the first chart and then those of the second
--     result-length     neither the order nor the marks change their number
--     size_is, few_first, few_second    so it is the sum of the two counts, neither of them above its chart's
--     sized, result_sized    the same for `search`
-- Assumes nothing.
use mathlib.Core.Path.{◌≡◌, sym, ap, ap₂, ◌∙◌}
use mathlib.Core.Bool.{Bool, not}
use mathlib.Core.List.{List, [], ◌++◌, append-nil}
use Prim.Native.Nat.{ℕ, ◌+◌, ◌≤◌}
use native.Mathlib.Omega.{arith}
use lib.IntN.{ℤ}
use lib.ListN.{length, length-append, length-map}
use Rattle.counts.specs.Count.{keep, listed}
use Rattle.counts.specs.Scan.{count_places}
use Rattle.counts.proofs.CountLaws.{count_most}
use Rattle.counts.proofs.KeepLaws.{keep_append, keep-keep, keep-length}
use Rattle.counts.proofs.ListedLaws.{listed-length}
use Rattle.counts.proofs.PlaceLaws.{count_places_is}
use Rattle.record.specs.declared.Record.{Record}
use Rattle.record.specs.Records.{record_at, record_count, records}
use Rattle.segment.specs.Segments.{segment}
use Rattle.among.specs.Among.{has_segment}
use Rattle.combined.specs.Kept.{either, kept}
use Rattle.combined.specs.Results.{in_order}
use Rattle.combined.proofs.OrderedLaws.{in_order-length}
use Rattle.sides.specs.declared.Op.{Op}
use Rattle.sides.specs.Operations.{joining, both}
use Rattle.join.specs.Joinings.{result_of}
use Rattle.sides.specs.Kept.{kept_first, kept_second}
use Rattle.join.specs.Steps.{Sized}

-- no more than the places
few_places : {A : Type 0} (p : A → Bool) (f : ℕ → A) (n : ℕ) → count_places p f n ≤ n
few_places p f n = omega (arith, count_places_is p f n, count_most p (listed f 0 n), listed-length f 0 n)

module _ (op : Op) (a b : List ℤ) where
  pub kept-both : kept (joining op) (both a b)
      ≡ keep (kept_first op a b) (records a) ++ keep (kept_second op a b) (records b)
  unfolding either keep kept_first kept_second
  kept-both =
      let new : Record → Bool = λ r. not (has_segment (records a) (segment r)) in
      let all = append-nil (records b) in
      keep_append (kept_first op a b) (records a) (keep new (records b ++ []))
      ∙ ap (λ l. keep (kept_first op a b) (records a) ++ keep (kept_first op a b) (keep new l)) all
      ∙ ap (λ l. keep (kept_first op a b) (records a) ++ l) (keep-keep (kept_first op a b) new (records b))

  pub result-length : length (result_of op a b) ≡ length (kept (joining op) (both a b))
  result-length =
      let rs = kept (joining op) (both a b) in
      length-map (in_order rs) _ ∙ in_order-length rs

  -- the two counts, and that neither is more than its chart has records
  pub size_is : count_places (kept_first op a b) (record_at a) (record_count a)
      + count_places (kept_second op a b) (record_at b) (record_count b) ≡ length (result_of op a b)
  size_is =
      let first = keep (kept_first op a b) (records a) in
      let second = keep (kept_second op a b) (records b) in
      let counts = ap₂ ◌+◌ (keep-length (kept_first op a b) (records a))
      (keep-length (kept_second op a b) (records b)) in
      let size = result-length ∙ ap length kept-both ∙ length-append first second ∙ counts in
      let of_first = count_places_is (kept_first op a b) (record_at a) (record_count a) in
      let of_second = count_places_is (kept_second op a b) (record_at b) (record_count b) in
      ap₂ ◌+◌ of_first of_second ∙ sym size

  pub few_first : count_places (kept_first op a b) (record_at a) (record_count a) ≤ record_count a
  few_first = few_places (kept_first op a b) (record_at a) (record_count a)

  pub few_second : count_places (kept_second op a b) (record_at b) (record_count b) ≤ record_count b
  few_second = few_places (kept_second op a b) (record_at b) (record_count b)

  pub result_sized : {m k : ℕ} → m ≡ count_places (kept_first op a b) (record_at a) (record_count a)
      → k ≡ count_places (kept_second op a b) (record_at b) (record_count b) → Sized op a b (m + k)
  result_sized h g = record { is = ap₂ ◌+◌ h g ∙ size_is; most = omega (arith, h, g, few_first, few_second) }

pub ruleset sized = (size_is, few_first, few_second)
