-- Walked records that leave each point as often as they come to it, with their other halves: an even chart of its own.
--     loop-walked     what is walked among them and their other halves is one of them: none is walked both ways
--     loop-part       they and their other halves are a part of the chart
-- Assumes nothing.
use mathlib.Core.Path.{◌≡◌, refl, sym, ap, ◌∙◌}
use mathlib.Core.Logic.{◌⊎◌, inl, inr}
use mathlib.Core.Bool.{Bool, true, false, not, ◌&&◌, true≢false}
use mathlib.Core.List.Memᴰ
use mathlib.Core.List.{List, ◌++◌, map}
use Prim.Native.Nat.{ℕ, ◌+◌, ◌≤◌}
use native.Mathlib.Omega.{arith}
use Rattle.counts.specs.Count.{◌∈◌, ind, count, Even}
use Rattle.counts.proofs.TestLaws.{is_false, same_test}
use Rattle.counts.proofs.SumLaws.{sum-ext, sum-add}
use Rattle.counts.proofs.CountLaws.{count-ext, count-append, count-off}
use Rattle.counts.proofs.MapLaws.{count_map, map-mem, mem-map}
use Rattle.plane.specs.declared.Point.{Point}
use Rattle.plane.specs.Points.{same}
use Rattle.plane.specs.Columns.{ends_at}
use Rattle.record.specs.declared.Record.{Record}
use Rattle.record.specs.Order.{left, other_half, Proper}
use Rattle.record.proofs.HalfLaws.{left-other_half}
use Rattle.segment.specs.Segments.{segment, of_segment, is_record}
use Rattle.segment.proofs.SegmentLaws.{segment-left, segment-right, segment-forward, segment-other_half}
use Rattle.segment.proofs.SegmentLaws.{is_record-true, is_record-refl}
use Rattle.among.specs.Among.{end_count}
use Rattle.chart.proofs.OnceLaws.{sound-proper}
use Rattle.region.proofs.EndLaws.{one_end}
use Rattle.around.specs.Departing.{departs}
use Rattle.around.proofs.Parts.{Part, Ranked}
use Rattle.around.proofs.PartLaws.{one_way}

-- the two halves of a segment, told by one of them: whether the segment of the left one ends at p
ends-both : (p : Point) (r : Record) → Proper r
    → ind (of_segment (ends_at p) r) + ind (of_segment (ends_at p) (other_half r))
    ≡ ind (same r.dom p) + ind (same r.other p)
ends-both p r proper =
    ap (λ b. ind (of_segment (ends_at p) r) + ind (b && ends_at p (segment (other_half r)))) (left-other_half r proper)
    ∙ ap (λ t. ind (of_segment (ends_at p) r) + ind (not (left r) && ends_at p t)) (segment-other_half r proper)
    ∙ go (left r) refl
  where
    go : (b : Bool) → left r ≡ b → ind (b && ends_at p (segment r)) + ind (not b && ends_at p (segment r))
        ≡ ind (same r.dom p) + ind (same r.other p)
    go true e =
        omega (
          arith,
          one_end p (segment r) (segment-forward r proper),
          ap (λ t. ind (same t.a p) + ind (same t.b p)) (segment-left r e),
        )
    go false e =
        omega (
          arith,
          one_end p (segment r) (segment-forward r proper),
          ap (λ t. ind (same t.a p) + ind (same t.b p)) (segment-right r e),
        )

is_record-back : (r q : Record) → is_record r (other_half q) ≡ is_record (other_half r) q
is_record-back r q =
    same_test _ _
    (λ t. ap (λ z. is_record (other_half z) q) (sym (is_record-true r (other_half q) t)) ∙ is_record-refl q)
    (λ t. ap (λ z. is_record r (other_half z)) (is_record-true (other_half r) q t) ∙ is_record-refl r)

module _ {rs : List Record} {rank : Record → ℕ} (ranked : Ranked rs rank) (cs : List Record)
    (known : (r : Record) → r ∈ cs → r ∈ rs) (leaves : (r : Record) → r ∈ cs → departs r ≡ true) where
  abbrev both : List Record
  both = cs ++ map other_half cs

  both-cases : (r : Record) → r ∈ both → (r ∈ cs) ⊎ ((a : Record) × (a ∈ cs) × (r ≡ other_half a))
  both-cases r m = go (Memᴰ.append_cases cs m)
    where
      go : (r ∈ cs) ⊎ (r ∈ map other_half cs) → (r ∈ cs) ⊎ ((a : Record) × (a ∈ cs) × (r ≡ other_half a))
      go (inl h) = inl h
      go (inr h) = inr (map-mem other_half cs r h)

  back-arrives : (a : Record) → a ∈ cs → departs (other_half a) ≡ false
  back-arrives a m = one_way ranked a (known a m) ∙ ap not (leaves a m)

  pub loop-walked : (r : Record) → r ∈ both → departs r ≡ true → r ∈ cs
  loop-walked r m d = go (both-cases r m)
    where
      go : (r ∈ cs) ⊎ ((a : Record) × (a ∈ cs) × (r ≡ other_half a)) → r ∈ cs
      go (inl h) = h
      go (inr (a, h, e)) = absurd (true≢false (sym d ∙ ap departs e ∙ back-arrives a h))

  both-known : (r : Record) → r ∈ both → r ∈ rs
  both-known r m = go (both-cases r m)
    where
      go : (r ∈ cs) ⊎ ((a : Record) × (a ∈ cs) × (r ≡ other_half a)) → r ∈ rs
      go (inl h) = known r h
      go (inr (a, h, e)) = Memᴰ.cast e (ranked.sound.halves a (known a h))

  both_halves : (r : Record) → r ∈ both → other_half r ∈ both
  both_halves r m = go (both-cases r m)
    where
      go : (r ∈ cs) ⊎ ((a : Record) × (a ∈ cs) × (r ≡ other_half a)) → other_half r ∈ both
      go (inl h) = Memᴰ.append_right cs (mem-map other_half cs r h)
      go (inr (a, h, e)) = Memᴰ.append_left (map other_half cs) (Memᴰ.cast (ap other_half e) h)

  both-count : (p : Record → Bool) → count p both ≡ count p cs + count (λ r. p (other_half r)) cs
  both-count p = count-append p cs (map other_half cs) ∙ ap (λ n. count p cs + n) (count_map other_half p cs)

  module _ (once : (r : Record) → count (is_record r) cs ≤ 1)
      (level : (p : Point) → count (λ r. same r.dom p) cs ≡ count (λ r. same r.other p) cs) where
    -- a record is one that is walked, or the other half of one, not both
    both-once : (r : Record) → count (is_record r) both ≤ 1
    both-once r = go (departs r) refl
      where
        back : count (λ q. is_record r (other_half q)) cs ≤ 1
        back = omega (arith, count-ext _ _ cs (λ q m. is_record-back r q), once (other_half r))

        go : (b : Bool) → departs r ≡ b → count (is_record r) both ≤ 1
        go true d =
            omega (
              arith,
              both-count (is_record r),
              once r,
              count-off (λ q. is_record r (other_half q)) cs (λ q m. is_false _ (λ t.
                  true≢false (sym d ∙ ap departs (sym (is_record-true r _ t)) ∙ back-arrives q m))),
            )
        go false d =
            omega (
              arith,
              both-count (is_record r),
              back,
              count-off (is_record r) cs (λ q m. is_false _ (λ t.
                  true≢false (sym (leaves q m) ∙ ap departs (is_record-true r q t) ∙ d))),
            )

    both-even : (p : Point) → Even (end_count both p)
    both-even p =
        omega (
          arith,
          both-count (of_segment (ends_at p)),
          sum-add (λ r. ind (of_segment (ends_at p) r)) (λ r. ind (of_segment (ends_at p) (other_half r))) cs,
          sum-ext _ _ cs (λ r m. ends-both p r (sound-proper ranked.sound r (known r m))),
          sum-add (λ r. ind (same r.dom p)) (λ r. ind (same r.other p)) cs,
          level p,
        )

    pub loop-part : Part rs both
    loop-part = record { sub = both-known; halves = both_halves; once = both-once; even = both-even }
