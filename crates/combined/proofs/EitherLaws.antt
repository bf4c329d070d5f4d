-- Laws of `either` (specs/Kept.antt), of charts laid over each other.
--     either-mem       a record of it is one of some chart
--     mem-either       a record of a chart is there, perhaps by another chart's record with the same ends
--     either-proper    the two ends of each differ
--     either-halves    both halves of each segment are there, by one chart
--     either-once      no two records have the same ends
-- Assumes nothing.
use mathlib.Core.Path.{◌≡◌, refl, sym, ap, ◌∙◌, subst}
use mathlib.Core.Logic.{◌⊎◌, inl, inr}
use mathlib.Core.Bool.{Bool, true, false, not, true≢false}
use mathlib.Core.List.{List, [], ◌∷◌}
use mathlib.Core.List.Memᴰ
use Prim.Native.Nat.{◌+◌, ◌≤◌}
use native.Mathlib.Omega.{arith}
use Rattle.counts.specs.Count.{◌∈◌, sum, count, keep}
use Rattle.counts.proofs.TestLaws.{is_false, not-true}
use Rattle.counts.proofs.CountLaws.{count-off, count-append, count-keep-le, keep-mem, mem-keep}
use Rattle.record.specs.declared.Record.{Record}
use Rattle.record.specs.Order.{other_half, Proper}
use Rattle.segment.specs.Segments.{segment}
use Rattle.segment.proofs.SegmentLaws.{segment-other_half}
use Rattle.among.specs.Among.{has_segment}
use Rattle.chart.proofs.OnceLaws.{sound-proper}
use Rattle.combined.specs.Kept.{either}
use Rattle.combined.proofs.EndsLaws.{same_ends, same_ends-true, ends-segment, has_segment-mem, mem-has_segment}
use Rattle.combined.proofs.Laid.{Laid, laid-rest}

-- ---- members

abbrev missing : List Record → Record → Bool
missing c r = not (has_segment c (segment r))

either-cases : (c : List Record) (cs : List (List Record)) (r : Record) → r ∈ either (c ∷ cs)
    → (r ∈ c) ⊎ ((r ∈ either cs) × (has_segment c (segment r) ≡ false))
unfolding either
either-cases c cs r m = go (Memᴰ.append_cases c m)
  where
    go : (r ∈ c) ⊎ (r ∈ keep (missing c) (either cs))
        → (r ∈ c) ⊎ ((r ∈ either cs) × (has_segment c (segment r) ≡ false))
    go (inl k) = inl k
    go (inr k) = let w = keep-mem (missing c) (either cs) r k in inr (w.0, not-true _ w.1)

either-here : (c : List Record) (cs : List (List Record)) (r : Record) → r ∈ c → r ∈ either (c ∷ cs)
unfolding either
either-here c cs r m = Memᴰ.append_left _ m

either-there : (c : List Record) (cs : List (List Record)) (r : Record) → r ∈ either cs
    → has_segment c (segment r) ≡ false → r ∈ either (c ∷ cs)
unfolding either
either-there c cs r m e = Memᴰ.append_right c (mem-keep (missing c) (either cs) r m (ap not e))

pub either-mem : (cs : List (List Record)) (r : Record) → r ∈ either cs → (c : List Record) × (c ∈ cs) × (r ∈ c)
unfolding either
either-mem [] r m = absurd (Memᴰ.not-nil m)
either-mem (c ∷ cs) r m = go (either-cases c cs r m) (λ k. either-mem cs r k)
  where
    go : (r ∈ c) ⊎ ((r ∈ either cs) × (has_segment c (segment r) ≡ false))
        → (r ∈ either cs → (d : List Record) × (d ∈ cs) × (r ∈ d)) → (d : List Record) × (d ∈ c ∷ cs) × (r ∈ d)
    go (inl k) ih = (c, Memᴰ.head refl, k)
    go (inr k) ih = let w = ih k.0 in (w.0, Memᴰ.tail w.1, w.2)

pub either-proper : (cs : List (List Record)) → Laid cs → (r : Record) → r ∈ either cs → Proper r
either-proper cs laid r m =
    let w = either-mem cs r m in
    sound-proper (laid.sound w.0 w.1) r w.2

pub mem-either : (cs : List (List Record)) → Laid cs → (c : List Record) → c ∈ cs → (r : Record) → r ∈ c
    → (e : Record) × (e ∈ either cs) × (e.dom ≡ r.dom) × (e.other ≡ r.other)
mem-either (d ∷ cs) laid c n r m =
    go (Memᴰ.cases_cons n) (λ k. mem-either cs (laid-rest laid) c k r m)
  where
    In : List (List Record) → Type 0
    In cs = (e : Record) × (e ∈ either cs) × (e.dom ≡ r.dom) × (e.other ≡ r.other)

    later : In cs → In (d ∷ cs)
    later w = by-test (has_segment d (segment w.0)) refl
      where
        by-test : (b : Bool) → has_segment d (segment w.0) ≡ b → In (d ∷ cs)
        by-test true t =
            let p = either-proper cs (laid-rest laid) w.0 w.1 in
            let h = has_segment-mem (laid.sound d (Memᴰ.head refl)) w.0 p t in
            (h.0, either-here d cs h.0 h.1, h.2 ∙ w.2, h.3 ∙ w.3)
        by-test false t = (w.0, either-there d cs w.0 w.1 t, w.2, w.3)

    go : (c ≡ d) ⊎ (c ∈ cs) → (c ∈ cs → In cs) → In (d ∷ cs)
    go (inl e) ih = (r, either-here d cs r (subst (λ c. r ∈ c) e m), refl, refl)
    go (inr k) ih = later (ih k)
mem-either [] laid c n r m = elim n [ ]

pub either-halves : (cs : List (List Record)) → Laid cs → (r : Record) → r ∈ either cs → other_half r ∈ either cs
unfolding either
either-halves [] laid r m = absurd (Memᴰ.not-nil m)
either-halves (c ∷ cs) laid r m =
    go (either-cases c cs r m) (λ k. either-halves cs (laid-rest laid) r k)
  where
    go : (r ∈ c) ⊎ ((r ∈ either cs) × (has_segment c (segment r) ≡ false)) → (r ∈ either cs → other_half r ∈ either cs)
        → other_half r ∈ either (c ∷ cs)
    go (inl k) ih = either-here c cs (other_half r) ((laid.sound c (Memᴰ.head refl)).halves r k)
    go (inr k) ih =
        either-there c cs (other_half r) (ih k.0)
        (ap (has_segment c) (segment-other_half r (either-proper (c ∷ cs) laid r m)) ∙ k.1)

-- ---- each once

pub either-once : (cs : List (List Record)) → Laid cs → (r : Record) → count (same_ends r) (either cs) ≤ 1
unfolding either sum
either-once [] laid r = omega arith
either-once (c ∷ cs) laid r =
    omega (
      arith,
      count-append (same_ends r) c (keep (missing c) (either cs)),
      by-test (has_segment c (segment r)) refl (either-once cs (laid-rest laid) r),
    )
  where
    by-test : (b : Bool) → has_segment c (segment r) ≡ b → count (same_ends r) (either cs) ≤ 1
        → count (same_ends r) c + count (same_ends r) (keep (missing c) (either cs)) ≤ 1
    by-test true t ih = omega (arith, laid.once c (Memᴰ.head refl) r, count-off _ _ elsewhere)
      where
        elsewhere : (e : Record) → e ∈ keep (missing c) (either cs) → same_ends r e ≡ false
        elsewhere e m = is_false _ (λ h.
            let k = same_ends-true r e h in
            let w = not-true _ (keep-mem (missing c) (either cs) e m).1 in
            true≢false (sym (ap (has_segment c) (ends-segment r e k.0 k.1) ∙ t) ∙ w))
    by-test false t ih =
        omega (arith, count-keep-le (missing c) (same_ends r) (either cs), count-off (same_ends r) c elsewhere)
      where
        elsewhere : (e : Record) → e ∈ c → same_ends r e ≡ false
        elsewhere e m = is_false _ (λ h.
            let k = ends-segment r e (same_ends-true r e h).0 (same_ends-true r e h).1 in
            true≢false (sym (mem-has_segment (laid.sound c (Memᴰ.head refl)) r e m k) ∙ t))
