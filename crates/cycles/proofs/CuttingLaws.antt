-- The loop that cuts a walk keeps `Cutting` of Cutting.antt.
--     cutting-none        it holds at first
--     cut-room            what is left has room for one record more
--     cutting-round, cutting-more      it holds at each record, by whether w would come next
--     cutting-all         once the walk has come round and is cut where it began, all is written
--     cutting             for the loop's goals
-- Assumes nothing.
use mathlib.Core.Path.{◌≡◌, refl, sym, ap, subst, ◌∙◌}
use mathlib.Core.Logic.{◌⊎◌, inl, inr}
use mathlib.Core.List.{List, [], ◌∷◌, ◌++◌}
use Prim.Native.Nat.{ℕ, ◌+◌, ◌-◌, ◌≤◌, ◌<◌}
use native.Mathlib.Omega.{arith}
use lib.IntN.{ℤ}
use lib.ListN.{length, get_or, get_or-append, length-append}
use lib.Seq.{get_or-take, get_or-append_seam}
use Rattle.std.proofs.lemmas.List.{length-take}
use Rattle.counts.specs.Count.{first_index}
use Rattle.counts.proofs.TestLaws.{lt-or-le}
use Rattle.plane.specs.declared.Point.{Point}
use Rattle.record.specs.declared.Record.{Record}
use Rattle.record.specs.Records.{record_at, record_count}
use Rattle.chart.specs.Verdicts.{limit}
use Rattle.chart.specs.Regions.{Region}
use Rattle.walks.specs.Ways.{next}
use Rattle.walks.specs.Walks.{from, onward, walk, cut_at, walk_all, uncut, cycles_of}
use Rattle.cycles.specs.Steps.{PlaceOf, firsts_of, starts_of, CutTo, CutWalk}
use Rattle.cycles.proofs.OnwardLaws.{onward-round, onward-more}
use Rattle.cycles.proofs.CutLaws.{cut-rest}
use Rattle.cycles.proofs.Cutting.{Cutting, cutting-places, cut, starts-are, firsts-are}

module _ {s : List ℤ} {w : ℕ} {starts firsts : List ℕ} where
  pub cutting-none : {rest : List ℕ} → Region s → w < record_count s → rest ≡ []
      → Cutting s w starts firsts starts firsts rest w 0
  unfolding starts_of firsts_of
  cutting-none region l e = rw e (record {
    cycles = [];
    on = let all : record_count s - 0 ≡ record_count s = omega arith in
        ap (λ n. walk_all s uncut (onward s w w n)) all;
    begun = refl;
    named = refl;
    left = omega arith;
    most = omega arith;
    few = region.few;
    here = l;
    known = λ t h. absurd (omega arith);
  })

  module _ {starts' firsts' rest : List ℕ} {j k : ℕ}
      (held : Cutting s w starts firsts starts' firsts' rest j k) where
    module _ {p : Point} {starts'' firsts'' rest' : List ℕ}
        (to : CutTo s p w rest starts' firsts' rest' starts'' firsts'') where
      fewer : length rest' ≤ length rest
      fewer = omega (arith, ap length to.left, length-take (first_index (from s p) rest) rest)

      pub cut-room : k < record_count s → length rest' < limit
      cut-room l = omega (arith, fewer, held.left, held.few)

      left-known : (t : ℕ) → t < length rest' → get_or rest' t 0 < record_count s
      left-known t l =
          let short : t < first_index (from s p) rest =
          omega (arith, ap length to.left, length-take (first_index (from s p) rest) rest)
          in
          rw (to.left, get_or-take (first_index (from s p) rest) rest t 0 short) (held.known t (omega (arith, fewer)))

    module _ {r : Record} {starts'' firsts'' rest' : List ℕ} (read : r ≡ record_at s j)
        (to : CutTo s r.dom w rest starts' firsts' rest' starts'' firsts'') where
      at-record : CutTo s (record_at s j).dom w rest starts' firsts' rest' starts'' firsts''
      at-record = subst (λ r. CutTo s r.dom w rest starts' firsts' rest' starts'' firsts'') read to

      cutting-on : {j' k' : ℕ} → k < k' → k' ≤ record_count s → PlaceOf s (next s j) j'
          → onward s w j (record_count s - k) ≡ j ∷ onward s w j' (record_count s - k')
          → Cutting s w starts firsts starts'' firsts'' (rest' ++ (j ∷ [])) j' k'
      unfolding walk_all cut
      cutting-on {j'} {k'} h g at e = record {
        cycles = (cut_at s p (cut held)).cycles;
        on = ap (λ l. walk_all s (record { rest = l ++ (j ∷ []); cycles = (cut_at s p (cut held)).cycles })
            (onward s w j' (record_count s - k')))
            (at-record.left ∙ sym (cut-rest s p (cut held)))
            ∙ (rw e at held.on);
        begun = starts-are held p at-record;
        named = firsts-are held p at-record;
        left = omega (arith, fewer to, held.left, length-append rest' (j ∷ []));
        most = g;
        few = held.few;
        here = at.less;
        known = λ t l. by-place t l (lt-or-le t (length rest'));
      }
        where
          p : Point
          p = (record_at s j).dom

          by-place : (t : ℕ) → t < length (rest' ++ (j ∷ [])) → (t < length rest') ⊎ (length rest' ≤ t)
              → get_or (rest' ++ (j ∷ [])) t 0 < record_count s
          by-place t l (inl h) = rw (get_or-append rest' (j ∷ []) 0 t h) (left-known to t h)
          by-place t l (inr h) =
              let e : t ≡ length rest' = omega (arith, length-append rest' (j ∷ [])) in
              rw (e, get_or-append_seam rest' j [] 0) held.here

      module _ (l : k < record_count s) {j' : ℕ} (at : PlaceOf s (next s j) j') where
        pub cutting-round : j' ≡ w
            → Cutting s w starts firsts starts'' firsts'' (rest' ++ (j ∷ [])) j' (record_count s)
        cutting-round e = cutting-on l (omega arith) at (onward-round s w j l at.is e)

        pub cutting-more : (j' ≡ w → ⊥) → Cutting s w starts firsts starts'' firsts'' (rest' ++ (j ∷ [])) j' (k + 1)
        cutting-more e = cutting-on (omega arith) (omega arith) at (onward-more s w j l at.is e)

    pub cutting-all : {r : Record} {starts'' firsts'' rest' : List ℕ} → record_count s ≤ k → r ≡ record_at s w
        → CutTo s r.dom w rest starts' firsts' rest' starts'' firsts''
        → CutWalk s w starts firsts starts'' firsts''
    unfolding walk_all onward cycles_of cut
    cutting-all {r} {starts''} {firsts''} {rest'} h read to =
        let p = (record_at s w).dom in
        let at = subst (λ r. CutTo s r.dom w rest starts' firsts' rest' starts'' firsts'') read to in
        let none : record_count s - k ≡ 0 = omega arith in
        let whole : cut held ≡ walk_all s uncut (walk s w) = rw none at held.on in
        record {
          begun = starts-are held p at ∙ ap (λ c. starts_of s w (cut_at s p c).cycles starts) whole;
          named = firsts-are held p at ∙ ap (λ c. firsts_of s (cut_at s p c).cycles firsts) whole;
        }

pub ruleset cutting = (cutting-none, cutting-places, cut-room, cutting-round, cutting-more, cutting-all)
