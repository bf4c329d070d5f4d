-- The walks of a chart, one after the other.
--     Walking s starts firsts starts' firsts' i     what the loop holds: each record whose walk starts before i has its
--                         start and the first record of its cycle, no other has a start, and behind the records nothing
--                         has changed
--     walking-none        it holds at first
--     walking-next        it holds once record i has been: a walk starts there exactly if it departs and has no start
--     walking-all         after the last record all walks are cut
-- Assumes nothing.
use mathlib.Core.Path.{◌≡◌, refl, sym, ap, subst, ◌∙◌}
use mathlib.Core.Logic.{⊎_elim}
use mathlib.Core.Bool.{Bool, true, false, cond, true≢false}
use mathlib.Core.List.{List}
use Prim.Native.Nat.{ℕ, ◌+◌, ◌≤◌, ◌<◌}
use native.Mathlib.Omega.{arith}
use lib.Dec.{eqb}
use lib.IntN.{ℤ}
use lib.ListN.{length, get_or}
use borrow.Author.Tests.{eqb-true, eq-eqb, ne_eqb}
use Rattle.counts.specs.Count.{◌∈◌}
use Rattle.counts.proofs.TestLaws.{and-true, and_intro, lt-or-le, Side, less, equal, more, side}
use Rattle.record.specs.Records.{record_at, record_count}
use Rattle.chart.specs.Regions.{Region}
use Rattle.around.specs.Departing.{departs}
use Rattle.walks.specs.Walks.{walk, cycles_of}
use Rattle.walks.specs.Cycles.{start_of, first_of}
use Rattle.cycles.specs.Steps.{firsts_of, starts_of, is_free, CutFrom, Unset, CutWalks}
use Rattle.walks.proofs.RoundLaws.{walk-self}
use Rattle.walks.proofs.StartLaws.{start-less, start-departs, start-least, start-start}
use Rattle.cycles.proofs.NameLaws.{starts_of-length, firsts_of-length}
use Rattle.cycles.proofs.CircleLaws.{walked-self, written-starts, written-firsts, behind-starts, behind-firsts}

pub record Walking (s : List ℤ) (starts firsts starts' firsts' : List ℕ) (i : ℕ) : Type 0 where
  pub room : record_count s ≤ length starts
  pub room' : record_count s ≤ length firsts
  pub size : length starts' ≡ length starts
  pub size' : length firsts' ≡ length firsts
  pub high : i ≤ record_count s
  pub begun : (j : ℕ) → j < record_count s → start_of s j < i → get_or starts' j 0 ≡ start_of s j
  pub named : (j : ℕ) → j < record_count s → start_of s j < i → get_or firsts' j 0 ≡ first_of s j
  pub none : (j : ℕ) → j < record_count s → i ≤ start_of s j → get_or starts' j 0 ≡ record_count s
  pub behind : (j : ℕ) → record_count s ≤ j
      → (get_or starts' j 0 ≡ get_or starts j 0) × (get_or firsts' j 0 ≡ get_or firsts j 0)

module _ {s : List ℤ} {starts firsts : List ℕ} where
  pub walking-none : Unset (record_count s) starts → record_count s ≤ length firsts
      → Walking s starts firsts starts firsts 0
  walking-none unset h = record {
    room = unset.room;
    room' = h;
    size = refl;
    size' = refl;
    high = omega arith;
    begun = λ j l k. absurd (omega arith);
    named = λ j l k. absurd (omega arith);
    none = λ j l k. unset.none j l;
    behind = λ j l. (refl, refl);
  }

  module _ (region : Region s) {starts' firsts' : List ℕ} {i : ℕ}
      (held : Walking s starts firsts starts' firsts' i) where
    module _ (l : i < record_count s) where
      -- ---- no walk starts at record i

      walking_on : (start_of s i ≡ i → departs (record_at s i) ≡ true → ⊥)
          → Walking s starts firsts starts' firsts' (i + 1)
      walking_on off = record {
        room = held.room;
        room' = held.room';
        size = held.size;
        size' = held.size';
        high = omega arith;
        begun = λ j k h. held.begun j k (before j k h);
        named = λ j k h. held.named j k (before j k h);
        none = λ j k h. held.none j k (omega arith);
        behind = held.behind;
      }
        where
          before : (j : ℕ) → j < record_count s → start_of s j < i + 1 → start_of s j < i
          before j k h = ⊎_elim (λ g. g) (λ g. absurd (here (omega arith))) (lt-or-le (start_of s j) i)
            where
              here : start_of s j ≡ i → ⊥
              here e =
                  off (ap (start_of s) (sym e) ∙ start-start region j k ∙ e)
                  (subst (λ i. departs (record_at s i) ≡ true) e (start-departs region j k))

      -- ---- the walk from record i is cut

      module _ (free : get_or starts' i 0 ≡ record_count s) (leaves : departs (record_at s i) ≡ true)
          {starts'' firsts'' : List ℕ} (begun : starts'' ≡ starts_of s i (cycles_of s i) starts')
          (named : firsts'' ≡ firsts_of s (cycles_of s i) firsts') where
        starts-here : start_of s i ≡ i
        starts-here =
            let self = subst (λ j. i ∈ walk s j) (sym (walked-self region i leaves)) (walk-self region i l) in
            let low = start-least region i l i self in
            ⊎_elim
            (λ h. absurd (omega (arith, held.begun i l h)))
            (λ h. omega arith) (lt-or-le (start_of s i) i)

        start-at : (j : ℕ) → j < record_count s
            → get_or starts'' j 0 ≡ cond (eqb (start_of s j) i) i (get_or starts' j 0)
        start-at j k =
            ap (λ to. get_or to j 0) begun
            ∙ written-starts region i l leaves starts-here j k starts' (omega (arith, held.room, held.size))

        first-at : (j : ℕ) → j < record_count s
            → get_or firsts'' j 0 ≡ cond (eqb (start_of s j) i) (first_of s j) (get_or firsts' j 0)
        first-at j k =
            ap (λ to. get_or to j 0) named
            ∙ written-firsts region i l leaves starts-here j k firsts' (omega (arith, held.room', held.size'))

        walking-cut : Walking s starts firsts starts'' firsts'' (i + 1)
        walking-cut = record {
          room = held.room;
          room' = held.room';
          size = ap length begun ∙ starts_of-length s i (cycles_of s i) starts' ∙ held.size;
          size' = ap length named ∙ firsts_of-length s (cycles_of s i) firsts' ∙ held.size';
          high = omega arith;
          begun = λ j k h. start-at j k ∙ begun-by j k h (side (start_of s j) i);
          named = λ j k h. first-at j k ∙ named_by j k h (side (start_of s j) i);
          none = λ j k h. start-at j k
              ∙ rw (ne_eqb (start_of s j) i (λ e. omega arith)) (held.none j k (omega arith));
          behind = λ j k. (
            ap (λ to. get_or to j 0) begun ∙ behind-starts region i l leaves starts' j k ∙ (held.behind j k).0,
            ap (λ to. get_or to j 0) named ∙ behind-firsts region i l leaves firsts' j k ∙ (held.behind j k).1,
          );
        }
          where
            begun-by : (j : ℕ) → j < record_count s → start_of s j < i + 1 → Side (start_of s j) i
                → cond (eqb (start_of s j) i) i (get_or starts' j 0) ≡ start_of s j
            begun-by j k h (less g) = rw (ne_eqb (start_of s j) i (λ e. omega arith)) (held.begun j k g)
            begun-by j k h (equal e) = rw (eq-eqb (start_of s j) i e) (sym e)
            begun-by j k h (more g) = absurd (omega arith)

            named_by : (j : ℕ) → j < record_count s → start_of s j < i + 1 → Side (start_of s j) i
                → cond (eqb (start_of s j) i) (first_of s j) (get_or firsts' j 0) ≡ first_of s j
            named_by j k h (less g) = rw (ne_eqb (start_of s j) i (λ e. omega arith)) (held.named j k g)
            named_by j k h (equal e) = rw (eq-eqb (start_of s j) i e) refl
            named_by j k h (more g) = absurd (omega arith)

      pub walking-next : {starts'' firsts'' : List ℕ} → CutFrom s i starts' firsts' starts'' firsts''
          → Walking s starts firsts starts'' firsts'' (i + 1)
      walking-next {starts''} {firsts''} from = go (is_free s i starts') refl from.begun from.named
        where
          go : (b : Bool) → is_free s i starts' ≡ b → starts'' ≡ cond b (starts_of s i (cycles_of s i) starts') starts'
              → firsts'' ≡ cond b (firsts_of s (cycles_of s i) firsts') firsts'
              → Walking s starts firsts starts'' firsts'' (i + 1)
          go true t e g =
              let h = and-true (eqb (get_or starts' i 0) (record_count s)) (departs (record_at s i)) t in
              walking-cut (eqb-true (get_or starts' i 0) (record_count s) h.0) h.1 e g
          go false t e g =
              rw (e, g)
              (walking_on (λ h d. true≢false
              (sym (and_intro (eq-eqb (get_or starts' i 0) (record_count s) (held.none i l (omega arith))) d) ∙ t)))

    pub walking-all : record_count s ≤ i → CutWalks s starts firsts starts' firsts'
    walking-all h = record {
      size = (held.size, held.size');
      begun = λ j k. held.begun j k (omega (arith, start-less region j k));
      named = λ j k. held.named j k (omega (arith, start-less region j k));
      behind = held.behind;
    }
