-- What a caller of `faces` knows by its contract (specs/Lists.antt).
--     Told s labels cycles labels' cycles' m k     the array is a region of m cycles and k faces, both lent arrays have
--                        room, and now begin with the lists; places beyond are as they were
--     lists-told         so it is where the answer is m cycles and k faces
--     lists-untouched    both lent arrays are as they were where it is refused
--     TooShort s l c     of two arrays of l and c numbers one is too short for the lists
--     lists-refusal      a refusal is the array's own as a chart, or 10, and one of the two is too short
--     lists-short        which is the answer wherever one is, of a region
--     lists-one          the answer is one, and so is what the lent arrays then hold
--     faces_of-told      a refusal's number is at most 10, and its index below the limit
--     counts-small       there are no more cycles than a chart may have records, and no more faces than cycles
-- Assumes nothing.
use mathlib.Core.Path.{◌≡◌, refl, sym, ap, ap₂, ◌∙◌}
use mathlib.Core.Logic.{◌⊎◌, inl, inr, ◌↔◌}
use mathlib.Core.Bool.{Bool, true, false, cond, ◌||◌}
use mathlib.Core.List.{List, ◌++◌}
use Prim.Native.Nat.{ℕ, ◌*◌, ◌<◌, ◌≤◌}
use native.Mathlib.Omega.{arith}
use lib.Dec.{ltb}
use lib.IntN.{ℤ}
use lib.ListN.{length, drop}
use borrow.Author.Tests.{ltb-false}
use Rattle.std.specs.Prelude.{Ok, Err}
use Rattle.counts.specs.Count.{places}
use Rattle.counts.proofs.TestLaws.{or_is, ltb-is}
use Rattle.counts.proofs.CountLaws.{count_most}
use Rattle.counts.proofs.ListedLaws.{listed-length}
use Rattle.record.specs.Records.{record_count}
use Rattle.chart.specs.declared.ChartRefusal.{ChartRefusal}
use Rattle.chart.specs.Verdicts.{limit, Verdict, refusal_of, verdict}
use Rattle.chart.specs.Regions.{Region}
use Rattle.chart.proofs.RegionLaws.{accepted-is}
use Rattle.chart.proofs.IndexLaws as index
use Rattle.chart.proofs.IndexLaws.{verdict-told}
use Rattle.walks.specs.Cycles.{is_first, cycle_count, cycle_number}
use Rattle.walks.specs.Faces.{face_count}
use Rattle.walks.proofs.NumberLaws.{few_faces}
use Rattle.faces.specs.declared.answer.FaceCounts.{FaceCounts}
use Rattle.faces.specs.declared.FaceRefusal.{FaceRefusal}
use Rattle.faces.specs.declared.FaceRefusal.TheVariants.{Chart, NoRoom}
use Rattle.faces.specs.Lists.{FaceList, labels_of, cycle_list, listed_in, list_if, faces_of, contents, list_refusal}
use Rattle.faces.specs.Lists.{Lists}
use Rattle.faces.proofs.EntriesLaws.{cycle_list-length}

pub record Told (s : List ℤ) (labels cycles labels' cycles' : List ℕ) (m k : ℕ) : Type 0 where
  pub region : Region s
  pub many : m ≡ cycle_count s
  pub bounded : k ≡ face_count s
  pub room-labels : record_count s ≤ length labels
  pub room-cycles : 2 * m ≤ length cycles
  pub labelled : labels' ≡ labels_of s ++ drop (record_count s) labels
  pub listed : cycles' ≡ cycle_list s ++ drop (2 * m) cycles

abbrev pub TooShort : List ℤ → ℕ → ℕ → Type 0
TooShort s l c = (l < record_count s) ⊎ (c < 2 * cycle_count s)

one-answer : {a b : FaceCounts} → ◌≡◌ {A = FaceList} (Ok a) (Ok b) → a ≡ b
one-answer e = cc

one-refusal : {r q : FaceRefusal} → ◌≡◌ {A = FaceList} (Err r) (Err q) → r ≡ q
one-refusal e = cc

never_both : {a : FaceCounts} {r : FaceRefusal} → ◌≡◌ {A = FaceList} (Ok a) (Err r) → ⊥
never_both e = let o : ◌≡◌ {A = ℕ} 0 1 = cc in omega arith

-- the numbers of cycles and of faces
abbrev counts_of : List ℤ → FaceCounts
counts_of s = record { cycles = cycle_count s; faces = face_count s; within = few_faces s (record_count s) }

-- the same as a test
abbrev short : List ℤ → ℕ → ℕ → Bool
short s l c = ltb l (record_count s) || ltb c (2 * cycle_count s)

short-is : (s : List ℤ) (l c : ℕ) → (short s l c ≡ true) ↔ TooShort s l c
short-is s l c = or_is (ltb l (record_count s)) (ltb c (2 * cycle_count s)) (ltb-is refl) (ltb-is refl)

module _ {s : List ℤ} {labels cycles labels' cycles' : List ℕ} where
  pub lists-told : {a : FaceCounts} → Lists s labels cycles labels' cycles' (Ok a)
      → Told s labels cycles labels' cycles' a.cycles a.faces
  unfolding faces_of listed_in
  lists-told {a} lists = by-verdict (verdict s) refl lists.says
    where
      none-short : (x y : Bool) → ltb (length labels) (record_count s) ≡ x → ltb (length cycles) (2 * cycle_count s) ≡ y
          → verdict s ≡ Ok tt → ◌≡◌ {A = FaceList} (Ok a)
          (cond (x || y) (Err NoRoom) (Ok (counts_of s)))
          → Told s labels cycles labels' cycles' a.cycles a.faces
      none-short true y t u h e = absurd (never_both e)
      none-short false true t u h e = absurd (never_both e)
      none-short false false t u h e =
          let many = ap (λ c. c.cycles) (one-answer e) in
          record {
            region = (accepted-is s).0 h;
            many = many;
            bounded = ap (λ c. c.faces) (one-answer e);
            room-labels = ltb-false _ _ t;
            room-cycles = omega (arith, ltb-false (length cycles) (2 * cycle_count s) u);
            labelled =
                lists.labelled
                ∙ ap (λ n. labels_of s ++ drop n labels) (listed-length (cycle_number s) 0 (record_count s));
            listed =
                lists.listed
                ∙ ap (λ n. cycle_list s ++ drop n cycles) (cycle_list-length s ∙ ap (λ n. 2 * n) (sym many));
          }

      by-verdict : (v : Verdict) → verdict s ≡ v
          → ◌≡◌ {A = FaceList} (Ok a) (list_if v (listed_in s (length labels) (length cycles)))
          → Told s labels cycles labels' cycles' a.cycles a.faces
      by-verdict (Ok u) h e =
          none-short (ltb (length labels) (record_count s)) (ltb (length cycles) (2 * cycle_count s)) refl refl h e
      by-verdict (Err r) h e = absurd (never_both e)

  -- ---- refusals

  pub lists-untouched : {r : FaceRefusal} → Lists s labels cycles labels' cycles' (Err r)
      → (labels' ≡ labels) × (cycles' ≡ cycles)
  lists-untouched lists = (lists.labelled, lists.listed)

  pub lists-refusal : {r : FaceRefusal} → Lists s labels cycles labels' cycles' (Err r)
      → ((q : ChartRefusal) × (verdict s ≡ Err q) × (r ≡ Chart q))
      ⊎ (Region s × (r ≡ NoRoom) × TooShort s (length labels) (length cycles))
  unfolding faces_of listed_in
  lists-refusal {r} lists = by-verdict (verdict s) refl lists.says
    where
      Ends : Type 0
      Ends =
          ((q : ChartRefusal) × (verdict s ≡ Err q) × (r ≡ Chart q))
          ⊎ (Region s × (r ≡ NoRoom) × TooShort s (length labels) (length cycles))

      by_length : (b : Bool) → short s (length labels) (length cycles) ≡ b → verdict s ≡ Ok tt
          → ◌≡◌ {A = FaceList} (Err r) (cond b (Err NoRoom) (Ok (counts_of s))) → Ends
      by_length true t h e = inr ((accepted-is s).0 h, one-refusal e, (short-is s (length labels) (length cycles)).0 t)
      by_length false t h e = absurd (never_both (sym e))

      by-verdict : (v : Verdict) → verdict s ≡ v
          → ◌≡◌ {A = FaceList} (Err r) (list_if v (listed_in s (length labels) (length cycles))) → Ends
      by-verdict (Ok u) h e = by_length (short s (length labels) (length cycles)) refl h e
      by-verdict (Err q) h e = inl (q, h, one-refusal e)

  pub lists-short : {a : FaceList} → Region s → TooShort s (length labels) (length cycles)
      → Lists s labels cycles labels' cycles' a → a ≡ Err NoRoom
  unfolding faces_of listed_in
  lists-short region o lists =
      lists.says
      ∙ ap₂ (λ v b. list_if v (cond b (Err NoRoom) (Ok (counts_of s)))) ((accepted-is s).1 region)
      ((short-is s (length labels) (length cycles)).1 o)

  pub lists-one : {labels'' cycles'' : List ℕ} {a b : FaceList} → Lists s labels cycles labels' cycles' a
      → Lists s labels cycles labels'' cycles'' b
      → (a ≡ b) × (◌≡◌ {A = List ℕ × List ℕ} (labels', cycles') (labels'', cycles''))
  lists-one h w =
      let one = h.says ∙ sym w.says in (
        one,
        ap₂ (λ l c. (l, c))
            (h.labelled ∙ ap (λ a. contents a (labels_of s) labels) one ∙ sym w.labelled)
            (h.listed ∙ ap (λ a. contents a (cycle_list s) cycles) one ∙ sym w.listed),
      )

  -- ---- what has room in an answer's bits

  pub counts-small : {m k : ℕ} → Told s labels cycles labels' cycles' m k → (m ≤ limit) × (k ≤ m)
  counts-small told =
      let all = places (record_count s) in (
        omega (
          arith,
          told.many,
          count_most (is_first s) all,
          listed-length (λ i. i) 0 (record_count s),
          told.region.few,
        ),
        omega (arith, told.many, told.bounded, few_faces s (record_count s)),
      )

pub faces_of-told : (s : List ℤ) (l c : ℕ)
    → ((list_refusal (faces_of s l c)).number ≤ 10) × ((list_refusal (faces_of s l c)).index < limit)
unfolding faces_of listed_in
faces_of-told s l c = go (verdict s) (short s l c) (verdict-told s)
  where
    go : (v : Verdict) (b : Bool) → index.Told (refusal_of {A = Unit {0}} v)
        → let a = list_if v (cond b (Err NoRoom) (Ok (counts_of s))) in
        ((list_refusal a).number ≤ 10) × ((list_refusal a).index < limit)
    go (Ok u) true t = (omega arith, omega arith)
    go (Ok u) false t = (omega arith, omega arith)
    go (Err r) b t = (omega (arith, t.number), t.index)
