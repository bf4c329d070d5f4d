-- The array of the faces of the walks (specs/Steps.antt), filled in from record to record, and read.
--     Filling s lent faces w      the array that was `lent` is now `faces`: it has those of the walks that start before
--                                 record w
--     fill_none, fill_start, fill_other, fill_all     from record to record
--     cycle_start, cycle_face     the face of a cycle: that of its walk, which the array has
-- Assumes nothing.
use mathlib.Core.Path.{◌≡◌, refl, sym, ap, ◌∙◌}
use mathlib.Core.List.{List}
use Prim.Native.Nat.{ℕ, ◌+◌, ◌<◌, ◌≤◌, zero-le}
use native.Mathlib.Omega.{arith}
use lib.IntN.{ℤ}
use lib.ListN.{length, get_or, set, length-set}
use lib.Seq.{get_or-set_same, get_or-set_other}
use Rattle.counts.proofs.TestLaws.{Side, less, equal, more, side}
use Rattle.counts.specs.Count.{places}
use Rattle.counts.proofs.CountLaws.{count_most}
use Rattle.counts.proofs.ListedLaws.{listed-length}
use Rattle.record.specs.Records.{record_count}
use Rattle.chart.specs.Regions.{Region}
use Rattle.walks.specs.Cycles.{start_of}
use Rattle.walks.specs.Faces.{first_outer, face_count, face_of}
use Rattle.faces.specs.Steps.{WalkFaces, Numbered}
use Rattle.faces.specs.Known.{Known}
use Rattle.faces.proofs.KnownLaws.{known_region}
use Rattle.walks.proofs.StartLaws.{start-less, start-start}
use Rattle.walks.proofs.FaceLaws.{face-walk, face-less}

-- ---- filling

pub record Filling (s : List ℤ) (lent faces : List ℕ) (w : ℕ) : Type 0 where
  pub within : w ≤ record_count s
  pub long : length faces ≡ length lent
  pub done : WalkFaces s w faces

pub fill_none : (s : List ℤ) (lent : List ℕ) → record_count s ≤ length lent → Filling s lent lent 0
fill_none s lent h =
    record { within = zero-le; long = refl; done = record { room = h; face = λ w l. absurd (omega arith) } }

module _ {s : List ℤ} {lent faces : List ℕ} {w : ℕ} (so_far : Filling s lent faces w) where
  pub fill_all : record_count s ≡ w → WalkFaces s (record_count s) faces
  fill_all h =
      record { room = so_far.done.room; face = λ v l k at. so_far.done.face v (omega arith) k at }

  pub fill_start : {f : ℕ} {next : List ℕ} → w < record_count s → f ≡ face_of s w → next ≡ set faces w f
      → Filling s lent next (w + 1)
  fill_start {f} l e d = rw d (record {
    within = omega arith;
    long = length-set faces w f ∙ so_far.long;
    done = record {
      room = omega (arith, so_far.done.room, length-set faces w f);
      face = λ v h k at. go v h k at (side v w);
    };
  })
    where
      go : (v : ℕ) → v < w + 1 → v < record_count s → start_of s v ≡ v → Side v w
          → get_or (set faces w f) v 0 ≡ face_of s v
      go v h k at (less g) = get_or-set_other faces w v f 0 (omega arith) ∙ so_far.done.face v g k at
      go v h k at (equal g) = rw g (get_or-set_same faces w f 0 (omega (arith, so_far.done.room)) ∙ e)
      go v h k at (more g) = absurd (omega arith)

  pub fill_other : {v : ℕ} {next : List ℕ} → w < record_count s → v ≡ start_of s w → (v ≡ w → ⊥) → next ≡ faces
      → Filling s lent next (w + 1)
  fill_other {v} l is other d = rw d (record {
    within = omega arith;
    long = so_far.long;
    done = record { room = so_far.done.room; face = λ u h k at. go u h k at (side u w) };
  })
    where
      go : (u : ℕ) → u < w + 1 → u < record_count s → start_of s u ≡ u → Side u w → get_or faces u 0 ≡ face_of s u
      go u h k at (less g) = so_far.done.face u g k at
      go u h k at (equal g) = absurd (other (is ∙ (rw g at at)))
      go u h k at (more g) = absurd (omega arith)

-- ---- reading

pub cycle_start : {s : List ℤ} {starts firsts faces : List ℕ} → Known s starts firsts
    → WalkFaces s (record_count s) faces → {i : ℕ} → i < record_count s → get_or starts i 0 < length faces
cycle_start known done {i} l =
    omega (arith, known.start i l, start-less (known_region known) i l, done.room)

pub cycle_face : {s : List ℤ} {faces : List ℕ} {i v : ℕ} → Region s → WalkFaces s (record_count s) faces
    → i < record_count s → v ≡ start_of s i → Numbered s (face_of s i) (get_or faces v 0)
cycle_face {s} {faces} {i} {v} region done l start =
    let h = start-less region i l in
    let is : get_or faces v 0 ≡ face_of s i =
    ap (λ v. get_or faces v 0) start
    ∙ done.face (start_of s i) h h (start-start region i l)
    ∙ sym (face-walk region i l)
    in
    record { is = is; most = omega (arith, face-less region i l, some) }
  where
    some : face_count s ≤ record_count s
    some =
        omega (
          arith,
          count_most (first_outer s) (places (record_count s)),
          listed-length (λ i. i) 0 (record_count s),
        )
