-- The list of faces and holes of a chart s (document 01: "One lent array gets the cycle number of each record; another
-- gets two numbers per cycle: 0 for outer or 1 for hole, then the face"): what is refused, what is answered, and what
-- the lent arrays hold then. What cycles and faces are: walks' specs.
--     labels_of s            the cycle number of each record
--     kind_of s i            of the cycle of record i: 0 for outer or 1 for hole
--     entries_of s is        the two numbers of the cycle of each of the records is
--     cycle_list s           two numbers per cycle, in their order: each cycle is told by its first record
--     FaceList               the number of cycles and of faces, with that the faces are no more (`few_faces` of walks),
--                            or why they are not listed
--     listed_in s l c        of an accepted chart, for lent arrays of l and c numbers: no room exactly when either is
--                            too short; else the number of cycles and of faces
--     list_if v a            the answer a, or the refusal that v gives
--     faces_of s l c         of any array: first its refusal, if it is no chart
--     contents a xs lent     what a lent array holds then: xs at its start, the rest as it was; all of it as it was
--                            where the answer is a refusal
--     told_listing r         the number and index of a refusal: the chart's own, or 10 and 0
--     list_refusal a         the same for each case: 0 and 0 where it is answered
--     Lists s labels cycles labels' cycles' a     the answer is a, and the arrays that were labels and cycles are then
--                            labels' and cycles'
-- Assumes nothing.
use Rattle.std.specs.Prelude.{◌≡◌, cond, ◌||◌, List, [], ◌∷◌, ◌++◌, ℕ, ◌*◌, ltb, ℤ, length, drop}
use Rattle.std.specs.Prelude.{Result, Ok, Err}
use Rattle.counts.specs.Count.{keep, listed, places}
use Rattle.record.specs.Records.{record_count}
use Rattle.chart.specs.declared.Refusal.{Refusal}
use Rattle.chart.specs.Verdicts.{Verdict, told, no_refusal, verdict}
use Rattle.walks.specs.Cycles.{is_first, cycle_count, cycle_number}
use Rattle.walks.specs.Faces.{is_outer, face_count, face_of}
use Rattle.walks.proofs.NumberLaws.{few_faces}
use Rattle.faces.specs.declared.answer.FaceCounts.{FaceCounts}
use Rattle.faces.specs.declared.FaceRefusal.{FaceRefusal}
use Rattle.faces.specs.declared.FaceRefusal.TheVariants.{Chart, NoRoom}

-- ---- the list

abbrev pub labels_of : List ℤ → List ℕ
labels_of s = listed (cycle_number s) 0 (record_count s)

abbrev pub kind_of : List ℤ → ℕ → ℕ
kind_of s i = cond (is_outer s i) 0 1

unfoldable pub entries_of : List ℤ → List ℕ → List ℕ
entries_of s [] = []
entries_of s (i ∷ is) = kind_of s i ∷ face_of s i ∷ entries_of s is

abbrev pub cycle_list : List ℤ → List ℕ
cycle_list s = entries_of s (keep (is_first s) (places (record_count s)))

-- ---- the answer

abbrev pub FaceList : Type 0
FaceList = Result FaceCounts FaceRefusal

unfoldable pub listed_in : List ℤ → ℕ → ℕ → FaceList
listed_in s l c =
    cond (ltb l (record_count s) || ltb c (2 * cycle_count s)) (Err NoRoom)
    (Ok (record { cycles = cycle_count s; faces = face_count s; within = few_faces s (record_count s) }))

abbrev pub list_if : Verdict → FaceList → FaceList
list_if (Ok u) a = a
list_if (Err r) a = Err (Chart r)

unfoldable pub faces_of : List ℤ → ℕ → ℕ → FaceList
faces_of s l c = list_if (verdict s) (listed_in s l c)

abbrev pub contents : FaceList → List ℕ → List ℕ → List ℕ
contents (Ok a) xs lent = xs ++ drop (length xs) lent
contents (Err r) xs lent = lent

abbrev pub told_listing : FaceRefusal → Refusal
told_listing (Chart r) = told r
told_listing NoRoom = record { number = 10; index = 0 }

abbrev pub list_refusal : FaceList → Refusal
list_refusal (Ok a) = no_refusal
list_refusal (Err r) = told_listing r

pub record Lists (s : List ℤ) (labels cycles labels' cycles' : List ℕ) (a : FaceList) : Type 0 where
  pub says : a ≡ faces_of s (length labels) (length cycles)
  pub labelled : labels' ≡ contents a (labels_of s) labels
  pub listed : cycles' ≡ contents a (cycle_list s) cycles
