-- What each question about charts and files answers at the boundary, from what the library answers, and what it leaves
-- in what is lent.
--     check_answer v     refusal and index; 0 where the chart is accepted
--     place_kind a, point_answer a    kind 0 Outside, 1 Inside, 2 Edge; or refusal and index
--     corner_answer a    where the run starts, in numbers from the array's beginning, in bits 0 to 31, and how many
--                        numbers it has in bits 32 to 63
--     head_kind h, head_answer h    kind 0 neither, 1 the first array's head, 2 the second's
--     area_answer a      refusal and index, or 0
--     area_left a lent   twice the area; what was lent, where the chart is refused
--     faces_value a, faces_answer a   how many cycles in bits 0 to 15 and how many faces in bits 16 to 31; or refusal
--                        and index
--     FacesListed s labels cycles labels' cycles' n    n is the answer of the faces of s, and the arrays that were
--                        labels and cycles are then labels' and cycles'
--     read_value a, read_answer a   how many records were read; or refusal and place
--     join_value j, join_answer j   how many records were written; or refusal, index and the chart named
--     Combines op a b lent out n    n is the answer of joining a and b, and the array that was `lent` is then `out`
--     FileRead s lent out n    n is the answer of a file s, and the array that was `lent` is then `out`
-- Assumes nothing.
use Rattle.std.specs.Prelude.{◌≡◌, List, ℕ, ◌+◌, ◌-◌, ◌*◌, ◌^◌, ℤ, length, Option, Some, None, Result, Ok, Err}
use Rattle.parts.specs.declared.Span.{Span}
use Rattle.parts.specs.declared.Which.{Which}
use Rattle.parts.specs.declared.Which.TheVariants.{First, Second}
use Rattle.chart.specs.declared.ChartRefusal.{ChartRefusal}
use Rattle.chart.specs.Verdicts.{Verdict, refusal_of}
use Rattle.question.specs.declared.Place.{Place}
use Rattle.question.specs.declared.Place.TheVariants.{Outside, Inside, Edge}
use Rattle.faces.specs.Lists as lists
use Rattle.faces.specs.Lists.{FaceList, labels_of, cycle_list, faces_of, list_refusal}
use Rattle.sides.specs.declared.Op.{Op}
use Rattle.join.specs.Joinings as joining
use Rattle.join.specs.Joinings.{Joined, join_refusal, chart_named, outcome}
use Rattle.file.specs.Files.{file_of}
use Rattle.file.specs.Answers.{Answer, answer_of, read_refusal, contents}
use Rattle.rig.specs.Bits.{packed, of_refusal}

abbrev pub check_answer : Verdict → ℕ
check_answer v = of_refusal (refusal_of v)

abbrev pub place_kind : Result Place ChartRefusal → ℕ
place_kind (Ok Outside) = 0
place_kind (Ok Inside) = 1
place_kind (Ok Edge) = 2
place_kind (Err r) = 0

abbrev pub point_answer : Result Place ChartRefusal → ℕ
point_answer a = packed (refusal_of a).index (refusal_of a).number 0 (place_kind a)

unfoldable pub corner_answer : Span → ℕ
corner_answer a = a.from + 2 ^ 32 * (a.upto - a.from)

abbrev pub head_kind : Option Which → ℕ
head_kind None = 0
head_kind (Some First) = 1
head_kind (Some Second) = 2

abbrev pub head_answer : Option Which → ℕ
head_answer h = packed 0 0 0 (head_kind h)

abbrev pub area_answer : Result ℤ ChartRefusal → ℕ
area_answer a = of_refusal (refusal_of a)

abbrev pub area_left : Result ℤ ChartRefusal → ℤ → ℤ
area_left (Ok z) lent = z
area_left (Err r) lent = lent

abbrev pub faces_value : FaceList → ℕ
faces_value (Ok c) = c.cycles + 2 ^ 16 * c.faces
faces_value (Err r) = (list_refusal (Err r)).index

abbrev pub faces_answer : FaceList → ℕ
faces_answer a = packed (faces_value a) (list_refusal a).number 0 0

pub record FacesListed (s : List ℤ) (labels cycles labels' cycles' : List ℕ) (n : ℕ) : Type 0 where
  pub says : n ≡ faces_answer (faces_of s (length labels) (length cycles))
  pub labelled : labels' ≡ lists.contents (faces_of s (length labels) (length cycles)) (labels_of s) labels
  pub listed : cycles' ≡ lists.contents (faces_of s (length labels) (length cycles)) (cycle_list s) cycles

abbrev pub join_value : Joined → ℕ
join_value (Ok n) = n
join_value (Err r) = (join_refusal (Err r)).index

abbrev pub join_answer : Joined → ℕ
join_answer j = packed (join_value j) (join_refusal j).number (chart_named j) 0

pub record Combines (op : Op) (a b lent out : List ℤ) (n : ℕ) : Type 0 where
  pub says : n ≡ join_answer (joining.answer_of (outcome op a b (length lent)))
  pub leaves : out ≡ joining.contents (outcome op a b (length lent)) lent

abbrev pub read_value : Answer → ℕ
read_value (Ok n) = n
read_value (Err r) = (read_refusal (Err r)).index

abbrev pub read_answer : Answer → ℕ
read_answer a = packed (read_value a) (read_refusal a).number 0 0

pub record FileRead (s : List ℕ) (lent out : List ℤ) (n : ℕ) : Type 0 where
  pub says : n ≡ read_answer (answer_of (file_of s (length lent)))
  pub leaves : out ≡ contents (file_of s (length lent)) lent
