-- What the program says of a file (document 01: "It reads the file, checks the chart and writes one line").
--     room             how many numbers its array holds: five for each of the most records that a chart may have
--     Said             what is said: of a sound chart its report, or the refusal
--     area_report n k h a  of a chart of n records, k faces, h holes and the area a: all four, or the chart's refusal
--     chart_report s   of a chart s: the cycles that are not the outer cycle of a face are holes
--     taken_report t   of what was taken from a file: the file's refusal, or what its chart is said to be
--     report bytes     of a file
-- Assumes nothing.
use Rattle.std.specs.Prelude.{List, ℕ, ◌-◌, ◌*◌, ℤ, Result, Ok, Err}
use Rattle.record.specs.Records.{width, record_count}
use Rattle.chart.specs.declared.ChartRefusal.{ChartRefusal}
use Rattle.chart.specs.declared.Refusal.{Refusal}
use Rattle.chart.specs.Verdicts as chart
use Rattle.chart.specs.Verdicts.{limit}
use Rattle.area.specs.Areas.{area_of}
use Rattle.walks.specs.Cycles.{cycle_count}
use Rattle.walks.specs.Faces.{face_count}
use Rattle.file.specs.Answers as file
use Rattle.file.specs.Files.{Taken, taken, refused, file_of}
use Rattle.chartcheck.specs.declared.Report.{Report}

abbrev pub room : ℕ
room = width * limit

abbrev pub Said : Type 0
Said = Result Report Refusal

abbrev pub area_report : ℕ → ℕ → ℕ → Result ℤ ChartRefusal → Said
area_report n k h (Ok z) = Ok (record { records = n; faces = k; holes = h; area2 = z })
area_report n k h (Err r) = Err (chart.told r)

unfoldable pub chart_report : List ℤ → Said
chart_report s = area_report (record_count s) (face_count s) (cycle_count s - face_count s) (area_of s)

abbrev pub taken_report : Taken → Said
taken_report (taken zs at) = chart_report zs
taken_report (refused r) = Err (file.told r)

unfoldable pub report : List ℕ → Said
report bytes = taken_report (file_of bytes room)
