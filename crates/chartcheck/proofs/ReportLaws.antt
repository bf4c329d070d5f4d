-- What the program says, by what its functions have seen.
--     area_refused      of a chart that has no area
--     chart-faces       of one whose faces were counted
--     chart-sound       and whose area was found
--     chart_refused     of one whose faces were refused
--     file-taken, file_refused      of a file, by what was read
--     report-buffered               and of its first 8,192 bytes
-- Assumes nothing.
use mathlib.Core.Path.{◌≡◌, refl, sym, ap, ap₂, subst}
use mathlib.Core.Logic.{◌⊎◌, inl, inr}
use mathlib.Core.List.{List}
use Prim.Native.Nat.{ℕ, ◌*◌, ◌-◌}
use native.Mathlib.Omega.{arith}
use lib.IntN.{ℤ}
use mir.Syntax.{w64}
use mir.Val.{SFits, to_z, of_z}
use mir.ValLaws.{to_z-of_z}
use lib.ListN.{length, take}
use Rattle.std.specs.Prelude.{Result, Ok, Err}
use Rattle.record.specs.Records.{width, record_count}
use Rattle.chart.specs.declared.ChartRefusal.{ChartRefusal}
use Rattle.chart.specs.Verdicts as chart
use Rattle.chart.specs.Verdicts.{verdict}
use Rattle.chart.specs.Regions.{Region}
use Rattle.area.specs.Areas.{area_of}
use Rattle.walks.proofs.RoomLaws.{cycles-halved}
use Rattle.faces.specs.declared.answer.FaceCounts.{FaceCounts}
use Rattle.faces.specs.declared.FaceRefusal.{FaceRefusal}
use Rattle.faces.specs.declared.FaceRefusal.TheVariants.{Chart, NoRoom}
use Rattle.faces.specs.Lists.{FaceList, told_listing, Lists}
use Rattle.faces.proofs.OutcomeLaws.{TooShort, lists-told, lists-refusal}
use Rattle.file.specs.declared.FileRefusal.{FileRefusal}
use Rattle.file.specs.Answers as file
use Rattle.file.specs.Answers.{Reads}
use Rattle.file.proofs.AnswerLaws.{reads-took, reads-refused}
use Rattle.file.proofs.BufferLaws.{buffered}
use Rattle.chartcheck.specs.Reports.{room, Said, area_report, taken_report, chart_report, report}

pub area_refused : (s : List ℤ) {r : ChartRefusal} → Err r ≡ area_of s → chart_report s ≡ Err (chart.told r)
unfolding chart_report
area_refused s e = rw (← e) refl

module _ (s : List ℤ) (labels cycles labels' cycles' : List ℕ) {a : FaceList}
    (lists : Lists s labels cycles labels' cycles' a) where
  -- what is said goes by its area then
  pub chart-faces : {c : FaceCounts} → a ≡ Ok c
      → chart_report s ≡ area_report (record_count s) c.faces (c.cycles - c.faces) (area_of s)
  unfolding chart_report
  chart-faces {c} e =
      let told = lists-told (subst (Lists s labels cycles labels' cycles') e lists) in
      sym (ap₂ (λ j i. area_report (record_count s) j (i - j) (area_of s)) told.bounded told.many)

  pub chart-sound : {c : FaceCounts} {x : Result ℤ ChartRefusal} {n : ℕ} {z : ℤ} → a ≡ Ok c → x ≡ area_of s → x ≡ Ok z
      → SFits w64 z → n ≡ record_count s
      → area_report n c.faces (c.cycles - c.faces) (Ok (to_z w64 (of_z w64 z))) ≡ chart_report s
  chart-sound {c} {x} {n} {z} e area is fits m = rw (chart-faces e, ← area, is, to_z-of_z w64 z fits, m) refl

  -- the arrays are long enough, so a refusal is the chart's own
  pub chart_refused : {r : FaceRefusal} → length labels ≡ 512 → length cycles ≡ 512 → a ≡ Err r
      → chart_report s ≡ Err (told_listing r)
  unfolding chart_report area_of
  chart_refused {r} l c e = go (lists-refusal (subst (Lists s labels cycles labels' cycles') e lists))
    where
      go : ((q : ChartRefusal) × (verdict s ≡ Err q) × (r ≡ Chart q))
          ⊎ (Region s × (r ≡ NoRoom) × TooShort s (length labels) (length cycles))
          → chart_report s ≡ Err (told_listing r)
      go (inl (q, h, is)) = rw (h, is) refl
      go (inr (region, is, inl h)) = absurd (omega (arith, region.few))
      go (inr (region, is, inr h)) = absurd (omega (arith, region.few, cycles-halved region))

module _ (bytes : List ℕ) (lent out : List ℤ) {a : file.Answer} (reads : Reads bytes lent out a) where
  pub file-taken : {n : ℕ} {r : Said} → length lent ≡ room → a ≡ Ok n → r ≡ chart_report (take (width * n) out)
      → r ≡ report bytes
  unfolding report
  file-taken l e is = rw (← l, (reads-took bytes lent out reads e).is) is

  pub file_refused : {r : FileRefusal} → length lent ≡ room → a ≡ Err r → report bytes ≡ Err (file.told r)
  unfolding report
  file_refused l e = rw (← l, reads-refused bytes lent out reads e) refl

module _ (bytes : List ℕ) where
  -- bytes past the buffer change nothing that is said
  pub report-buffered : report (take 8192 bytes) ≡ report bytes
  unfolding report
  report-buffered = ap taken_report (buffered bytes room)
