use Rattle.std.proofs.Common.{rules}
use Rattle.chartcheck.proofs.ReportLaws.{chart-sound}
use Rattle.chartcheck.proofs.report_of.Goals as goal

pub returns : goal.returns
returns c = search (rules, chart-sound, c.in_ok-counts.was, c.in_ok-area2.was)
