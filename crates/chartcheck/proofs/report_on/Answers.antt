use Rattle.std.proofs.Common.{rules}
use Rattle.chartcheck.proofs.ReportLaws.{file-taken}
use Rattle.chartcheck.proofs.report_on.Goals as goal

pub returns : goal.returns
returns c = search (rules, file-taken, c.in_ok-n.was)
