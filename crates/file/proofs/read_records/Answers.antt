use Rattle.std.proofs.Common.{rules}
use Rattle.file.proofs.FileLaws.{records-read}
use Rattle.file.proofs.read_records.Goals as goal

pub returns : goal.returns
returns c = search (rules, records-read, c.in_ok-end.was)
