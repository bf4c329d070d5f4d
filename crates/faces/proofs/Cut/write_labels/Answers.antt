use Rattle.std.proofs.Common.{rules}
use Rattle.faces.proofs.LabelLaws.{labelled_more}
use Rattle.faces.proofs.Cut.write_labels.Goals as goal

pub loop-i-preserved : goal.loop-i-preserved
loop-i-preserved c = search (rules, labelled_more)
