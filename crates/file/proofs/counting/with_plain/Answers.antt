-- `file::counting::with_plain`: (A,0) has its form and counts as A.
use Rattle.file.proofs.Counts.{met_plain}
use Rattle.file.proofs.counting.with_plain.Goals as goal

pub returns : goal.returns
returns c = met_plain c.args.found c.args.slot c.requires.1
