-- `file::counting::with_substituted`: S has its form by its method.
use Rattle.file.proofs.Counts.{met_substituted}
use Rattle.file.proofs.counting.with_substituted.Goals as goal
use Rattle.file.proofs.counting.with_substituted.Goals.{then-found, else-found}

pub returns : goal.returns
returns c =
    met_substituted c.args.found c.args.slot c.requires.1 c.if-found.result
    (elim c.if-found.branch [
      | then-found w ↦ rw (w.result-is, w.is_filling.ensures, w.if-found.true)
      | else-found w ↦ rw (w.result-is, w.if-found.false)
    ])
