-- `file::counting::with_none`: (N,0) with value 0 has its form, and N counts by itself.
use Rattle.file.proofs.Counts.{met_none}
use Rattle.file.proofs.counting.with_none.Goals as goal
use Rattle.file.proofs.counting.with_none.Goals.{then-found, else-found}

pub returns : goal.returns
returns c =
    met_none c.args.found c.args.slot c.requires.1 c.if-found.result
    (elim c.if-found.branch [
      | then-found w ↦ rw (w.result-is, w.is_zero.ensures, w.if-found.true)
      | else-found w ↦ rw (w.result-is, w.if-found.false)
    ])
