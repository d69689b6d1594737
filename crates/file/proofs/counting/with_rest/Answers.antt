-- `file::counting::with_rest`: (A,1) has its form, and A counts.
use Rattle.file.proofs.Counts.{met_rest, as_number}
use Rattle.file.proofs.counting.with_rest.Goals as goal
use Rattle.file.proofs.counting.with_rest.Goals.{then-found, else-found}

pub returns : goal.returns
returns c =
    met_rest c.args.found c.args.slot c.requires.1 c.if-found.result
    (elim c.if-found.branch [
      | then-found w ↦ rw (w.result-is, w.is_zero.ensures, w.if-found.true)
      | else-found w ↦ rw (w.result-is, w.if-found.false)
    ])
    _ (as_number _)
