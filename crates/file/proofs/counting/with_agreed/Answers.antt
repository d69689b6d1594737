-- `file::counting::with_agreed`: F counts with S and by itself, and the highest value stands for them all.
use Rattle.file.proofs.Counts.{met_agreed, high_both}
use Rattle.file.proofs.counting.with_agreed.Goals as goal
use Rattle.file.proofs.counting.with_agreed.Goals.{then-found, else-found}

pub returns : goal.returns
returns c =
    met_agreed c.args.found c.args.slot c.requires.1 c.if-found.result
    (elim c.if-found.branch [
      | then-found w ↦ rw (w.result-is, w.if-found.true)
      | else-found w ↦ rw (w.result-is, w.if-found.false)
    ])
    c.max.result (rw c.max.ensures (high_both _ _ _))
