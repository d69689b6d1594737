-- `line::put_figures`: the figures, and the line's end.
use Rattle.line.proofs.Putting.{then}
use Rattle.line.proofs.put_figures.Goals as goal

pub returns : goal.returns
returns c =
    let line-put = c.put_line-end in
    then line-put.ensures c.put_text.ensures
