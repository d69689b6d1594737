-- `line::put_line`: first day, D, L, the counts and the sum one after another.
use Rattle.line.specs.Line.{figures_text}
use Rattle.line.proofs.Putting.{then}
use Rattle.line.proofs.put_line.Goals as goal

pub returns : goal.returns
unfolding figures_text
returns c =
    then (then c.put_head-head.ensures c.put_counts-counts.ensures) c.put_field.ensures
