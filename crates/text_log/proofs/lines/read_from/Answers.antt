-- `lines::read_from`: the line cut out and read.
use Rattle.text_log.proofs.Cutting.{found_at}
use Rattle.text_log.proofs.lines.read_from.Goals as goal

pub returns : goal.returns
returns c = found_at c.line_at-cut.ensures _ c.line_of-line.ensures
