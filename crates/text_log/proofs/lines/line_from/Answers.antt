-- `lines::line_from`: a delivery in one pass, or the line cut out and read.
use Rattle.text_log.proofs.OnePass.{delivery_found}
use Rattle.text_log.proofs.lines.line_from.Goals as goal

pub returns : goal.returns
returns c = delivery_found _ _ _ c.in-Some.ensures
