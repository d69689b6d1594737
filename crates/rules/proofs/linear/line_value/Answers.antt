-- `linear::line_value` computes with signed numbers what the specification says.
use Rattle.rules.proofs.Floors.{value_whole, value_line}
use Rattle.rules.proofs.linear.line_value.Goals as goal

pub overflow_cast-result : goal.overflow_cast-result
overflow_cast-result c = value_whole c.args.line c.requires _ c.floor_over.ensures

pub returns : goal.returns
returns c = value_line c.args.line c.requires _ c.floor_over.ensures
