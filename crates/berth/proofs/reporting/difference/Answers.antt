-- `reporting::difference` computes with signed numbers what the specification says.
use Rattle.berth.proofs.Differences.{minus_fits, minus_read}
use Rattle.berth.proofs.reporting.difference.Goals as goal

pub overflow_sub-result : goal.overflow_sub-result
overflow_sub-result c = minus_fits c.args.published c.args.truth c.requires.0 c.requires.1

pub returns : goal.returns
returns c = minus_read c.args.published c.args.truth c.requires.0 c.requires.1
