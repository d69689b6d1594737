-- `deliveries::delivery_at`: the line that such a keyword begins.
use Rattle.std.proofs.lemmas.Option.{IfSome_then}
use Rattle.text_log.proofs.OnePass.{delivery_of_lem}
use Rattle.text_log.proofs.deliveries.delivery_at.Goals as goal

pub returns : goal.returns
returns c = IfSome_then c.keyed_at.result c.keyed_at.ensures (delivery_of_lem c.args.bytes.now c.args.at)
