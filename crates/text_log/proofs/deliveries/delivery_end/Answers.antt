-- `deliveries::delivery_end`: the same line, of which the end alone is told.
use mathlib.Core.Path.{refl}
use Rattle.text_log.proofs.OnePass.{delivery_of_lem}
use Rattle.text_log.proofs.deliveries.delivery_end.Goals as goal

pub returns : goal.returns
returns c = record {
  delivery = _;
  line = delivery_of_lem c.args.bytes.now c.args.at _ c.in_ok-delivery.ensures;
  ends = refl;
}
