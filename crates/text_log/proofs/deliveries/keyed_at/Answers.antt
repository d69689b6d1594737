-- `deliveries::keyed_at`: the keyword, and its four numbers.
use Rattle.std.proofs.lemmas.Option.{IfSome_then}
use Rattle.text_log.proofs.deliveries.keyed_at.Goals as goal

pub returns : goal.returns
returns c =
    IfSome_then c.numbers_at.result c.numbers_at.ensures
    (λ r n. record { begins = c.is_delivery.ensures c.if-not-is_delivery.false; numbers = n })
