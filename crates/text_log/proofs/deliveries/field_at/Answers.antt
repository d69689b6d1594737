-- `deliveries::field_at`: digits, and the separator after them.
use native.Mathlib.Omega.{arith}
use Rattle.text_log.proofs.OnePass.{field_of}
use Rattle.text_log.proofs.deliveries.field_at.Goals as goal

pub returns : goal.returns
returns c =
    let digits = c.digits_at-value.ensures in
    field_of digits c.if-end-from.false (omega (arith, digits.near, c.requires)) c.if-bytes-end.false
