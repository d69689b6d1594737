-- `headers::put_100` meets its contract.
use native.Mathlib.Omega.{arith}
use lib.ListN.{length-take}
use Rattle.market.specs.Fields.{fields}
use Rattle.market.specs.Records.{record100}
use Rattle.line.proofs.Putting.{then}
use Rattle.market.proofs.headers.put_100.Goals as goal

pub slice_bounds-put_field-end : goal.slice_bounds-put_field-end
slice_bounds-put_field-end c = simp length-take (omega (arith, c.requires))

pub returns : goal.returns
unfolding record100 fields
returns c =
    then c.put_text-head.ensures
    (then c.put_field-time.ensures
    (then c.put_field-sender.ensures (then c.put_field-receiver.ensures c.put_text.ensures)))
