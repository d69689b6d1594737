-- `sending::send`: a lost slot leaves the lists, another is delivered.
use Rattle.berth.specs.Inner.Sending.{sent_one}
use Rattle.berth.proofs.sending.send.Goals as goal

pub returns-then-berth-clause-told : goal.returns-then-berth-clause-told
unfolding sent_one
returns-then-berth-clause-told c = rw c.if-berth.true

pub returns-clause-told : goal.returns-clause-told
unfolding sent_one
returns-clause-told c =
    let e = c.deliver.ensures.told in
    rw c.if-berth.false (λ t. record { slots = e.1 t; counts = e.2 t })
