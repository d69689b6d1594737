-- `calls::make`: the call of each kind is lent its own lists, and the others stay.
use borrow.Author.Rules.{rules}
use Rattle.book.proofs.EachCall.{slots_are, reads_are, agreed_are, delivered, named, registered, settled}
use Rattle.book.proofs.calls.make.Goals as goal

pub returns-in-Delivery-clause-told : goal.returns-in-Delivery-clause-told
returns-in-Delivery-clause-told c =
    let e = c.deliver.ensures.told in
    delivered _ _ _ _ _ _ _ _ _ _ _ _ _ c.in-Delivery.is e.0
    (slots_are c.deliver.new.slots (search rules) (search rules) (search rules) e.1) e.2

pub returns-in-Holiday-clause-told : goal.returns-in-Holiday-clause-told
returns-in-Holiday-clause-told c = let e = c.holiday.ensures in named _ _ _ _ _ _ _ c.in-Holiday.is e.0 e.1

pub returns-in-Register-clause-told : goal.returns-in-Register-clause-told
returns-in-Register-clause-told c =
    let e = c.register.ensures.told in
    registered _ _ _ _ _ _ _ _ _ _ _ _ c.in-Register.is e.0
    (reads_are c.register.new.reads (search rules) (search rules) (search rules) e.1)

pub returns-in-Agreed-clause-told : goal.returns-in-Agreed-clause-told
returns-in-Agreed-clause-told c =
    let e = c.agree.ensures.told in
    settled _ _ _ _ _ _ _ _ _ _ c.in-Agreed.is e.0 (agreed_are c.agree.new.agreed (search rules) (search rules) e.1)
