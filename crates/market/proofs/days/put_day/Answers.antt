-- `days::put_day` meets its contract.
use Rattle.file.specs.Reader.{slot_at}
use Rattle.market.specs.Fields.{mark_of}
use Rattle.line.proofs.Putting.{then, same}
use Rattle.market.proofs.Joining.{day_alike, day_varies}
use Rattle.market.proofs.days.put_day.Goals as goal

pub returns-then-one : goal.returns-then-one
returns-then-one c =
    let a = c.args in
    same (day_alike (λ i. mark_of a.codes (slot_at a.file.now i)) a.day.from a.day.slots a.texts.now.reason.now a.texts.now.created.now
    a.day.number (λ i. (slot_at a.file.now i).value) _ _ c.are_all_alike-one.ensures
    c.day_mark-mark.ensures c.if-one.true) c.put_300-next.ensures

pub returns : goal.returns
returns c =
    let a = c.args in
    same (day_varies (λ i. mark_of a.codes (slot_at a.file.now i)) a.day.from a.day.slots a.texts.now.reason.now a.texts.now.created.now
    a.day.number (λ i. (slot_at a.file.now i).value) _ _ c.are_all_alike-one.ensures
    c.day_mark-mark.ensures c.if-one.false) (then
    c.put_300-next.ensures c.put_runs.ensures)
