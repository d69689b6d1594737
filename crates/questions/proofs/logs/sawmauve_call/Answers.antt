-- `logs::sawmauve_call`: 2 for a list of another length; else what checking says, as numbers.
use Rattle.questions.proofs.Logging.{other_fields, fields_told}
use Rattle.questions.proofs.logs.sawmauve_call.Goals as goal

pub returns-then-fields-ne7 : goal.returns-then-fields-ne7
returns-then-fields-ne7 c = rw c.number.ensures (other_fields _ _ c.if-fields-ne7.true)

pub returns : goal.returns
returns c =
    fields_told _ _ c.if-fields-ne7.false _ c.line_of-found.ensures
    c.tell_line.ensures
