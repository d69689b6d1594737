-- `line::without_cr`: the last byte is a CR, or is none.
use borrow.Author.Rules.{rules}
use Rattle.text_log.proofs.Calls.{cr_empty, cr_dropped, cr_none}
use Rattle.text_log.proofs.line.without_cr.Goals as goal

pub returns-in-13 : goal.returns-in-13
returns-in-13 c = cr_dropped c.args.bytes.now (search rules)

pub returns-in_default : goal.returns-in_default
returns-in_default c = cr_empty c.args.bytes.now c.in_default.len_below

pub returns-in_default-2 : goal.returns-in_default-2
returns-in_default-2 c = cr_none c.args.bytes.now (search rules)
