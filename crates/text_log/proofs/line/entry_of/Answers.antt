-- `line::entry_of`: the line without its CR, a comment, the longest line, its words.
use borrow.Author.Rules.{rules}
use mathlib.Core.Path.{◌∙◌}
use Rattle.text_log.proofs.Calls.{line_empty, line_comment, line_long, line_call}
use Rattle.text_log.proofs.line.entry_of.Goals as goal

pub returns-then-is_empty : goal.returns-then-is_empty
returns-then-is_empty c = c.bare.ensures ∙ line_empty c.args.bytes.now _ c.without_cr-line.ensures (search rules)

pub returns-then-line-eq35 : goal.returns-then-line-eq35
returns-then-line-eq35 c =
    c.bare-then-line-eq35.ensures ∙ line_comment c.args.bytes.now _ c.without_cr-line.ensures (search rules) c.if-line-eq35.true

pub returns-then-line-gt255 : goal.returns-then-line-gt255
returns-then-line-gt255 c =
    c.bare-then-line-gt255.ensures
    ∙ line_long c.args.bytes.now _ c.without_cr-line.ensures (search rules) c.if-line-eq35.false c.if-line-gt255.true

pub returns : goal.returns
returns c =
    c.words_entry.ensures
    ∙ line_call c.args.bytes.now _ c.without_cr-line.ensures (search rules) c.if-line-eq35.false c.if-line-gt255.false
