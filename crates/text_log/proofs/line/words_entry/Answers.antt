-- `line::words_entry`: `limits`, or a call.
use mathlib.Core.Path.{ap, ◌∙◌}
use Rattle.text_log.specs.Line.{bare}
use Rattle.text_log.proofs.Calls.{same_is, entry_table, entry_bare}
use Rattle.text_log.proofs.line.words_entry.Goals as goal

pub returns-then-eq : goal.returns-then-eq
returns-then-eq c =
    c.limits_entry.ensures ∙ entry_table _ _ _ c.cut.ensures.pieces (same_is _ _ _ c.as_slice.ensures c.eq.ensures c.if-eq.true)

pub returns : goal.returns
returns c =
    c.bare.ensures ∙ ap bare c.call_of.ensures
    ∙ entry_bare _ _ _ c.cut.ensures.pieces (same_is _ _ _ c.as_slice.ensures c.eq.ensures c.if-eq.false)
