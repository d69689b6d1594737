-- `words::values_in`: the values of the words passed.
use borrow.Author.Rules.{rules}
use mathlib.Core.Path.{sym, ◌∙◌}
use native.Mathlib.Omega.{arith}
use lib.ListN.{length-replicate}
use Rattle.text_log.proofs.Fields.{known_first, known_short, known_not, known_next, known_over, known_all}
use Rattle.text_log.proofs.words.values_in.Goals as goal

pub loop-value-init : goal.loop-value-init
loop-value-init g c = known_first _ _ _ (length-replicate _ _)

pub loop-value-preserved : goal.loop-value-preserved
loop-value-preserved g c =
    known_next c.loop-value.invariant (omega arith) c.in_ok-word.word.now _ c.in_ok-word.ensures.0
    _ (sym c.number_of.ensures ∙ c.in_ok-value.was)

pub returns-in_err-word : goal.returns-in_err-word
returns-in_err-word g c = c.from_residual.ensures ∙ known_short c.loop-value.invariant (omega arith) c.in_err-word.ensures

pub returns-in_err-value : goal.returns-in_err-value
returns-in_err-value g c =
    c.from_residual-in_err-value.ensures
    ∙ known_not c.loop-value.invariant (omega arith) c.in_ok-word.word.now _ c.in_ok-word.ensures.0
    (sym c.number_of.ensures ∙ c.in_err-value.was)

pub returns-then-is_empty : goal.returns-then-is_empty
returns-then-is_empty g c = known_all c.loop-value.invariant (omega arith) (search rules)

pub returns-else-is_empty : goal.returns-else-is_empty
returns-else-is_empty g c = known_over c.loop-value.invariant (omega arith) (search rules)
