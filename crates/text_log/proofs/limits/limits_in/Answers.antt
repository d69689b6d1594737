-- `limits::limits_in`: the numbers passed stand in front of zeros, and the words left follow.
use mathlib.Core.Path.{sym, ◌∙◌}
use Rattle.text_log.proofs.Tables.{none_passed, passed_too_many, passed_not, passed_next, passed_none, passed_all}
use Rattle.text_log.proofs.limits.limits_in.Goals as goal

pub words-init : goal.words-init
words-init c = none_passed _

pub returns-then-count-eq24 : goal.returns-then-count-eq24
returns-then-count-eq24 c = passed_too_many _ _ _ _ _ _ c.words.invariant c.in-Some.ensures.0 c.if-count-eq24.true

pub returns-in_err-values : goal.returns-in_err-values
returns-in_err-values c =
    c.from_residual.ensures
    ∙ passed_not _ _ _ _ _ _ c.words.invariant c.in-Some.ensures.0 (sym c.number_of.ensures ∙ c.in_err-values.was)

pub words-preserved : goal.words-preserved
words-preserved c =
    passed_next _ _ _ _ _ _ c.words.invariant c.in-Some.ensures.0 c.if-count-eq24.false _ (sym c.number_of.ensures ∙ c.in_ok-values.was)

pub returns-then-count-eq0 : goal.returns-then-count-eq0
returns-then-count-eq0 c = passed_none _ _ _ _ c.words.invariant c.in_default.ensures c.if-count-eq0.true

pub returns : goal.returns
returns c = passed_all _ _ _ _ c.words.invariant c.in_default.ensures c.if-count-eq0.false
