-- `checks::are_supplied`: the header texts in pairs, then the others.
use mathlib.Core.Path.{sym, ◌∙◌}
use Rattle.market.specs.Fields.{lent}
use Rattle.market.proofs.Answers.{supplied_by}
use Rattle.market.proofs.checks.are_supplied.Goals as goal

pub returns-then-are_headers : goal.returns-then-are_headers
returns-then-are_headers c =
    let both = sym (supplied_by (lent c.args.texts.now) c.args.codes) in
    sym (both ∙ rw (sym c.are_headers.ensures ∙ c.if-are_headers.true) (sym c.are_reason_time_codes.ensures))

pub returns-else-are_headers : goal.returns-else-are_headers
returns-else-are_headers c =
    let both = sym (supplied_by (lent c.args.texts.now) c.args.codes) in
    c.if-are_headers.false ∙ sym (both ∙ rw (sym c.are_headers.ensures ∙ c.if-are_headers.false))
