-- `number::date_of`: two dashes, and three numbers.
use mathlib.Core.Path.{sym, ◌∙◌}
use lib.Seq.{length-take-le}
use Rattle.text_log.proofs.Reading.{date_length, date_first, date_second, date_year, date_month, date_day, date_whole}
use borrow.Author.Rules.{rules}
use Rattle.text_log.proofs.number.date_of.Goals as goal

pub returns-then-word-ne10 : goal.returns-then-word-ne10
returns-then-word-ne10 c = sym (date_length _ c.if-word-ne10.true)

pub returns-then-word-ne45 : goal.returns-then-word-ne45
returns-then-word-ne45 c = sym (date_first _ c.if-word-ne10.false c.if-word-ne45.true)

pub returns-then-word-ne45-2 : goal.returns-then-word-ne45-2
returns-then-word-ne45-2 c = sym (date_second _ c.if-word-ne10.false c.if-word-ne45.false c.if-word-ne45-2.true)

pub slice_bounds-number_of-end : goal.slice_bounds-number_of-end
slice_bounds-number_of-end c = sym (length-take-le 4 c.args.word.now (search rules))

pub returns-in_err-year : goal.returns-in_err-year
returns-in_err-year c =
    c.from_residual.ensures
    ∙ sym (date_year _ c.if-word-ne10.false c.if-word-ne45.false c.if-word-ne45-2.false (sym c.number_of.ensures ∙ c.in_err-year.was))

pub returns-in_err-month : goal.returns-in_err-month
returns-in_err-month c =
    c.from_residual-in_err-month.ensures
    ∙ sym (date_month _ c.if-word-ne10.false c.if-word-ne45.false c.if-word-ne45-2.false
    _ (sym c.number_of.ensures ∙ c.in_ok-year.was)
    (sym c.number_of-2.ensures ∙ c.in_err-month.was))

pub returns-in_err-day : goal.returns-in_err-day
returns-in_err-day c =
    c.from_residual-in_err-day.ensures
    ∙ sym (date_day _ c.if-word-ne10.false c.if-word-ne45.false c.if-word-ne45-2.false
    _ (sym c.number_of.ensures ∙ c.in_ok-year.was)
    _ (sym c.number_of-2.ensures ∙ c.in_ok-month.was)
    (sym c.number_of-3.ensures ∙ c.in_err-day.was))

pub returns : goal.returns
returns c =
    sym (date_whole _ c.if-word-ne10.false c.if-word-ne45.false c.if-word-ne45-2.false
    _ (sym c.number_of.ensures ∙ c.in_ok-year.was)
    _ (sym c.number_of-2.ensures ∙ c.in_ok-month.was)
    _ (sym c.number_of-3.ensures ∙ c.in_ok-day.was))
