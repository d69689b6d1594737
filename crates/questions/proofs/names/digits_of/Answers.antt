-- `names::digits_of`: a date has eight digits.
use native.Mathlib.Omega.{arith}
use Rattle.questions.proofs.Dating.{date_bounds, month_at_most, no_day, day_told}
use Rattle.questions.proofs.names.digits_of.Goals as goal

pub returns-then-day-ge-DAY_COUNT : goal.returns-then-day-ge-DAY_COUNT
returns-then-day-ge-DAY_COUNT c = no_day _ (omega arith)

pub overflow_mul-result : goal.overflow_mul-result
overflow_mul-result c = let b = date_bounds _ _ (omega arith) c.date_of-date.ensures in omega arith

pub overflow_mul-result-2 : goal.overflow_mul-result-2
overflow_mul-result-2 c = let b = date_bounds _ _ (omega arith) c.date_of-date.ensures in omega arith

pub overflow_add-result : goal.overflow_add-result
overflow_add-result c = let b = date_bounds _ _ (omega arith) c.date_of-date.ensures in omega arith

pub overflow_add-result-2 : goal.overflow_add-result-2
overflow_add-result-2 c =
    let b = date_bounds _ _ (omega arith) c.date_of-date.ensures in
    omega (arith, month_at_most c.date_of-date.result.year c.date_of-date.result.month)

pub returns : goal.returns
returns c = day_told _ (omega arith) _ c.date_of-date.ensures
