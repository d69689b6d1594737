-- `holiday`: the first broken rule is given; else the answer is that of `against_day`, and a stored holiday writes 1.
use Rattle.base.specs.declared.Refusal.TheVariants.{WrongLength}
use mathlib.Core.Bool.{true}
use mathlib.Core.List.{List}
use mathlib.Core.Path.{◌≡◌, refl, sym, ◌∙◌}
use Prim.Native.Nat.{ℕ, ◌<◌, ◌≤◌}
use native.Mathlib.Omega.{arith}
use lib.ListN.{length, get_or, drop}
use borrow.Author.Tests.{le-leb, lt-leb}
use Rattle.base.specs.Refusals.{unless}
use Rattle.rules.specs.Opening.{head_ok}
use Rattle.book.specs.Answers.{Answer, received_meant}
use Rattle.book.specs.Answers.Answer.{refused}
use Rattle.book.specs.Arguments.{argument_rules}
use Rattle.book.specs.Arguments.Call.{holiday}
use Rattle.book.specs.Cells.{days_fit}
use Rattle.book.specs.Filling.{input_rules, against_day, holiday_answer, holiday_after}
use Rattle.book.proofs.Fits.{long}
use Rattle.book.proofs.Tested.{passes, fails, refused_2, past_both}
use Rattle.book.proofs.holiday.Goals as goal
use Rattle.book.proofs.holiday.Goals.{After-against_day-found, After-days_fit, Else-head-day, Else-not-days_fit, Else-not-head_ok, Start}
use Rattle.book.proofs.holiday.Goals.{Then-not-days_fit}

abbrev lent : Start → List ℕ
lent c = c.args.holidays.now

-- the answer, and what is left of it past the first k rules
abbrev whole : Start → Answer
whole c = holiday_answer c.args.head (lent (goal.at.Start c).Start) c.args.day

abbrev past : ℕ → Start → Answer
past k c =
    unless refused (drop k (input_rules c.args.head (days_fit c.args.head (lent (goal.at.Start c).Start)) (holiday c.args.day)))
    (against_day (get_or (lent (goal.at.Start c).Start) c.args.day 0))

head_passed : (c : Else-not-head_ok) → head_ok c.args.head ≡ true
head_passed c = passes c.head_ok.ensures c.if-not-head_ok.false

fits_told : (c : After-days_fit) → c.days_fit.result ≡ days_fit c.args.head (lent (goal.at.After-days_fit c).Start)
unfolding days_fit
fits_told c = c.days_fit.ensures

lists_broken : (c : Then-not-days_fit) → whole (goal.at.Then-not-days_fit c).Start ≡ refused WrongLength
unfolding holiday_answer
lists_broken c = refused_2 _ _ _ _ (head_passed (goal.at.Then-not-days_fit c).Else-not-head_ok)
    (fails (fits_told (goal.at.Then-not-days_fit c).After-days_fit) c.if-not-days_fit.true)

past_2 : (c : Else-not-days_fit) → whole (goal.at.Else-not-days_fit c).Start ≡ past 2 (goal.at.Else-not-days_fit c).Start
unfolding holiday_answer
past_2 c = past_both _ _ _ _ (head_passed (goal.at.Else-not-days_fit c).Else-not-head_ok)
    (passes (fits_told (goal.at.Else-not-days_fit c).After-days_fit) c.if-not-days_fit.false)

under : (c : Else-head-day) → c.args.day < c.args.head.days
under c = omega (arith, c.if-head-day.false)

past_3 : (c : Else-head-day) → whole (goal.at.Else-head-day c).Start ≡ past 3 (goal.at.Else-head-day c).Start
unfolding argument_rules
past_3 c = past_2 (goal.at.Else-head-day c).Else-not-days_fit ∙ rw (lt-leb _ _ (under (goal.at.Else-head-day c).Else-head-day))

inside : (c : Else-head-day) → c.args.day < length (lent (goal.at.Else-head-day c).Start)
inside c =
    let fits = long _ _ (passes c.days_fit.ensures c.if-not-days_fit.false) in
    let less = under (goal.at.Else-head-day c).Else-head-day in
    omega (arith, fits 0)

-- what `against_day` found is the answer
found : (c : After-against_day-found) → whole (goal.at.After-against_day-found c).Start ≡ received_meant c.against_day-found.result
unfolding argument_rules
found c = past_3 (goal.at.After-against_day-found c).Else-head-day ∙ sym c.against_day-found.ensures

pub returns-then-not-head_ok : goal.returns-then-not-head_ok
unfolding holiday_answer holiday_after
returns-then-not-head_ok c = rw (fails c.head_ok.ensures c.if-not-head_ok.true) (refl, refl)

pub returns-then-not-days_fit : goal.returns-then-not-days_fit
unfolding holiday_after
returns-then-not-days_fit c = rw (lists_broken (goal.at.returns-then-not-days_fit c).Then-not-days_fit) (refl, refl)

pub returns-then-head-day : goal.returns-then-head-day
unfolding holiday_after argument_rules
returns-then-head-day c =
    let over : c.args.head.days ≤ c.args.day = omega (arith, c.if-head-day.true) in
    rw (past_2 (goal.at.returns-then-head-day c).Else-not-days_fit, le-leb _ _ over) (refl, refl)

pub bounds-holidays-at : goal.bounds-holidays-at
bounds-holidays-at c = omega (arith, inside (goal.at.bounds-holidays-at c).Else-head-day)

pub bounds-holidays-at-then-is_stored : goal.bounds-holidays-at-then-is_stored
bounds-holidays-at-then-is_stored c = omega (arith, inside (goal.at.bounds-holidays-at-then-is_stored c).Else-head-day)

pub returns-then-is_stored : goal.returns-then-is_stored
unfolding holiday_after
returns-then-is_stored c = rw (
  found (goal.at.returns-then-is_stored c).After-against_day-found,
  sym c.is_stored.ensures ∙
      c.if-is_stored.true,
) (refl, refl)

pub returns-else-is_stored : goal.returns-else-is_stored
unfolding holiday_after
returns-else-is_stored c = rw (
  found (goal.at.returns-else-is_stored c).After-against_day-found,
  sym c.is_stored.ensures ∙
      c.if-is_stored.false,
) (refl, refl)
