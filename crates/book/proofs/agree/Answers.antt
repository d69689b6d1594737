-- `agree`: 1 and 2 are looked for, and the rest is that of a value, 12.
use Rattle.base.specs.declared.Refusal.TheVariants.{WrongLength}
use mathlib.Core.Bool.{true}
use mathlib.Core.Path.{◌≡◌, refl, sym, ◌∙◌}
use Rattle.rules.specs.Opening.{head_ok, Agreed}
use Rattle.book.specs.Written.{written_agreed}
use Rattle.book.specs.Cells.{agreed_fits}
use Rattle.book.specs.Answers.{Answer}
use Rattle.book.specs.Answers.Answer.{refused}
use Rattle.book.specs.Filling.{agree_answer, agree_after}
use Rattle.book.specs.Inner.Numbers.{number_after}
use Rattle.book.proofs.Fits.{long}
use Rattle.book.proofs.Tested.{passes, fails, refused_2}
use Rattle.book.proofs.OneNumber.{agree_number}
use Rattle.book.proofs.agree.Goals as goal
use Rattle.book.proofs.agree.Goals.{After-agreed_fit, Else-not-head_ok, Start, Then-not-agreed_fit}

abbrev lent : Start → Agreed
lent c = written_agreed c.args.agreed.now

abbrev whole : Start → Answer
whole c = agree_answer c.args.head (lent (goal.at.Start c).Start) c.args.slot c.args.version c.args.value

head_passed : (c : Else-not-head_ok) → head_ok c.args.head ≡ true
head_passed c = passes c.head_ok.ensures c.if-not-head_ok.false

fits_told : (c : After-agreed_fit) → c.agreed_fit.result ≡ agreed_fits c.args.head (lent (goal.at.After-agreed_fit c).Start)
unfolding agreed_fits
fits_told c = c.agreed_fit.ensures

lists_broken : (c : Then-not-agreed_fit) → whole (goal.at.Then-not-agreed_fit c).Start ≡ refused WrongLength
unfolding agree_answer
lists_broken c = refused_2 _ _ _ _ (head_passed (goal.at.Then-not-agreed_fit c).Else-not-head_ok)
    (fails (fits_told (goal.at.Then-not-agreed_fit c).After-agreed_fit) c.if-not-agreed_fit.true)

pub returns-then-not-head_ok-clause-told : goal.returns-then-not-head_ok-clause-told
unfolding agree_answer agree_after
returns-then-not-head_ok-clause-told c = rw (fails c.head_ok.ensures c.if-not-head_ok.true) (refl, refl)

pub agreed_fit-requires : goal.agreed_fit-requires
agreed_fit-requires c = head_passed (goal.at.agreed_fit-requires c).Else-not-head_ok

pub returns-then-not-agreed_fit-clause-told : goal.returns-then-not-agreed_fit-clause-told
unfolding agree_after
returns-then-not-agreed_fit-clause-told c =
    rw (lists_broken (goal.at.returns-then-not-agreed_fit-clause-told c).Then-not-agreed_fit) (refl, refl)

pub file_number-requires : goal.file_number-requires
file_number-requires c =
    let fits = long _ _ (passes c.agreed_fit.ensures c.if-not-agreed_fit.false) in
    fits 1 ∙ sym (fits 0)

pub returns-clause-told : goal.returns-clause-told
unfolding agree_after number_after agreed_fits
returns-clause-told c =
    let a = c.args in
    let fit = passes (fits_told (goal.at.returns-clause-told c).After-agreed_fit) c.if-not-agreed_fit.false in
    let e = c.file_number.ensures.told in
    let good = head_passed (goal.at.returns-clause-told c).Else-not-head_ok in
    rw (agree_number a.head good (lent (goal.at.returns-clause-told c).Start) a.slot a.version a.value fit) e
