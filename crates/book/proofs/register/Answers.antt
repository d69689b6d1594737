-- `register`: 1 and 2 are looked for, and the rest is that of `file_register`.
use Rattle.base.specs.declared.Refusal.TheVariants.{WrongLength}
use mathlib.Core.Bool.{true}
use mathlib.Core.Path.{◌≡◌, refl, sym, ◌∙◌}
use Rattle.rules.specs.Opening.{head_ok}
use Rattle.book.specs.Written.{written_reads}
use Rattle.book.specs.Cells.{Reads, reads_fit}
use Rattle.book.specs.Answers.{Answer}
use Rattle.book.specs.Answers.Answer.{refused}
use Rattle.book.specs.Filling.{register_answer, register_after}
use Rattle.book.specs.Inner.Numbers.{read_after}
use Rattle.book.proofs.Fits.{long}
use Rattle.book.proofs.Tested.{passes, fails, refused_2}
use Rattle.book.proofs.OneNumber.{register_read}
use Rattle.book.proofs.register.Goals as goal
use Rattle.book.proofs.register.Goals.{After-reads_fit, Else-not-head_ok, Start, Then-not-reads_fit}

abbrev lent : Start → Reads
lent c = written_reads c.args.reads.now

abbrev whole : Start → Answer
whole c = register_answer c.args.head (lent (goal.at.Start c).Start) c.args.boundary c.args.version c.args.reading c.args.width

head_passed : (c : Else-not-head_ok) → head_ok c.args.head ≡ true
head_passed c = passes c.head_ok.ensures c.if-not-head_ok.false

fits_told : (c : After-reads_fit) → c.reads_fit.result ≡ reads_fit c.args.head (lent (goal.at.After-reads_fit c).Start)
unfolding reads_fit
fits_told c = c.reads_fit.ensures

lists_broken : (c : Then-not-reads_fit) → whole (goal.at.Then-not-reads_fit c).Start ≡ refused WrongLength
unfolding register_answer
lists_broken c = refused_2 _ _ _ _ (head_passed (goal.at.Then-not-reads_fit c).Else-not-head_ok)
    (fails (fits_told (goal.at.Then-not-reads_fit c).After-reads_fit) c.if-not-reads_fit.true)

pub returns-then-not-head_ok-clause-told : goal.returns-then-not-head_ok-clause-told
unfolding register_answer register_after
returns-then-not-head_ok-clause-told c = rw (fails c.head_ok.ensures c.if-not-head_ok.true) (refl, refl)

pub returns-then-not-reads_fit-clause-told : goal.returns-then-not-reads_fit-clause-told
unfolding register_after
returns-then-not-reads_fit-clause-told c =
    rw (lists_broken (goal.at.returns-then-not-reads_fit-clause-told c).Then-not-reads_fit) (refl, refl)

pub file_register-requires : goal.file_register-requires
file_register-requires c =
    let fits = long _ _ (passes c.reads_fit.ensures c.if-not-reads_fit.false) in
    (fits 1 ∙ sym (fits 0), fits 2 ∙ sym (fits 0))

pub returns-clause-told : goal.returns-clause-told
unfolding register_after read_after reads_fit
returns-clause-told c =
    let a = c.args in
    let fit = passes (fits_told (goal.at.returns-clause-told c).After-reads_fit) c.if-not-reads_fit.false in
    let e = c.file_register.ensures.told in
    let good = head_passed (goal.at.returns-clause-told c).Else-not-head_ok in
    rw (register_read a.head good (lent (goal.at.returns-clause-told c).Start) a.boundary a.version a.reading a.width fit) e
