-- `publish` refuses in the order of 01.
use mathlib.Core.Bool.{true}
use mathlib.Core.Path.{◌≡◌, sym, ◌∙◌}
use Rattle.rules.specs.Opening.{head_ok}
use Rattle.book.specs.Cells.{Book, book_fits}
use Rattle.book.specs.Lent.{book_in}
use Rattle.publishing.proofs.Publishing.{refused_1, refused_2}
use Rattle.publishing.proofs.publish.Goals as goal
use Rattle.publishing.proofs.publish.Goals.{Else-not-head_ok, Else-not-lists_fit, Start}

abbrev lent : Start → Book
lent c =
    book_in c.args.book.now

head_passed : (c : Else-not-head_ok) → head_ok c.args.head ≡ true
head_passed c = sym c.head_ok.ensures ∙ c.if-not-head_ok.false

lists_passed : (c : Else-not-lists_fit) → book_fits c.args.head (lent (goal.at.Else-not-lists_fit c).Start) ≡ true
lists_passed c = sym c.lists_fit.ensures ∙ c.if-not-lists_fit.false

pub returns-then-not-head_ok : goal.returns-then-not-head_ok
returns-then-not-head_ok c =
    refused_1 c.args.head (lent (goal.at.returns-then-not-head_ok c).Start) c.args.out.now (sym c.head_ok.ensures ∙ c.if-not-head_ok.true)

pub lists_fit-requires : goal.lists_fit-requires
lists_fit-requires c = head_passed (goal.at.lists_fit-requires c).Else-not-head_ok

pub returns-then-not-lists_fit : goal.returns-then-not-lists_fit
returns-then-not-lists_fit c =
    refused_2 c.args.head (lent (goal.at.returns-then-not-lists_fit c).Start) c.args.out.now
    (head_passed (goal.at.returns-then-not-lists_fit c).Else-not-head_ok)
    (sym c.lists_fit.ensures ∙ c.if-not-lists_fit.true)

pub put_fitted-requires : goal.put_fitted-requires
put_fitted-requires c = (
  head_passed (goal.at.put_fitted-requires c).Else-not-head_ok,
  lists_passed
      (goal.at.put_fitted-requires c).Else-not-lists_fit,
)

pub returns : goal.returns
returns c = c.put_fitted.ensures
