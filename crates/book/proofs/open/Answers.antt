-- `open`: the first broken rule is given; the ten clears leave zeros of the right lengths.
use mathlib.Core.List.{List}
use mathlib.Core.Bool.{true, false}
use mathlib.Core.Path.{◌≡◌, refl, sym, ap, ◌∙◌}
use Prim.Native.Nat.{ℕ}
use lib.ListN.{replicate}
use Rattle.book.specs.Cells.{slots_fit, days_fit, reads_fit, agreed_fits, cells_fit, counts_fit, book_fits}
use Rattle.book.specs.Written.{written_book}
use Rattle.book.specs.Opening.{opened, open_answer, open_after}
use Rattle.book.proofs.Fits.{lengths_of, fits_of}
use Rattle.book.proofs.Cleared.{opened_lists}
use Rattle.book.proofs.open.Goals as goal

pub returns-then-not-head_ok-clause-told : goal.returns-then-not-head_ok-clause-told
unfolding open_answer open_after
returns-then-not-head_ok-clause-told c = rw (sym c.head_ok.ensures ∙ c.if-not-head_ok.true) (refl, refl)

pub lists_fit-fit-requires : goal.lists_fit-fit-requires
lists_fit-fit-requires c = sym c.head_ok.ensures ∙ c.if-not-head_ok.false

pub returns-then-not-fit-clause-told : goal.returns-then-not-fit-clause-told
unfolding open_answer open_after cells_fit slots_fit days_fit reads_fit agreed_fits counts_fit book_fits
returns-then-not-fit-clause-told c =
    let a = c.args in
    let broken : book_fits a.head (written_book a.book.now) ≡ false =
    ap (book_fits a.head) (sym c.as_book.ensures) ∙ sym c.lists_fit-fit.ensures ∙ c.if-not-fit.true in
    rw (sym c.head_ok.ensures ∙ c.if-not-head_ok.false, broken)
    (refl, refl)

pub returns-clause-told : goal.returns-clause-told
unfolding open_answer open_after cells_fit slots_fit days_fit reads_fit agreed_fits counts_fit book_fits opened
returns-clause-told c =
    let a = c.args in
    let lent = written_book a.book.now in
    let fit : book_fits a.head lent ≡ true = ap (book_fits a.head) (sym c.as_book.ensures)
    ∙ sym c.lists_fit-fit.ensures ∙ c.if-not-fit.false in
    let fits = fits_of a.head lent fit in
    let long = lengths_of a.head lent.cells fits.0 in
    let zeros : ℕ → List ℕ = λ n. replicate n 0 in
    rw (sym c.head_ok.ensures ∙ c.if-not-head_ok.false, fit) (
      refl,
      opened_lists a.head
          (c.fill.ensures.after (λ y e. e) ∙ ap zeros long.values)
          (c.fill-2.ensures.after (λ y e. e) ∙ ap zeros long.versions)
          (c.fill-3.ensures.after (λ y e. e) ∙ ap zeros long.statuses)
          (c.fill-4.ensures.after (λ y e. e) ∙ ap zeros long.holidays)
          (c.fill-5.ensures.after (λ y e. e) ∙ ap zeros long.readings)
          (c.fill-6.ensures.after (λ y e. e) ∙ ap zeros long.read_versions)
          (c.fill-7.ensures.after (λ y e. e) ∙ ap zeros long.agreed)
          (c.fill-8.ensures.after (λ y e. e) ∙ ap zeros long.agreed_versions)
          (c.fill-9.ensures.after (λ y e. e) ∙ ap zeros fits.1)
          (c.fill-10.ensures.after (λ y e. e) ∙ ap zeros long.widths),
    )
