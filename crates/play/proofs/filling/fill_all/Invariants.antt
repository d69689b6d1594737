-- `filling::fill_all`: before each line, what is still to come from the present lists completes what was told.
use mathlib.Core.List.{List}
use Rattle.rules.specs.declared.Head.{Head}
use Rattle.book.specs.declared.lent.BookMut.{BookMut}
use Rattle.book.specs.Written.{written_book, SameBook}
use Rattle.play.proofs.Walking.{Walked}
use mathlib.Core.Path.{◌≡◌}
use Prim.Native.Nat.{ℕ}
use lib.ListN.{length}
use Rattle.play.proofs.filling.fill_all.Given as goal

pub record Held (log : List ℕ) (head : Head) (book₀ : BookMut) (answers₀ : List ℕ) (book : BookMut) (answers : List ℕ) (at i : ℕ)
    : Type 0 where
  pub walked : Walked head log (written_book book₀) answers (written_book book) at i
  pub same : SameBook book₀ book
  pub long_answers : length answers ≡ length answers₀

abbrev pub invariant-loop-i : goal.invariant-loop-i
invariant-loop-i l = Held l.log l.head l.initial.book l.initial.answers l.book l.answers l.at l.i
