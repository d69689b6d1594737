-- Publishing comes last, and then refuses only for a short buffer.
use Rattle.base.specs.declared.Refusal.TheVariants.{ShortBuffer}
use Rattle.std.specs.Prelude.{Ok, Err}
use mathlib.Core.Bool.{true, cond}
use mathlib.Core.List.{List}
use mathlib.Core.Path.{◌≡◌}
use Prim.Native.Nat.{ℕ}
use lib.Dec.{ltb}
use lib.ListN.{length}
use Rattle.rules.specs.declared.Head.{Head}
use Rattle.rules.specs.Opening.{head_ok}
use Rattle.book.specs.Cells.{Book, book_fits, book_ok}
use Rattle.publishing.specs.Publishing.{file_length, publish_answer}

module _ (h : Head) (b : Book) (out : List ℕ) (good : head_ok h ≡ true) (fit : book_fits h b ≡ true) (ok : book_ok h b ≡ true) where
  pub answer_last : publish_answer h b out
      ≡ cond (ltb (length out) (file_length h b.cells)) (Err ShortBuffer) (Ok (file_length h b.cells))
  unfolding publish_answer
  answer_last = rw (good, fit, ok)
