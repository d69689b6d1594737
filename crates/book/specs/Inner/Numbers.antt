-- An agreed call and a register read in the lists of their places: the rules from their own arguments, then the cell.
use Rattle.base.specs.declared.Refusal.TheVariants.{NoPlace, VersionZero, ReadingOver, AgreedOver, WidthOver}
use Rattle.std.specs.Prelude.{[], ◌∷◌, ℕ, leb, ltb, eqb, length, get_or}
use Rattle.base.specs.Numbers.{eight_digits}
use Rattle.base.specs.Refusals.{unless}
use Rattle.base.specs.Refusals.Rule.{rule}
use Rattle.rules.specs.Opening.{Agreed}
use Rattle.rules.specs.Numbers.{most_width}
use Rattle.book.specs.Answers.{Answer}
use Rattle.book.specs.Answers.Answer.{refused}
use Rattle.book.specs.Cells.{Reads}
use Rattle.book.specs.Filling.{against_boundary, against_agreed, stored_in}
use Rattle.book.specs.Contents.{dial_read, read_at}

unfoldable pub number_answer : Agreed → ℕ → ℕ → ℕ → Answer
number_answer a place version number =
    unless refused
    (rule NoPlace (leb (length a.values) place) ∷ rule VersionZero (eqb version 0) ∷ rule AgreedOver (ltb eight_digits number) ∷ [])
    (against_agreed (get_or a.versions place 0) (get_or a.values place 0) version number)

unfoldable pub number_after : Agreed → ℕ → ℕ → ℕ → Agreed
number_after a place version number = record {
  values = stored_in (number_answer a place version number) a.values place number;
  versions = stored_in (number_answer a place version number) a.versions place version;
}

-- a register read, with its width (02, W10)
unfoldable pub read_answer : Reads → ℕ → ℕ → ℕ → ℕ → Answer
read_answer r boundary version reading width =
    unless refused
    (rule NoPlace (leb (length r.readings) boundary)
    ∷ rule VersionZero (eqb version 0)
    ∷ rule ReadingOver (ltb eight_digits reading)
    ∷ rule WidthOver (ltb most_width width)
    ∷ [])
    (against_boundary (get_or r.read_versions boundary 0) (read_at r boundary) version (dial_read reading width))

unfoldable pub read_after : Reads → ℕ → ℕ → ℕ → ℕ → Reads
read_after r boundary version reading width = record {
  readings = stored_in (read_answer r boundary version reading width) r.readings boundary reading;
  read_versions = stored_in (read_answer r boundary version reading width) r.read_versions boundary version;
  widths = stored_in (read_answer r boundary version reading width) r.widths boundary width;
}
