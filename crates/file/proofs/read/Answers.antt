-- `file::read`: the trailer first, then what one pass over the slots has, the tables and the figures.
use mathlib.Core.Bool.{true}
use mathlib.Core.List.{List}
use mathlib.Core.Path.{◌≡◌, sym, ap, ◌∙◌}
use Prim.Native.Nat.{ℕ}
use native.Mathlib.Omega.{arith}
use Rattle.file.specs.declared.Figures.{Figures}
use Rattle.file.specs.Reader.{file_slots, trailer_ok, tables_ok, figures_ok}
use Rattle.file.specs.Inner.Reading.{Ready, met_by, counted_in}
use Rattle.file.proofs.Answers.{ready, refused_short, refused_8, refused_tables, refused_figures, accepted_with}
use Rattle.file.proofs.Counts.{figures_counted}
use Rattle.file.proofs.read.Goals as goal
use Rattle.file.proofs.read.Goals.{After-figures_ok, After-totals-found, After-trailer_ok, Else-not-tables_ok, Else-not-trailer_ok}

abbrev bytes : After-trailer_ok → List ℕ
bytes c = c.args.file.now

abbrev figures : After-trailer_ok → Figures
figures c = c.figures_at-g.result

trailer_passed : (c : Else-not-trailer_ok) → trailer_ok (bytes (goal.at.Else-not-trailer_ok c).After-trailer_ok)
    (figures (goal.at.Else-not-trailer_ok c).After-trailer_ok) ≡ true
trailer_passed c = sym c.trailer_ok.ensures ∙ c.if-not-trailer_ok.false

is_ready : (c : Else-not-trailer_ok) → Ready (bytes (goal.at.Else-not-trailer_ok c).After-trailer_ok)
    (figures (goal.at.Else-not-trailer_ok c).After-trailer_ok)
is_ready c = ready (bytes (goal.at.Else-not-trailer_ok c).After-trailer_ok) (figures (goal.at.Else-not-trailer_ok c).After-trailer_ok)
    (trailer_passed (goal.at.Else-not-trailer_ok c).Else-not-trailer_ok)

counted : (c : After-totals-found) → met_by c.totals-found.result ≡ counted_in (bytes (goal.at.After-totals-found c).After-trailer_ok)
    (file_slots (figures (goal.at.After-totals-found c).After-trailer_ok))
counted c = c.totals-found.ensures ∙ ap (counted_in (bytes (goal.at.After-totals-found c).After-trailer_ok)) c.slot_count.ensures.0

tables_passed : (c : Else-not-tables_ok) → tables_ok (bytes (goal.at.Else-not-tables_ok c).After-trailer_ok)
    (figures (goal.at.Else-not-tables_ok c).After-trailer_ok) ≡ true
tables_passed c = sym c.tables_ok.ensures ∙ c.if-not-tables_ok.false

-- what was told of the figures is told of the file's
figures_told : (c : After-figures_ok) → c.figures_ok.result ≡ figures_ok (bytes (goal.at.After-figures_ok c).After-trailer_ok)
    (figures (goal.at.After-figures_ok c).After-trailer_ok)
figures_told c =
    c.figures_ok.ensures ∙ figures_counted (bytes (goal.at.After-figures_ok c).After-trailer_ok)
    (figures (goal.at.After-figures_ok c).After-trailer_ok) (met_by c.totals-found.result)
    (counted (goal.at.After-figures_ok c).After-totals-found)

pub returns-then-file-lt32 : goal.returns-then-file-lt32
returns-then-file-lt32 c = sym (refused_short c.args.file.now c.if-file-lt32.true)

pub returns-then-not-trailer_ok : goal.returns-then-not-trailer_ok
returns-then-not-trailer_ok c =
    sym (refused_8 (bytes (goal.at.returns-then-not-trailer_ok c).After-trailer_ok)
    (figures (goal.at.returns-then-not-trailer_ok c).After-trailer_ok) c.figures_at-g.ensures
    (sym c.trailer_ok.ensures ∙ c.if-not-trailer_ok.true))

pub slot_count-requires : goal.slot_count-requires
slot_count-requires c = (is_ready (goal.at.slot_count-requires c).Else-not-trailer_ok).head

pub totals-found-requires : goal.totals-found-requires
totals-found-requires c = omega (arith, c.slot_count.ensures, (is_ready (goal.at.totals-found-requires c).Else-not-trailer_ok).long)

pub invariant_of-framed : goal.invariant_of-framed
invariant_of-framed c = record { ready = is_ready (goal.at.invariant_of-framed c).Else-not-trailer_ok }

pub tables_ok-requires : goal.tables_ok-requires
tables_ok-requires c = counted (goal.at.tables_ok-requires c).After-totals-found

pub returns-then-not-tables_ok : goal.returns-then-not-tables_ok
returns-then-not-tables_ok c =
    sym (refused_tables (bytes (goal.at.returns-then-not-tables_ok c).After-trailer_ok)
    (figures (goal.at.returns-then-not-tables_ok c).After-trailer_ok) c.figures_at-g.ensures
    (trailer_passed (goal.at.returns-then-not-tables_ok c).Else-not-trailer_ok)
    (sym c.tables_ok.ensures ∙ c.if-not-tables_ok.true))

pub returns-then-not-figures_ok : goal.returns-then-not-figures_ok
returns-then-not-figures_ok c =
    sym (refused_figures (bytes (goal.at.returns-then-not-figures_ok c).After-trailer_ok)
    (figures (goal.at.returns-then-not-figures_ok c).After-trailer_ok) c.figures_at-g.ensures
    (trailer_passed (goal.at.returns-then-not-figures_ok c).Else-not-trailer_ok)
    (tables_passed (goal.at.returns-then-not-figures_ok c).Else-not-tables_ok)
    (sym (figures_told (goal.at.returns-then-not-figures_ok c).After-figures_ok) ∙ c.if-not-figures_ok.true))

pub returns : goal.returns
returns c =
    sym (accepted_with (bytes (goal.at.returns c).After-trailer_ok) (figures (goal.at.returns c).After-trailer_ok) c.figures_at-g.ensures
    (trailer_passed (goal.at.returns c).Else-not-trailer_ok) (tables_passed (goal.at.returns c).Else-not-tables_ok)
    (sym (figures_told (goal.at.returns c).After-figures_ok) ∙ c.if-not-figures_ok.false))
