-- `registers::file_register`: the first broken rule is given; else the answer is that of `against_boundary`, and a stored read writes its
-- three cells.
use mathlib.Core.Path.{◌≡◌, refl, sym, ◌∙◌}
use Prim.Native.Nat.{◌<◌, ◌≤◌}
use native.Mathlib.Omega.{arith}
use lib.ListN.{length}
use borrow.Author.Tests.{le-leb, lt-leb, lt-ltb, le-ltb, eq-eqb, ne_eqb}
use Rattle.book.specs.Answers.{Answer, received_meant}
use Rattle.book.specs.Written.{written_reads}
use Rattle.book.specs.Inner.Numbers.{read_answer, read_after}
use Rattle.book.proofs.OneNumber.{read_sound}
use Rattle.book.proofs.registers.file_register.Goals as goal
use Rattle.book.proofs.registers.file_register.Goals.{After-against_boundary-found, Else-reads-at, Start}

abbrev whole : Start → Answer
whole c =
    read_answer (written_reads c.args.reads.now) c.args.boundary c.args.version
    c.args.reading c.args.width

-- the boundary lies in the list
inside : (c : Else-reads-at) → c.args.boundary < length c.args.reads.now.readings.now
inside c = omega (arith, c.if-reads-at.false)

-- what `against_boundary` found is the answer
found : (c : After-against_boundary-found) → whole (goal.at.After-against_boundary-found c).Start ≡ received_meant
    c.against_boundary-found.result
found c =
    let small : c.args.reading ≤ 99_999_999 = omega (arith, c.if-reading-gt-EIGHT_DIGITS.false) in
    let narrow : c.args.width ≤ 9999 = omega (arith, c.if-width-gt-MOST_WIDTH.false) in
    read_sound _ _ _ _ _ (inside (goal.at.After-against_boundary-found c).Else-reads-at) c.if-version-eq0.false small narrow ∙ sym
    c.against_boundary-found.ensures

pub returns-then-reads-at-clause-told : goal.returns-then-reads-at-clause-told
unfolding read_answer read_after
returns-then-reads-at-clause-told c =
    let beyond : length c.args.reads.now.readings.now ≤ c.args.boundary = omega (arith, c.if-reads-at.true) in
    rw (le-leb _ _ beyond) (refl, refl)

pub returns-then-version-eq0-clause-told : goal.returns-then-version-eq0-clause-told
unfolding read_answer read_after
returns-then-version-eq0-clause-told c = rw (
  lt-leb _ _ (inside (goal.at.returns-then-version-eq0-clause-told c).Else-reads-at),
  eq-eqb _ _
      c.if-version-eq0.true,
) (refl, refl)

pub returns-then-reading-gt-EIGHT_DIGITS-clause-told : goal.returns-then-reading-gt-EIGHT_DIGITS-clause-told
unfolding read_answer read_after
returns-then-reading-gt-EIGHT_DIGITS-clause-told c =
    let large : 99_999_999 < c.args.reading = omega (arith, c.if-reading-gt-EIGHT_DIGITS.true) in
    rw (
      lt-leb _ _ (inside (goal.at.returns-then-reading-gt-EIGHT_DIGITS-clause-told c).Else-reads-at),
      ne_eqb _ _ c.if-version-eq0.false,
      lt-ltb _ _
          large,
    ) (refl, refl)

pub returns-then-width-gt-MOST_WIDTH-clause-told : goal.returns-then-width-gt-MOST_WIDTH-clause-told
unfolding read_answer read_after
returns-then-width-gt-MOST_WIDTH-clause-told c =
    let small : c.args.reading ≤ 99_999_999 = omega (arith, c.if-reading-gt-EIGHT_DIGITS.false) in
    let wide : 9999 < c.args.width = omega (arith, c.if-width-gt-MOST_WIDTH.true) in
    rw (
      lt-leb _ _ (inside (goal.at.returns-then-width-gt-MOST_WIDTH-clause-told c).Else-reads-at),
      ne_eqb _ _ c.if-version-eq0.false,
      le-ltb _ _
          small,
      lt-ltb _ _ wide,
    )
    (refl, refl)

pub returns-then-is_stored-clause-told : goal.returns-then-is_stored-clause-told
unfolding read_after
returns-then-is_stored-clause-told c = rw (
  found (goal.at.returns-then-is_stored-clause-told c).After-against_boundary-found,
  sym c.is_stored.ensures ∙
      c.if-is_stored.true,
) (refl, refl)

pub returns-else-is_stored-clause-told : goal.returns-else-is_stored-clause-told
unfolding read_after
returns-else-is_stored-clause-told c = rw (
  found (goal.at.returns-else-is_stored-clause-told c).After-against_boundary-found,
  sym c.is_stored.ensures ∙
      c.if-is_stored.false,
) (refl, refl)
