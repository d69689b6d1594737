-- `file::spans::Framed::span_at`: the record by the layout.
use mathlib.Core.Bool.{true, false}
use mathlib.Core.Path.{◌∙◌}
use native.Mathlib.Omega.{arith}
use borrow.Author.Tests.{eq-eqb, ne_eqb}
use borrow.Author.Rules.{rules}
use Rattle.file.specs.Inner.Reading.{Ready}
use Rattle.file.proofs.SpanRecords.{record_in}
use Rattle.file.proofs.spans.Framed.span_at.Goals as goal

pub ranged_from-requires : goal.ranged_from-requires
ranged_from-requires c =
    let a = c.args in
    let ready : Ready a.self.now.bytes.now a.self.now.figures = search rules in
    let layout = eq-eqb a.self.now.figures.layout 3 c.if-self-eq3.true in
    let room = record_in a.self.now.bytes.now a.self.now.figures ready true layout a.j c.requires in
    omega (arith, room, c.slot_count-table.ensures.0)

pub returns-then-self-eq3 : goal.returns-then-self-eq3
returns-then-self-eq3 c =
    c.ranged_from.ensures
    ∙ (rw (
      eq-eqb c.args.self.now.figures.layout 3 c.if-self-eq3.true,
      c.slot_count-table.ensures.0,
    ))

pub exact_from-requires : goal.exact_from-requires
exact_from-requires c =
    let a = c.args in
    let ready : Ready a.self.now.bytes.now a.self.now.figures = search rules in
    let layout = ne_eqb a.self.now.figures.layout 3 c.if-self-eq3.false in
    let room = record_in a.self.now.bytes.now a.self.now.figures ready false layout a.j c.requires in
    omega (arith, room, c.slot_count-table.ensures.0)

pub returns : goal.returns
returns c =
    c.exact_from.ensures
    ∙ (rw (ne_eqb c.args.self.now.figures.layout 3 c.if-self-eq3.false, c.slot_count-table.ensures.0))
