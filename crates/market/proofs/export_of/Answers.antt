-- `export_of` meets its contract.
use mathlib.Core.Path.{sym, ◌∙◌}
use Rattle.market.specs.Fields.{lent}
use Rattle.market.proofs.Answers.{refused_14, refused_15}
use Rattle.market.proofs.export_of.Goals as goal

pub returns-then-not-is_meter : goal.returns-then-not-is_meter
returns-then-not-is_meter c =
    let a = c.args in
    refused_14 a.file.now a.g c.requires
    (lent a.texts.now) a.codes a.out.now (sym c.is_meter.ensures
    ∙ c.if-not-is_meter.true)

pub returns-then-not-are_supplied : goal.returns-then-not-are_supplied
returns-then-not-are_supplied c =
    let a = c.args in
    refused_15 a.file.now a.g c.requires
    (lent a.texts.now) a.codes a.out.now (sym
    c.is_meter.ensures ∙ c.if-not-is_meter.false) (sym c.are_supplied.ensures
    ∙ c.if-not-are_supplied.true)

pub export_in-requires : goal.export_in-requires
export_in-requires c = (
  c.requires,
  sym c.is_meter.ensures ∙ c.if-not-is_meter.false,
  sym c.are_supplied.ensures ∙ c.if-not-are_supplied.false,
)
