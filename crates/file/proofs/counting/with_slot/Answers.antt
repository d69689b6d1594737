-- `file::counting::with_slot`: by the letter, a plain slot first.
use mathlib.Core.Path.{sym, ◌∙◌}
use Rattle.file.proofs.counting.with_slot.Goals as goal

pub with_plain-requires : goal.with_plain-requires
with_plain-requires c = (c.requires, sym c.is_plain.ensures ∙ c.if-is_plain.true)

pub with_rest-requires : goal.with_rest-requires
with_rest-requires c = (
  c.requires,
  record {
    plain = sym c.is_plain.ensures ∙ c.if-is_plain.false;
    none = c.if-slot-eq78.false;
    substituted = c.if-slot-eq83.false;
    agreed = c.if-slot-eq70.false;
  },
)
