-- `sawmauve_publish`: the answer of publishing as its code, and the buffer as publishing leaves it.
use mathlib.Core.Path.{ap, ◌∙◌}
use Rattle.base.specs.Refusals.{length_code}
use Rattle.host.proofs.files.sawmauve_publish.Goals as goal

pub returns : goal.returns
returns c =
    let h = rw (c.head_of-head.ensures, c.of-book.ensures) at c.publish.ensures in
    (c.length_code.ensures ∙ ap length_code h.0, h.1)
