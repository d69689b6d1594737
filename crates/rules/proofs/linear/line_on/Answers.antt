-- `linear::line_on`: an agreed slot lies in no run.
use mathlib.Core.Path.{◌∙◌}
use Rattle.rules.specs.Lent.{slots_in}
use Rattle.rules.proofs.Runs.{not_agreed, run_agreed}
use Rattle.rules.proofs.Lines.{line_none}
use Rattle.rules.proofs.linear.line_on.Goals as goal

pub returns-then-agreed_versions-at-gt0 : goal.returns-then-agreed_versions-at-gt0
returns-then-agreed_versions-at-gt0 c =
    let a = c.args in
    let s = slots_in a.slots.now in
    let v = a.agreed_versions.now in
    c.bare.ensures ∙ line_none a.head s v a.at (run_agreed a.head s v a.at c.if-agreed_versions-at-gt0.true)

pub line_unagreed-requires : goal.line_unagreed-requires
line_unagreed-requires c =
    let a = c.args in (
      c.requires.0,
      c.requires.1,
      c.requires.2,
      c.requires.3,
      not_agreed a.agreed_versions.now a.at c.if-agreed_versions-at-gt0.false,
      c.requires.4,
      c.requires.5,
    )
