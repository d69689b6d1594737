-- `linear::line_unagreed`: inside a run the line stands; at its first slot it is looked for.
use mathlib.Core.Path.{◌∙◌}
use native.Mathlib.Omega.{arith}
use Rattle.rules.specs.Lent.{slots_in}
use Rattle.rules.proofs.Bounds.{bounded, count_high}
use Rattle.rules.proofs.Runs.{run_holds, run_zeroed}
use Rattle.rules.proofs.Lines.{line_none, line_fresh, line_place, line_kept}
use Rattle.rules.proofs.linear.line_unagreed.Goals as goal

pub returns-then-outage : goal.returns-then-outage
returns-then-outage c =
    let a = c.args in
    let s = slots_in a.slots.now in
    let v = a.agreed_versions.now in
    c.bare.ensures ∙ line_none a.head s v a.at (run_zeroed a.head s v a.at _ c.requires.5 c.if-outage.true)

pub begin-requires : goal.begin-requires
begin-requires c =
    let a = c.args in
    let s = slots_in a.slots.now in
    let v = a.agreed_versions.now in (
      c.requires.0,
      c.requires.1,
      c.requires.2,
      run_holds a.head s v a.at c.requires.3 c.requires.4 _ c.requires.5 c.if-outage.false,
      line_fresh a.head s v a.at _ c.requires.6 c.if-before-eq0.true,
    )

pub overflow_add-result : goal.overflow_add-result
overflow_add-result c =
    let a = c.args in
    let s = slots_in a.slots.now in
    omega (
      arith,
      line_place a.head s a.agreed_versions.now a.at _ c.requires.6,
      count_high a.head (bounded a.head c.requires.0.head),
    )

pub returns : goal.returns
returns c =
    let a = c.args in
    let s = slots_in a.slots.now in
    let v = a.agreed_versions.now in
    line_kept a.head s v a.at _ c.requires.2
    (run_holds a.head s v a.at c.requires.3 c.requires.4 _ c.requires.5 c.if-outage.false)
    c.requires.6 c.if-before-eq0.false
