-- `file::slots::tally_of`. After i slots the tally is that of i slots.
use mathlib.Core.Path.{◌≡◌, ap, ap₂, ◌∙◌}
use native.Mathlib.Omega.{arith}
use Rattle.file.specs.Inner.Reading.{tallied_with, tallied_in}
use Rattle.file.proofs.Tallies.{tallied_none, tallied_on}
use Rattle.file.proofs.slots.tally_of.Goals as goal

pub loop-i-init : goal.loop-i-init
loop-i-init c = record { low = omega arith; tallied = tallied_none _ _ }

pub loop-i-preserved : goal.loop-i-preserved
loop-i-preserved c =
    let held = c.loop-i.invariant in
    let e = c.tally_with-found.ensures in
    record {
      low = rw e (omega (arith, held.low));
      tallied = e ∙ ap₂ tallied_with held.tallied c.slot_at.ensures ∙ tallied_on _ _ c.loop-i.i;
    }

pub returns : goal.returns
returns c =
    let held = c.loop-i.invariant in
    let done : c.loop-i.i ≡ c.args.k = omega arith in
    held.tallied ∙ ap (tallied_in c.args.file.now c.args.a) done
