-- `tables::put_tables`. Before slot i the buffer holds the records of the first i slots and of the spans begun.
use mathlib.Core.Path.{◌≡◌, refl, sym, ap, ◌∙◌}
use Prim.Native.Nat.{zero-le}
use native.Mathlib.Omega.{arith}
use borrow.Author.Rules.{rules}
use Rattle.rules.specs.Opening.{Cells, slot_count}
use Rattle.rules.specs.Lent.{cells_in}
use Rattle.rules.specs.Spans.{outcomes}
use Rattle.publishing.specs.declared.tables.Progress.{Progress}
use Rattle.publishing.specs.Inner.Publishing.{progress_at, buffer_at}
use Rattle.publishing.proofs.Buffers.{buffer_first}
use Rattle.publishing.proofs.Totals.{progress_place, progress_here}
use Rattle.publishing.proofs.tables.put_tables.Goals as goal
use Rattle.publishing.proofs.tables.put_tables.Goals.{At-loop-i, Start}

abbrev lent : Start → Cells
lent c =
    let a = c.args in
    cells_in a.cells.now

place : (c : At-loop-i) → c.loop-i.here.pass.walk.at ≡ c.loop-i.i
place c = progress_place c.args.head (lent (goal.at.At-loop-i c).Start) c.loop-i.i c.loop-i.here c.loop-i.invariant.known

pub slot_count-n-requires : goal.slot_count-n-requires
slot_count-n-requires c = c.requires.0.whole.lent.fitted.head

pub loop-i-init : goal.loop-i-init
loop-i-init c =
    record {
      inside = zero-le;
      long = refl;
      known = c.begin-here.ensures c.args.head (lent (goal.at.loop-i-init c).Start);
      bytes = sym (buffer_first c.args.head (lent (goal.at.loop-i-init c).Start) c.args.out.now);
    }

pub put_stretch-here-requires : goal.put_stretch-here-requires
put_stretch-here-requires c =
    let pre = c.requires in
    record {
      roomy = record { whole = pre.0.whole; room = omega (arith, pre.0.room, c.loop-i.invariant.long) };
      place = pre.1;
      inside = omega (arith, place (goal.at.put_stretch-here-requires c).At-loop-i, c.loop-i-test.true, c.slot_count-n.ensures);
      known = progress_here c.args.head (lent (goal.at.put_stretch-here-requires c).Start) c.loop-i.i c.loop-i.here
          c.loop-i.invariant.known;
    }

pub loop-i-smaller : goal.loop-i-smaller
loop-i-smaller c = omega (arith, c.put_stretch-here.ensures.further, place (goal.at.loop-i-smaller c).At-loop-i, c.loop-i-test.true)

pub loop-i-preserved : goal.loop-i-preserved
loop-i-preserved c =
    let held = c.loop-i.invariant in
    let found = c.put_stretch-here.ensures in
    record {
      inside = omega (arith, found.inside, c.slot_count-n.ensures);
      long = search rules;
      known = found.known;
      bytes =
          found.bytes c.args.out.now (sym held.long)
          (held.bytes ∙ ap (buffer_at c.args.head (lent (goal.at.loop-i-preserved c).Start) c.args.out.now)
          (sym (place (goal.at.loop-i-preserved c).At-loop-i)));
    }

pub shape_of-out : goal.shape_of-out
shape_of-out c = c.loop-i.invariant.long

pub returns : goal.returns
unfolding outcomes progress_at
returns c =
    let held = c.loop-i.invariant in
    let n : c.loop-i.i ≡ slot_count c.args.head =
    omega (arith, c.loop-i-test.false, held.inside, c.slot_count-n.ensures) in
    (rw n at (ap (λ (p : Progress). p.totals) held.known), rw n at held.bytes)
