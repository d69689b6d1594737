-- `tables::put_stretch`: enter the stretch, the record of the span that begins there, those of its slots.
use mathlib.Core.Path.{◌≡◌, sym, ap, ◌∙◌}
use Prim.Native.Nat.{◌+◌, ◌*◌, ◌≤◌}
use native.Mathlib.Omega.{arith}
use lib.ListN.{length}
use Rattle.std.specs.Prelude.{Option}
use Rattle.rules.specs.declared.Span.{Span}
use Rattle.rules.specs.Opening.{Cells, slot_count}
use Rattle.rules.specs.Lent.{cells_in}
use Rattle.rules.specs.Spans.{spans}
use Rattle.rules.specs.Inner.Stretches.{begins_at}
use Rattle.rules.specs.Inner.Passes.{pass_at, list_of, begun_before}
use Rattle.rules.proofs.Bounds.{Bounded, bounded}
use Rattle.rules.proofs.SpansInOrder.{begun_room}
use Rattle.publishing.specs.declared.tables.Progress.{Progress}
use Rattle.publishing.specs.Inner.Publishing.{progress_at}
use Rattle.publishing.proofs.Inside.{spans_begun, bytes_begun, whole_progress, whole_buffer}
use Rattle.publishing.proofs.tables.put_stretch.Goals as goal
use Rattle.publishing.proofs.tables.put_stretch.Goals.{Start}

abbrev lent : Start → Cells
lent c =
    let a = c.args in
    cells_in a.cells.now

bounds : (c : Start) → Bounded c.args.head
bounds c = bounded c.args.head c.requires.roomy.whole.lent.fitted.head

-- the spans that have begun before the slot
before : (c : Start) → c.args.here.spans ≡ length (begun_before c.args.head (lent (goal.at.Start c).Start) c.args.here.pass.walk.at)
unfolding progress_at
before c = ap (λ (p : Progress). p.spans) c.requires.known

pub enter-entered-requires : goal.enter-entered-requires
unfolding progress_at pass_at
enter-entered-requires c =
    let pre = c.requires in (
      pre.roomy.whole,
      record {
        inside = pre.inside;
        known = ap (λ (p : Progress). p.pass.walk) pre.known;
        stretch = ap (λ (p : Progress). p.pass.stretch) pre.known;
      },
    )

pub put_begun-spans-requires : goal.put_begun-spans-requires
put_begun-spans-requires c =
    let h = c.args.head in
    let i = c.args.here.pass.walk.at in
    let g : length (list_of c.enter-entered.result.begins) ≡ length
    (list_of (begins_at h (lent (goal.at.put_begun-spans-requires c).Start) i)) =
    ap (λ (x : Option Span). length (list_of x)) c.enter-entered.ensures.0 in
    omega (
      arith,
      before (goal.at.put_begun-spans-requires c).Start,
      g,
      begun_room h (lent (goal.at.put_begun-spans-requires c).Start)
          (bounds (goal.at.put_begun-spans-requires c).Start) i c.requires.inside,
      c.requires.roomy.room,
      c.requires.place,
    )

pub put_inside-requires : goal.put_inside-requires
unfolding progress_at pass_at
put_inside-requires c =
    record {
      roomy = record { whole = c.requires.roomy.whole; room = omega (arith, c.requires.roomy.room, c.put_begun-spans.auto.out) };
      inside = c.requires.inside;
      walk = ap (λ (p : Progress). p.pass.walk) c.requires.known;
      stretch = c.enter-entered.ensures.1;
      totals = ap (λ (p : Progress). p.totals) c.requires.known;
    }

pub returns : goal.returns
returns c =
    let h = c.args.head in
    let b = lent (goal.at.returns c).Start in
    let i = c.args.here.pass.walk.at in
    let found = c.put_inside.ensures in
    let begins = c.enter-entered.ensures.0 in
    let room : 6 * slot_count h + 14 * length (spans h b) ≤ length c.args.out.now = omega (arith, c.requires.roomy.room) in
    record {
      further = found.further;
      inside = found.inside;
      known =
          whole_progress h b _ _ found.begun _ found.pass
          (found.spans ∙ c.put_begun-spans.ensures.0 ∙ spans_begun h (bounds (goal.at.returns c).Start) b i c.requires.inside _
          (before (goal.at.returns c).Start) _ begins)
          found.totals;
      bytes = λ x n e.
          found.bytes x (n ∙ sym c.put_begun-spans.auto.out)
          (bytes_begun h (bounds (goal.at.returns c).Start) b i c.requires.inside _ (before (goal.at.returns c).Start) _ begins x _ _ _
          (omega (arith, room, n)) e c.requires.place
          c.put_begun-spans.ensures.1)
          ∙ whole_buffer h b _ _ found.begun x;
    }
