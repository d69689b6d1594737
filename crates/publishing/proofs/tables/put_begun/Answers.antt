-- `tables::put_begun` writes a table of one span or of none.
use mathlib.Core.Bool.{true}
use mathlib.Core.Path.{sym, ap, ◌∙◌}
use Prim.Native.Nat.{◌+◌, ◌*◌}
use native.Mathlib.Omega.{arith}
use lib.ListN.{length}
use Rattle.std.specs.Prelude.{Option}
use Rattle.rules.specs.declared.Span.{Span}
use Rattle.rules.specs.Inner.Passes.{list_of}
use Rattle.file.specs.Layout.{table, span_row}
use Rattle.file.specs.Inner.Writing.{written}
use Rattle.publishing.proofs.Buffers.{table_one, written_none}
use Rattle.publishing.proofs.tables.put_begun.Goals as goal

pub put_span-requires : goal.put_span-requires
put_span-requires c =
    omega (arith, c.requires, ap (λ (x : Option Span). length (list_of x)) c.in-Some.is)

pub returns-in-Some : goal.returns-in-Some
returns-in-Some c =
    let e = c.in-Some.is in (
      omega (arith, ap (λ (x : Option Span). length (list_of x)) e),
      c.put_span.ensures
          ∙ ap (written c.args.out.now (c.args.at + 14 * c.args.count))
          (sym (table_one (span_row true) c.in-Some.span) ∙ ap (λ (x : Option Span). table (span_row true) (list_of x)) (sym e)),
    )

pub returns-in-None : goal.returns-in-None
unfolding table
returns-in-None c =
    let e = c.in-None.is in (
      omega (arith, ap (λ (x : Option Span). length (list_of x)) e),
      sym (ap (λ (x : Option Span). written c.args.out.now
          (c.args.at + 14 * c.args.count) (table (span_row true) (list_of x))) e
          ∙ written_none c.args.out.now
          (c.args.at + 14 * c.args.count)),
    )
