-- `line::line`: `too long` above 65,536 bytes, else the text of the reader's answer.
use mathlib.Core.Path.{sym, ◌∙◌}
use Prim.Native.Nat.{◌<◌, ◌≤◌}
use native.Mathlib.Omega.{arith}
use lib.ListN.{length}
use borrow.Author.Tests.{lt-leb, le-leb}
use borrow.Author.Rules.{rules}
use Rattle.file.proofs.Answers.{first_lt}
use Rattle.line.specs.Line.{answer_text, line}
use Rattle.line.proofs.Lengths.{too_long_room, figures_room, refusal_room, at_start}
use Rattle.line.proofs.line.Goals as goal

pub returns-then-bytes-gt-MOST_BYTES : goal.returns-then-bytes-gt-MOST_BYTES
unfolding line
returns-then-bytes-gt-MOST_BYTES c =
    let long : 65_536 < length c.args.bytes.now = omega (arith, c.if-bytes-gt-MOST_BYTES.true) in
    rw (lt-leb _ _ long) (at_start c.put_text.ensures too_long_room (search rules))

pub put_figures-requires : goal.put_figures-requires
put_figures-requires c =
    first_lt c.args.bytes.now _ (sym c.read.ensures ∙ c.in-Ok.is)

pub returns-in-Ok : goal.returns-in-Ok
unfolding line answer_text
returns-in-Ok c =
    let short : length c.args.bytes.now ≤ 65_536 = omega (arith, c.if-bytes-gt-MOST_BYTES.false) in
    let is = sym c.read.ensures ∙ c.in-Ok.is in
    rw (le-leb _ _ short, is) (at_start c.put_figures.ensures (figures_room _) (search rules))

pub returns-in-Err : goal.returns-in-Err
unfolding line answer_text
returns-in-Err c =
    let short : length c.args.bytes.now ≤ 65_536 = omega (arith, c.if-bytes-gt-MOST_BYTES.false) in
    let is = sym c.read.ensures ∙ c.in-Err.is in
    rw (le-leb _ _ short, is) (at_start c.put_refusal.ensures (refusal_room _) (search rules))
