-- `file::spans::Framed::spans_ok`. Those from span j on are left to be tested.
use mathlib.Core.Path.{◌≡◌}
use Prim.Native.Nat.{◌-◌}
use Rattle.base.specs.Lists.{all}
use Rattle.file.specs.Reader.{tables_at, span_ok}
use Rattle.file.proofs.spans.Framed.spans_ok.Given as goal

abbrev pub invariant-loop-j : goal.invariant-loop-j
invariant-loop-j l =
    all (span_ok (tables_at l.self.bytes.now l.self.figures)) 0 l.self.figures.spans
    ≡ all (span_ok (tables_at l.self.bytes.now l.self.figures)) l.j (l.self.figures.spans - l.j)
