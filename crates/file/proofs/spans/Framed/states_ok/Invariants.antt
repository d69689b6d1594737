-- `file::spans::Framed::states_ok`. Those from span j on are left to be tested.
use mathlib.Core.Path.{◌≡◌}
use Prim.Native.Nat.{◌-◌}
use Rattle.base.specs.Lists.{all}
use Rattle.file.specs.Reader.{tables_at, state_ok}
use Rattle.file.proofs.spans.Framed.states_ok.Given as goal

abbrev pub invariant-loop-j : goal.invariant-loop-j
invariant-loop-j l =
    all (state_ok (tables_at l.self.bytes.now l.self.figures)) 0 l.self.figures.spans
    ≡ all (state_ok (tables_at l.self.bytes.now l.self.figures)) l.j (l.self.figures.spans - l.j)
