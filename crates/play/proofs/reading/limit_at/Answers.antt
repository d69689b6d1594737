-- `reading::limit_at`: by cases.
use mathlib.Core.Path.{sym, ap, ◌∙◌}
use mathlib.Core.List.{List}
use Prim.Native.Nat.{ℕ}
use Rattle.rules.specs.Limits.{load_answer}
use Rattle.play.proofs.Stepping.{own_limits, built_in}
use borrow.Author.Rules.{rules}
use Rattle.play.proofs.reading.limit_at.Goals as goal

pub returns-then-table-eq0 : goal.returns-then-table-eq0
returns-then-table-eq0 c = c.load.ensures ∙ ap (λ (t : List ℕ). load_answer t c.args.kind) (built_in _ _ c.if-table-eq0.true)

pub returns : goal.returns
returns c =
    c.load_from.ensures
    ∙ ap (λ (t : List ℕ). load_answer t c.args.kind)
    (sym (own_limits _ _ (search rules) c.if-table-eq0.false))
