-- `refusing::refusal`: 1 and 2 go before the others.
use mathlib.Core.Path.{sym, ◌∙◌}
use Rattle.berth.proofs.Written.{file_size_lem}
use Rattle.berth.proofs.refusing.refusal.Goals as goal

pub returns-then-not-head_ok : goal.returns-then-not-head_ok
returns-then-not-head_ok c = rw (sym c.head_ok.ensures ∙ c.if-not-head_ok.true)

pub lists_fit-requires : goal.lists_fit-requires
lists_fit-requires c = sym c.head_ok.ensures ∙ c.if-not-head_ok.false

pub returns-then-not-lists_fit : goal.returns-then-not-lists_fit
returns-then-not-lists_fit c =
    rw (
      sym c.head_ok.ensures ∙ c.if-not-head_ok.false,
      sym c.lists_fit.ensures ∙ c.if-not-lists_fit.true,
    )

pub refusal_past_lengths-requires : goal.refusal_past_lengths-requires
refusal_past_lengths-requires c = sym c.head_ok.ensures ∙ c.if-not-head_ok.false

pub returns : goal.returns
returns c =
    let good = sym c.head_ok.ensures ∙ c.if-not-head_ok.false in
    rw (good, sym c.lists_fit.ensures ∙ c.if-not-lists_fit.false, file_size_lem)
    c.refusal_past_lengths.ensures
