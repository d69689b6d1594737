-- `filling::unscaled` takes the first rule that applies.
use mathlib.Core.Path.{refl, ap, ◌∙◌}
use Prim.Native.Nat.{ℕ}
use borrow.Author.Tests.{lt-ltb, le-ltb}
use Rattle.rules.specs.declared.Outcome.{Outcome}
use Rattle.rules.specs.declared.Quality.TheVariants.{S}
use Rattle.rules.specs.Filling.{shape_of}
use Rattle.rules.specs.Inner.Walks.{ruled_by}
use Rattle.rules.proofs.filling.unscaled.Goals as goal

abbrev line_of : ℕ → Outcome
line_of value = record { value = value; quality = S; method = 2 }

pub returns-then-outage : goal.returns-then-outage
unfolding ruled_by shape_of
returns-then-outage c = (c.unshaped.ensures.0 ∙ rw c.if-outage.true, rw c.unshaped.ensures.0 c.unshaped.ensures.1)

pub returns-then-line-gt0 : goal.returns-then-line-gt0
unfolding ruled_by shape_of
returns-then-line-gt0 c =
    let line = c.args.line in
    (simp (c.if-outage.false, lt-ltb 0 line.length c.if-line-gt0.true) (ap line_of c.line_value-value.ensures), refl)

pub returns : goal.returns
unfolding ruled_by
returns c =
    let line = c.args.line in (
      c.same_day.ensures.0 ∙ simp (c.if-outage.false, le-ltb 0 line.length c.if-line-gt0.false),
      c.same_day.ensures.1,
    )
