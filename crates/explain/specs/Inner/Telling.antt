-- What is told of a slot, from the parts that were found.
use Rattle.std.specs.Prelude.{cond, eqb, Option}
use Rattle.rules.specs.declared.Outcome.{Outcome}
use Rattle.rules.specs.declared.linear.StraightLine.{StraightLine}
use Rattle.rules.specs.declared.walk.Filled.{Filled}
use Rattle.rules.specs.declared.stretch.Stretch.{Stretch}
use Rattle.rules.specs.declared.spans.Scaling.{Scaling}
use Rattle.rules.specs.declared.tests.Cause.{Cause}
use Rattle.rules.specs.Spans.{is_n}
use Rattle.rules.specs.Inner.Stretches.{fit_outcome, fit_next}
use Rattle.explain.specs.declared.Rule.{Rule}
use Rattle.explain.specs.declared.Rule.TheVariants.{Delivered, Agreed, OutageZero, Linear, SameDay, Nothing}
use Rattle.rules.specs.declared.filling.References.{References}
use Rattle.explain.specs.declared.Explanation.{Explanation}
use Rattle.explain.specs.declared.held.Held.{Held}
use Rattle.explain.specs.Inner.Holding.{shares_with}

-- the rule whose outcome this is, before scaling, with the line or the references that the slot has
unfoldable pub rule_of : Outcome → StraightLine → References → Rule
rule_of o line found =
    cond (eqb o.method 1) OutageZero
    (cond (eqb o.method 2) (Linear line)
    (cond (eqb o.method 3) (SameDay found)
    (cond (eqb o.method 5) Agreed
    (cond (is_n o.quality) Nothing Delivered))))

-- a slot's place in a stretch that is scaled so
abbrev pub scaled_to : Scaling → Stretch
scaled_to by = record { until = 0; by = by }

unfoldable pub told_with : Option Cause → Filled → Rule → Held → Explanation
told_with cause filled rule held = record {
  cause = cause;
  rule = rule;
  filled = filled.outcome;
  span = held.span;
  shares = shares_with filled.outcome.quality held.by (fit_next filled.outcome filled.shape (scaled_to held.by)).by.passed;
  outcome = fit_outcome filled.outcome filled.shape (scaled_to held.by);
}
