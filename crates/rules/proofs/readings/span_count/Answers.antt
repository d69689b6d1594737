-- `readings::span_count`: the count of the versions that are not 0 is that of the boundaries with a reading.
use mathlib.Core.Bool.{not}
use mathlib.Core.Path.{◌≡◌, ◌∙◌}
use lib.Dec.{eqb}
use lib.ListN.{length}
use borrow.Author.Rules.{rules}
use Rattle.std.specs.Prelude.{count_by}
use Rattle.rules.specs.Inner.Stretches.{read_count}
use Rattle.rules.proofs.Counts.{read_versions_counted}
use Rattle.rules.proofs.readings.span_count.Goals as goal

pub returns : goal.returns
returns c =
    let r = c.args.read_versions.now in
    let n : c.count.result ≡ count_by (λ v. not (eqb v 0)) r = search rules in
    let k : c.count.result ≡ read_count r (length r) = n ∙ read_versions_counted r in
    rw k at c.saturating_sub.ensures
