-- `lines::line_at`: the first LF ends the line.
use mathlib.Core.Path.{◌≡◌, sym, ◌∙◌}
use lib.Dec.{eqb}
use Rattle.std.specs.Prelude.{Some, None}
use Rattle.std.specs.List.{position}
use Rattle.text_log.proofs.Cutting.{line_on, line_ends, bytes_end}
use Rattle.text_log.proofs.lines.line_at.Goals as goal

pub returns-in-Some : goal.returns-in-Some
returns-in-Some c =
    let found : position (λ b. eqb b 10) (line_on c.args.bytes.now c.args.at c.requires) ≡ Some c.in-Some.n =
    sym c.place_of.ensures ∙ c.in-Some.is in
    line_ends _ _ c.requires c.in-Some.n found

pub returns-in-None : goal.returns-in-None
returns-in-None c =
    let found : position (λ b. eqb b 10) (line_on c.args.bytes.now c.args.at c.requires) ≡ None = sym c.place_of.ensures ∙ c.in-None.is in
    bytes_end _ _ c.requires found
