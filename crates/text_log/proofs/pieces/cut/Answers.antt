-- `pieces::cut`: the first separator ends the first piece.
use mathlib.Core.List.{[]}
use mathlib.Core.Path.{◌≡◌, ◌∙◌}
use lib.Dec.{eqb}
use Rattle.std.specs.List.{position_or_len}
use Rattle.text_log.proofs.Splitting.{cut_first, place_or_end}
use Rattle.text_log.proofs.pieces.cut.Goals as goal

pub returns-clause-pieces : goal.returns-clause-pieces
returns-clause-pieces c =
    let end : c.unwrap_or-end.result ≡ position_or_len (λ b. eqb b c.args.separator) c.args.bytes.now =
    c.unwrap_or-end.ensures ∙ rw c.place_of.ensures (place_or_end (λ b. eqb b c.args.separator) c.args.bytes.now) in
    rw (c.split_at.ensures.front, c.split_at.ensures.back, end) (cut_first c.args.separator [] c.args.bytes.now)
