-- `put_body` meets its contract.
use mathlib.Core.List.{◌++◌}
use mathlib.Core.Path.{sym, ap}
use Prim.Native.Nat.{◌/◌}
use native.Mathlib.Omega.{arith}
use Rattle.file.specs.declared.Figures.{Figures}
use Rattle.file.specs.Reader.{slot_at}
use Rattle.market.specs.Fields.{lent, mark_of}
use Rattle.market.specs.Records.{record100, record200, days_of}
use Rattle.market.specs.Export.{content_of, body_of}
use Rattle.line.proofs.Putting.{then, same}
use Rattle.file.proofs.Answers.{dates_le, figures_are, some_interval, tabled}
use Rattle.market.proofs.put_body.Goals as goal

pub nonzero_div-n : goal.nonzero_div-n
nonzero_div-n c = omega (arith, some_interval _ _ c.requires.0)

pub put_days-requires : goal.put_days-requires
put_days-requires c =
    let accepted = c.requires.0 in
    (tabled _ _ accepted, dates_le _ _ accepted)

pub returns : goal.returns
unfolding content_of body_of
returns c =
    let a = c.args in
    let t = lent a.texts.now in
    let figured = ap (λ (f : Figures). record100 t.created t.from t.to
    ++ (record200 t.identifier t.configuration t.register t.suffix t.stream t.serial f.interval t.next_read
    ++ days_of t.reason t.created f.first (λ i. (slot_at a.file.now i).value)
    (λ i. mark_of a.codes (slot_at a.file.now i)) (1440 / f.interval) f.days)) (sym (figures_are a.file.now a.g
    c.requires.0)) in
    same figured (then c.put_100-head.ensures
    (then c.put_200-meter.ensures c.put_days.ensures))
