-- `export_in` meets its contract.
use mathlib.Core.Path.{sym, ap, ◌∙◌}
use Prim.Native.Nat.{◌+◌}
use lib.Dec.{leb}
use lib.ListN.{length}
use Rattle.market.specs.Fields.{lent}
use Rattle.market.specs.Export.{content_of, body_of, export_of}
use Rattle.line.proofs.Putting.{then}
use Rattle.market.proofs.Answers.{time_long, room_for, refused_7, exported}
use Rattle.market.proofs.export_in.Goals as goal

pub body_length-body-requires : goal.body_length-body-requires
body_length-body-requires c =
    let a = c.args in (
      c.requires.0,
      time_long
          (lent a.texts.now) a.codes c.requires.2,
    )

pub returns-then-not-is_room : goal.returns-then-not-is_room
returns-then-not-is_room c =
    let a = c.args in
    let t = lent a.texts.now in
    let n = length (body_of t (content_of a.codes a.file.now)) in
    let no = sym (room_for n (length a.out.now) c.is_room.ensures.1)
    ∙ ap (λ x. leb (x + 5) (length a.out.now)) (sym c.body_length-body.ensures) ∙ sym c.is_room.ensures.0
    ∙ c.if-not-is_room.true in
    refused_7 a.file.now a.g c.requires.0 t a.codes a.out.now c.requires.1 c.requires.2 no

pub put_body-end-requires : goal.put_body-end-requires
put_body-end-requires c =
    let a = c.args in (
      c.requires.0,
      time_long
          (lent a.texts.now) a.codes c.requires.2,
    )

pub returns : goal.returns
unfolding export_of
returns c =
    let a = c.args in
    let t = lent a.texts.now in
    let added = then c.put_body-end.ensures c.put_text-length.ensures in
    let n = length (body_of t (content_of a.codes a.file.now)) in
    let yes = sym (room_for n (length a.out.now) added.fits)
    ∙ ap (λ x. leb (x + 5) (length a.out.now)) (sym c.body_length-body.ensures)
    ∙ sym c.is_room.ensures.0 ∙ c.if-not-is_room.false in
    exported a.file.now a.g c.requires.0 t a.codes a.out.now c.requires.1 c.requires.2 _ _ yes added
