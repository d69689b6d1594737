-- `sound::delivered`: after k slots the number is that of the delivered slots passed.
use mathlib.Core.Path.{◌≡◌, sym, ap, ◌∙◌}
use Prim.Native.Nat.{zero-le}
use native.Mathlib.Omega.{arith}
use Rattle.book.proofs.Counting.{among, among_none, among_more, among_same}
use Rattle.book.proofs.sound.delivered.Goals as goal
use Rattle.book.proofs.sound.delivered.Goals.{then-versions-first-gt0, else-versions-first-gt0}

pub loop-k-init : goal.loop-k-init
loop-k-init c = record { inside = zero-le; most = zero-le; known = sym (among_none c.args.versions.now c.args.first) }

pub loop-k-preserved : goal.loop-k-preserved
loop-k-preserved c =
    let a = c.args in
    let held = c.loop-k.invariant in
    elim c.if-versions-first-gt0.branch [
      | then-versions-first-gt0 w ↦ record {
        inside = omega arith;
        most = omega arith;
        known = omega (arith, among_more a.versions.now a.first c.loop-k.k w.if-versions-first-gt0.true, held.known);
      }
      | else-versions-first-gt0 w ↦ record {
        inside = omega arith;
        most = omega arith;
        known = omega (arith, among_same a.versions.now a.first c.loop-k.k w.if-versions-first-gt0.false, held.known);
      }
    ]

pub returns : goal.returns
returns c =
    let e : c.loop-k.k ≡ c.args.count = omega arith in
    c.loop-k.invariant.known ∙ ap (among c.args.versions.now c.args.first) e
