-- `filling::mean_of`. The loop's sum is the total of the values passed; what it has beyond the mean is the remainder.
use mathlib.Core.Path.{◌≡◌, refl, ap, ◌∙◌}
use Rattle.std.proofs.lemmas.List.{take_all}
use Prim.Native.Nat.{◌<◌}
use native.Mathlib.Nat.{div-add-mod', mod-lt}
use mir.Val.{Fits}
use mir.Syntax.{w32}
use native.Mathlib.Omega.{arith}
use borrow.Author.Rules.{rules}
use lib.ListN.{length, take, get_or}
use lib.Seq.{length-take-le}
use Rattle.base.specs.Lists.{sum_of}
use Rattle.rules.specs.Filling.{mean_of}
use Rattle.rules.proofs.References.{total_next}
use Rattle.rules.proofs.filling.mean_of.Goals as goal

pub returns : goal.returns
unfolding mean_of
returns c =
    let v = c.args.found.values in
    let n = c.args.found.count in
    let l : length v ≡ 4 = search rules in
    let e : c.loop-value.value-index ≡ n = omega arith in
    let p : 0 < n = omega arith in
    let k : length (take n v) ≡ n = length-take-le n v (omega arith) in
    let t : c.loop-value.sum ≡ sum_of (take n v) =
    c.loop-value.invariant.known ∙ ap sum_of (take_all c.loop-value.value-index (take n v) (omega arith)) in
    (rw (k, ← t), refl, div-add-mod' c.loop-value.sum n ∙ t, mod-lt c.loop-value.sum p)

pub loop-value-init : goal.loop-value-init
unfolding sum_of
loop-value-init c = search rules

pub loop-value-preserved : goal.loop-value-preserved
loop-value-preserved c =
    let e : Fits w32 (get_or (take c.args.found.count c.args.found.values) c.loop-value.value-index 0) = search rules in
    record {
      known = total_next (take c.args.found.count c.args.found.values) c.loop-value.value-index _ c.loop-value.invariant.known;
      small = omega arith;
    }
