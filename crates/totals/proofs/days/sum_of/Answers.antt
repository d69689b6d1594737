-- `days::sum_of`: after i turns the sum is that of i slots.
use mathlib.Core.Path.{◌≡◌, sym, ap₂, ◌∙◌}
use Prim.Native.Nat.{◌+◌}
use native.Mathlib.Omega.{arith}
use borrow.Author.Rules.{rules}
use Rattle.base.proofs.Sums.{sum_empty, sum_more}
use Rattle.totals.proofs.days.sum_of.Goals as goal

pub loop-i-init : goal.loop-i-init
loop-i-init c = record { known = sym (sum_empty _ _); small = search rules }

pub loop-i-preserved : goal.loop-i-preserved
loop-i-preserved c =
    record {
      known =
          ap₂ ◌+◌ c.loop-i.invariant.known c.value_at-energy.ensures.0
          ∙ sym (sum_more _ c.args.a c.loop-i.i);
      small = omega (arith, c.value_at-energy.ensures.1, c.loop-i.invariant.small);
    }

pub returns : goal.returns
returns c =
    let done : c.loop-i.i ≡ c.args.k = omega arith in
    (rw done at c.loop-i.invariant.known, rw done at c.loop-i.invariant.small)
