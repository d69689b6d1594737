-- `writing::places` meets its contract.
use mathlib.Core.Path.{◌≡◌}
use Prim.Native.Nat.{◌-◌, ◌+◌}
use native.Mathlib.Omega.{arith}
use borrow.Author.Rules.{rules}
use Rattle.line.specs.Line.{places}
use Rattle.line.proofs.Digits.{places_small, places_more, places_last}
use Rattle.line.proofs.writing.places.Goals as goal

pub returns-then-rest-lt10 : goal.returns-then-rest-lt10
returns-then-rest-lt10 c = let l = c.loop-k in omega (arith, l.invariant, places_small (20 - l.k) l.rest (search rules))

pub loop-k-preserved : goal.loop-k-preserved
loop-k-preserved c =
    let l = c.loop-k in
    omega (arith, l.invariant, places_more l.k l.rest (search rules) (search rules))

pub returns : goal.returns
returns c =
    let l = c.loop-k in
    let done : 20 - l.k ≡ 0 = omega arith in
    let all : places 19 c.args.n + 1 ≡ l.k + places 0 l.rest = rw done at l.invariant in
    omega (arith, places_last l.rest)
