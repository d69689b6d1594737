-- `weeks::way_within`: the farthest week is the last, or the book's first day stops the search.
use mathlib.Core.Path.{refl}
use native.Mathlib.Omega.{arith}
use Rattle.rules.specs.Weeks.{weeks_within}
use Rattle.rules.proofs.weeks.way_within.Goals as goal

pub returns : goal.returns
unfolding weeks_within
returns c = rw c.min.ensures (refl, record { short = c.requires.0; inside = omega arith; within = omega arith; all = λ x. omega arith })
