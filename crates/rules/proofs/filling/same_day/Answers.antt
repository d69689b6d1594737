-- `filling::same_day`: no reference, or the mean and its shape.
use mathlib.Core.Path.{◌≡◌, sym, ap, ◌∙◌}
use Prim.Native.Nat.{◌*◌, ◌≤◌}
use native.Mathlib.Omega.{arith}
use lib.ListN.{length, take}
use Rattle.base.specs.Lists.{sum_of}
use Rattle.rules.specs.Filling.{references, shape_of}
use Rattle.rules.specs.Lent.{slots_in}
use Rattle.rules.proofs.References.{from_none, from_some}
use Rattle.rules.proofs.Searches.{first_places}
use Rattle.rules.proofs.Shapes.{shape_exact, references_few}
use Rattle.rules.proofs.filling.same_day.Goals as goal
use Rattle.rules.proofs.filling.same_day.Goals.{After-find_references-found}

-- the references, at most four, and what is found of them
few : (c : After-find_references-found) → let a = c.args in
    length (references a.head (slots_in a.slots.now) a.holidays.now a.at) ≤ 4
few c =
    let a = c.args in
    references_few a.head (slots_in a.slots.now) a.holidays.now a.at

values : (c : After-find_references-found) → let a = c.args in let r = c.find_references-found.result in
    take r.count r.values
    ≡ references a.head (slots_in a.slots.now) a.holidays.now a.at
values c = first_places _ _ _ c.find_references-found.ensures.1 c.find_references-found.ensures.2
    (few (goal.at.After-find_references-found c).After-find_references-found)

pub returns-then-found-eq0 : goal.returns-then-found-eq0
unfolding shape_of
returns-then-found-eq0 c =
    let none = from_none _ (sym c.find_references-found.ensures.2 ∙ c.if-found-eq0.true) in
    (c.unshaped.ensures.0 ∙ sym none, rw c.unshaped.ensures.0 c.unshaped.ensures.1)

pub mean_of-mean-requires : goal.mean_of-mean-requires
mean_of-mean-requires c = (
  omega (arith, c.if-found-eq0.false),
  rw c.find_references-found.ensures.2
      (few (goal.at.mean_of-mean-requires c).After-find_references-found),
)

pub shape_of-requires : goal.shape_of-requires
shape_of-requires c =
    rw c.mean_of-mean.ensures.1 (
      omega (arith, c.if-found-eq0.false),
      rw c.find_references-found.ensures.2
          (few (goal.at.shape_of-requires c).After-find_references-found),
    )

pub returns : goal.returns
unfolding shape_of
returns c =
    let r = c.find_references-found.result in
    let x = take r.count r.values in
    let e : length x ≡ r.count = ap length (values (goal.at.returns c).After-find_references-found) ∙ sym c.find_references-found.ensures.2
    in
    let n : length x ≡ 0 → ⊥ = omega (arith, c.if-found-eq0.false) in
    let m = c.mean_of-mean.ensures in
    let q : c.shape_of.result * length x ≡ 12 * sum_of x = rw (e, ← m.2, ← m.1) c.shape_of.ensures in
    rw (← values (goal.at.returns c).After-find_references-found) (simp (from_some x n, m.0), shape_exact _ _ _ (omega arith) q)
