-- `reporting::report`: state and sum stand at their places.
use Rattle.berth.proofs.Differences.{minus_again}
use mathlib.Core.List.{List}
use native.Mathlib.Omega.{arith}
use mathlib.Core.Path.{◌≡◌, ap, ◌∙◌}
use lib.IntN.{pos, ◌-ℤ◌}
use Rattle.file.specs.Reader.{num}
use Rattle.berth.specs.Inner.Refusing.{file_size}
use Rattle.berth.proofs.Sends.{slots_high}
use Prim.Native.Nat.{ℕ, ◌+◌, ◌*◌}
use Rattle.berth.proofs.reporting.report.Goals as goal

-- a field's place goes by the number of slots
place_is : (k o : ℕ) (bs : List ℕ) {n m p : ℕ} → n ≡ m → p ≡ num k bs (6 * n + o) → p ≡ num k bs (6 * m + o)
place_is k o bs e f = f ∙ ap (λ (x : ℕ). num k bs (6 * x + o)) e

pub slot_count-table-requires : goal.slot_count-table-requires
slot_count-table-requires c = c.requires.0

pub overflow_mul-table : goal.overflow_mul-table
overflow_mul-table c = record { fits = omega (arith, c.slot_count-table.ensures, slots_high _ c.requires.0) }

pub overflow_add-table : goal.overflow_add-table
overflow_add-table c = record { fits = omega (arith, c.slot_count-table.ensures, slots_high _ c.requires.0) }

pub number-state-requires : goal.number-state-requires
unfolding file_size
number-state-requires c = (omega (arith, c.slot_count-table.ensures, c.requires.1), omega arith)

pub overflow_add-table-2 : goal.overflow_add-table-2
overflow_add-table-2 c = record { fits = omega (arith, c.slot_count-table.ensures, slots_high _ c.requires.0) }

pub number-published-requires : goal.number-published-requires
unfolding file_size
number-published-requires c = (omega (arith, c.slot_count-table.ensures, c.requires.1), omega arith)

pub difference-requires : goal.difference-requires
difference-requires c = (
  rw (← place_is 8 34 c.args.out.now c.slot_count-table.ensures c.number-published.ensures.0) at c.requires.2,
  c.requires.3,
)

pub returns : goal.returns
returns c =
    let n = c.slot_count-table.ensures in
    let s = place_is 1 12 c.args.out.now n c.number-state.ensures.0 in
    let p = place_is 8 34 c.args.out.now n c.number-published.ensures.0 in
    let z = minus_again _ _ (rw (← p) at c.requires.2) c.requires.3 _ c.difference.ensures
    ∙ ap (λ (k : ℕ). pos k -ℤ pos c.args.total) p in
    λ t. record { state = s t; difference = z t; total = c.args.total }
