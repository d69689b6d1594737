-- `days::put_runs` meets its contract.
use borrow.Author.Rules.{rules}
use mathlib.Core.Path.{◌≡◌, ap, ◌∙◌}
use Prim.Native.Nat.{◌+◌}
use native.Mathlib.Omega.{arith}
use lib.ListN.{length}
use Rattle.file.specs.Reader.{slot_at}
use Rattle.market.specs.Fields.{mark_of}
use Rattle.market.specs.Records.{runs}
use Rattle.line.proofs.Putting.{length_stored, same}
use Rattle.market.proofs.Joining.{joined_none, joined_next_0, start_none, start_next, start_le, run_piece}
use Rattle.market.proofs.days.put_runs.Goals as goal

pub loop-j-init : goal.loop-j-init
loop-j-init c =
    record {
      began = start_none _ _ _;
      early = search rules;
      added = joined_none _ _ _ _ (search rules) (search rules);
    }

pub loop-j-preserved : goal.loop-j-preserved
loop-j-preserved c =
    let l = c.loop-j in
    let a = c.args in
    let start_is = c.next_start-start.ensures
    ∙ start_next _ a.a a.n l.j _ l.start c.ends_run-ends.ensures l.invariant.began in
    record {
      began = start_is;
      early = omega (arith, start_is, start_le (λ i. mark_of a.codes (slot_at a.file.now i)) a.a a.n (l.j + 1));
      added =
          joined_next_0 _ l.j l.invariant.added
          (same (run_piece _ a.a a.n _ l.j _ l.start _ c.ends_run-ends.ensures l.invariant.began
          c.mark_at-mark.ensures) c.put_run-next.ensures);
    }

pub shape_of-out : goal.shape_of-out
shape_of-out c = ap length c.loop-j.invariant.added.has ∙ length_stored _ _ _

pub returns : goal.returns
unfolding runs
returns c =
    let done : c.loop-j.j ≡ c.args.n = omega arith in
    rw done at c.loop-j.invariant.added
