-- `file::spans::Framed::state_ok` meets its contract.
use mathlib.Core.Path.{ap, ◌∙◌}
use Prim.Native.Nat.{◌+◌, ◌≤◌}
use native.Mathlib.Omega.{arith}
use borrow.Author.Rules.{rules}
use Rattle.file.specs.Reader.{tables_at, start_of, slots_of, file_slots, state_ok}
use Rattle.file.specs.Inner.Reading.{Ready, tallied_in}
use Rattle.file.proofs.States.{rule_same, range_same}
use Rattle.file.proofs.Inside.{room, Room, ends, ordered}
use Rattle.file.proofs.spans.Framed.state_ok.Goals as goal
use Rattle.file.proofs.spans.Framed.state_ok.Goals.{Start}

-- the span's slots are among the file's
inside : (s : Start) → Room s.args.self.now.bytes.now s.args.self.now.figures
    × (start_of (tables_at s.args.self.now.bytes.now s.args.self.now.figures) s.args.j
    + slots_of (tables_at s.args.self.now.bytes.now s.args.self.now.figures) s.args.j
    ≤ file_slots s.args.self.now.figures)
inside s =
    let ready : Ready s.args.self.now.bytes.now s.args.self.now.figures = search rules in
    (room _ _ ready, ends (tables_at s.args.self.now.bytes.now s.args.self.now.figures) s.args.j s.requires.1)

pub overflow_mul-a : goal.overflow_mul-a
overflow_mul-a c = rw (c.span_at-s.ensures, c.per_day-n.ensures.0) (omega (arith, inside (goal.at.overflow_mul-a c).Start))

pub overflow_sub-k : goal.overflow_sub-k
overflow_sub-k c =
    rw c.span_at-s.ensures
    (omega (arith, ordered (tables_at c.args.self.now.bytes.now c.args.self.now.figures) c.args.j c.requires.1))

pub overflow_mul-k : goal.overflow_mul-k
overflow_mul-k c =
    rw (c.span_at-s.ensures, c.per_day-n.ensures.0)
    (omega (arith, inside (goal.at.overflow_mul-k c).Start))

pub tally_of-found-requires : goal.tally_of-found-requires
tally_of-found-requires c =
    rw (c.span_at-s.ensures, c.per_day-n.ensures.0)
    (omega (arith, inside (goal.at.tally_of-found-requires c).Start))

pub returns : goal.returns
unfolding state_ok tallied_in
returns c =
    let s = c.span_at-s.ensures in
    let n = c.per_day-n.ensures.0 in
    let e = simp (s, n) at c.tally_of-found.ensures in
    c.state_rule.ensures
    ∙ rule_same (ap (λ x. x.state) s)
    (ap (λ t. t.none) e) (ap (λ t. t.scaled) e) (ap (λ t. t.unscaled) e) (ap (λ t. t.substituted) e)
    (c.is_within.ensures ∙ range_same (ap (λ x. x.lowest) s) (ap (λ t. t.sum) e) (ap (λ x. x.highest) s))
