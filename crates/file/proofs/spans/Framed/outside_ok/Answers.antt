-- `file::spans::Framed::outside_ok` meets its contract.
use Prim.Native.Nat.{ℕ, ◌-◌, ◌<◌}
use native.Mathlib.Omega.{arith}
use borrow.Author.Rules.{rules}
use Rattle.file.specs.Inner.Reading.{Ready}
use Rattle.file.specs.Reader.{tables_at}
use Rattle.file.proofs.Outside.{no_spans, edge_fails, edge_passes}
use Rattle.file.proofs.Inside.{inside, Inside}
use Rattle.file.proofs.spans.Framed.outside_ok.Goals as goal
use Rattle.file.proofs.spans.Framed.outside_ok.Goals.{Start}

-- span j lies inside
lies : (s : Start) (j : ℕ) → j < s.args.self.now.figures.spans → Inside s.args.self.now.bytes.now s.args.self.now.figures j
lies s j l =
    let ready : Ready s.args.self.now.bytes.now s.args.self.now.figures = search rules in
    inside s.args.self.now.bytes.now s.args.self.now.figures ready s.requires j l

pub returns-then-m-eq0 : goal.returns-then-m-eq0
returns-then-m-eq0 c =
    let args = c.args in
    let pre = c.requires in
    let slot-count = c.slot_count-slots in
    rw (c.has_scaled.ensures, slot-count.ensures.0) (no_spans (tables_at args.self.now.bytes.now args.self.now.figures) pre c.if-m-eq0.true)

pub overflow_mul-start : goal.overflow_mul-start
overflow_mul-start c =
    let if1 = c.if-m-eq0 in
    let per-day = c.per_day-n in
    rw (c.span_at-first.ensures, per-day.ensures.0) (omega (arith, lies (goal.at.overflow_mul-start c).Start 0 (omega (arith, if1.false))))

pub has_scaled-requires-2 : goal.has_scaled-requires-2
has_scaled-requires-2 c =
    let if1 = c.if-m-eq0 in
    let per-day = c.per_day-n in
    rw (c.span_at-first.ensures, per-day.ensures.0)
    (omega (arith, lies (goal.at.has_scaled-requires-2 c).Start 0 (omega (arith, if1.false))))

pub returns-then-has_scaled : goal.returns-then-has_scaled
returns-then-has_scaled c =
    let args = c.args in
    let pre = c.requires in
    let if1 = c.if-m-eq0 in
    let per-day = c.per_day-n in
    let span-at = c.span_at-first in
    edge_fails (tables_at args.self.now.bytes.now args.self.now.figures) pre (args.self.now.figures.spans - 1)
    (omega (arith, if1.false)) (rw (c.has_scaled-2.ensures, span-at.ensures, per-day.ensures.0) at
    c.if-has_scaled.true)

pub overflow_mul-end : goal.overflow_mul-end
overflow_mul-end c =
    let args = c.args in
    let if1 = c.if-m-eq0 in
    let per-day = c.per_day-n in
    rw (c.span_at-last.ensures, per-day.ensures.0)
    (omega (arith, lies (goal.at.overflow_mul-end c).Start (args.self.now.figures.spans - 1) (omega (arith, if1.false))))

pub overflow_sub-slots : goal.overflow_sub-slots
overflow_sub-slots c =
    let args = c.args in
    let slot-count = c.slot_count-slots in
    let if1 = c.if-m-eq0 in
    let per-day = c.per_day-n in
    simp (c.span_at-last.ensures, per-day.ensures.0, slot-count.ensures.0)
    (omega (arith, lies (goal.at.overflow_sub-slots c).Start (args.self.now.figures.spans - 1) (omega (arith, if1.false))))

pub has_scaled-requires-3 : goal.has_scaled-requires-3
has_scaled-requires-3 c =
    let args = c.args in
    let slot-count = c.slot_count-slots in
    let if1 = c.if-m-eq0 in
    let per-day = c.per_day-n in
    simp (c.span_at-last.ensures, per-day.ensures.0, slot-count.ensures.0)
    (omega (arith, lies (goal.at.has_scaled-requires-3 c).Start (args.self.now.figures.spans - 1) (omega (arith, if1.false))))

pub returns : goal.returns
returns c =
    let args = c.args in
    let pre = c.requires in
    let slot-count = c.slot_count-slots in
    let if1 = c.if-m-eq0 in
    let per-day = c.per_day-n in
    let span-at = c.span_at-first in
    let has-scaled2 = c.has_scaled-2 in
    let if2 = c.if-has_scaled in
    let span-at2 = c.span_at-last in
    simp (c.has_scaled-3.ensures, span-at2.ensures, per-day.ensures.0, slot-count.ensures.0)
    (edge_passes (tables_at args.self.now.bytes.now args.self.now.figures) pre (args.self.now.figures.spans - 1)
    (omega (arith, if1.false)) (simp (has-scaled2.ensures, span-at.ensures, per-day.ensures.0) at if2.false))
