-- `deliver`: the first broken rule is given; else the answer, the cells and the counts are those of `file_delivery`.
use Rattle.base.specs.declared.Refusal.TheVariants.{WrongLength}
use mathlib.Core.Bool.{true, ◌&&◌}
use mathlib.Core.Path.{◌≡◌, refl, ◌∙◌}
use Prim.Native.Nat.{ℕ, ◌<◌, ◌≤◌}
use native.Mathlib.Omega.{arith}
use lib.ListN.{drop}
use borrow.Author.Tests.{le-leb, lt-leb, lt-ltb, le-ltb, eq-eqb, ne_eqb}
use Rattle.base.specs.Refusals.{unless}
use Rattle.base.proofs.Logic.{and_parts}
use Rattle.rules.specs.Opening.{head_ok, slot_count, Slots}
use Rattle.book.specs.Answers.{Answer}
use Rattle.book.specs.Answers.Answer.{refused}
use Rattle.book.specs.Arguments.{argument_rules}
use Rattle.book.specs.Arguments.Call.{delivery}
use Rattle.book.specs.Cells.{slots_fit, counts_fit}
use Rattle.book.specs.Filling.{input_rules, against_delivery, deliver_answer, deliver_after, counts_after}
use Rattle.book.specs.Written.{written_slots}
use Rattle.book.specs.Inner.Lent.{Deliverable}
use Rattle.book.proofs.Fits.{long}
use Rattle.book.proofs.Tested.{passes, fails, refused_2, past_both}
use Rattle.book.proofs.deliver.Goals as goal
use Rattle.book.proofs.deliver.Goals.{After-delivery_fits, Else-not-delivery_fits, Else-not-head_ok, Else-slot_count-at, Else-status-gt7}
use Rattle.book.proofs.deliver.Goals.{Else-version-eq0, Start, Then-not-delivery_fits}

abbrev lent : Start → Slots
lent c = written_slots c.args.slots.now

-- the answer, and what is left of it past the first k rules
abbrev whole : Start → Answer
whole c =
    deliver_answer c.args.head (lent (goal.at.Start c).Start) c.args.counts.now c.args.slot c.args.version c.args.value c.args.status

abbrev past : ℕ → Start → Answer
past k c =
    unless refused
    (drop k
    (input_rules c.args.head (slots_fit c.args.head (lent (goal.at.Start c).Start) && counts_fit c.args.head c.args.counts.now)
    (delivery c.args.slot c.args.version c.args.value c.args.status)))
    (against_delivery c.args.head (lent (goal.at.Start c).Start) c.args.counts.now c.args.slot c.args.version c.args.value c.args.status)

head_passed : (c : Else-not-head_ok) → head_ok c.args.head ≡ true
head_passed c = passes c.head_ok.ensures c.if-not-head_ok.false

fits_told : (c : After-delivery_fits)
    → c.delivery_fits.result ≡ (slots_fit c.args.head (lent (goal.at.After-delivery_fits c).Start) && counts_fit c.args.head
    c.args.counts.now)
unfolding slots_fit counts_fit
fits_told c = c.delivery_fits.ensures

lists_broken : (c : Then-not-delivery_fits) → whole (goal.at.Then-not-delivery_fits c).Start ≡ refused WrongLength
unfolding deliver_answer
lists_broken c = refused_2 _ _ _ _ (head_passed (goal.at.Then-not-delivery_fits c).Else-not-head_ok)
    (fails (fits_told (goal.at.Then-not-delivery_fits c).After-delivery_fits) c.if-not-delivery_fits.true)

past_2 : (c : Else-not-delivery_fits) → whole (goal.at.Else-not-delivery_fits c).Start ≡ past 2 (goal.at.Else-not-delivery_fits c).Start
unfolding deliver_answer
past_2 c = past_both _ _ _ _ (head_passed (goal.at.Else-not-delivery_fits c).Else-not-head_ok)
    (passes (fits_told (goal.at.Else-not-delivery_fits c).After-delivery_fits) c.if-not-delivery_fits.false)

under : (c : Else-slot_count-at) → c.args.slot < slot_count c.args.head
under c = omega (arith, c.slot_count.ensures, c.if-slot_count-at.false)

past_3 : (c : Else-slot_count-at) → whole (goal.at.Else-slot_count-at c).Start ≡ past 3 (goal.at.Else-slot_count-at c).Start
unfolding argument_rules
past_3 c = past_2 (goal.at.Else-slot_count-at c).Else-not-delivery_fits ∙ rw
    (lt-leb _ _ (under (goal.at.Else-slot_count-at c).Else-slot_count-at))

past_4 : (c : Else-version-eq0) → whole (goal.at.Else-version-eq0 c).Start ≡ past 4 (goal.at.Else-version-eq0 c).Start
unfolding argument_rules
past_4 c = past_3 (goal.at.Else-version-eq0 c).Else-slot_count-at ∙ rw (ne_eqb _ _ c.if-version-eq0.false)

past_5 : (c : Else-status-gt7)
    → whole (goal.at.Else-status-gt7 c).Start
    ≡ against_delivery c.args.head (lent (goal.at.Else-status-gt7 c).Start)
    c.args.counts.now
    c.args.slot c.args.version c.args.value
    c.args.status
unfolding argument_rules
past_5 c =
    let small : c.args.status ≤ 7 = omega (arith, c.if-status-gt7.false) in
    past_4 (goal.at.Else-status-gt7 c).Else-version-eq0 ∙ rw (le-ltb _ _ small)

-- what `file_delivery` asks
deliverable : (c : Else-slot_count-at) → Deliverable c.args.head (lent (goal.at.Else-slot_count-at c).Start) c.args.counts.now c.args.slot
deliverable c =
    let parts = and_parts _ _ (passes c.delivery_fits.ensures c.if-not-delivery_fits.false) in
    let fits = long _ _ parts.0 in
    record {
      fitted = record {
        head = head_passed (goal.at.Else-slot_count-at c).Else-not-head_ok;
        values = fits 0;
        versions = fits 1;
        statuses =
            fits 2;
      };
      counts = long _ _ parts.1 0;
      inside = under (goal.at.Else-slot_count-at c).Else-slot_count-at;
    }

pub returns-then-not-head_ok-clause-told : goal.returns-then-not-head_ok-clause-told
unfolding deliver_answer deliver_after counts_after
returns-then-not-head_ok-clause-told c = rw (fails c.head_ok.ensures c.if-not-head_ok.true) (refl, refl, refl)

pub delivery_fits-requires : goal.delivery_fits-requires
delivery_fits-requires c = head_passed (goal.at.delivery_fits-requires c).Else-not-head_ok

pub returns-then-not-delivery_fits-clause-told : goal.returns-then-not-delivery_fits-clause-told
unfolding deliver_after counts_after
returns-then-not-delivery_fits-clause-told c =
    rw (lists_broken (goal.at.returns-then-not-delivery_fits-clause-told c).Then-not-delivery_fits) (refl, refl, refl)

pub slot_count-requires : goal.slot_count-requires
slot_count-requires c = head_passed (goal.at.slot_count-requires c).Else-not-head_ok

pub returns-then-slot_count-at-clause-told : goal.returns-then-slot_count-at-clause-told
unfolding deliver_after counts_after argument_rules
returns-then-slot_count-at-clause-told c =
    let over : slot_count c.args.head ≤ c.args.slot =
    omega (arith, c.slot_count.ensures, c.if-slot_count-at.true) in
    rw (past_2 (goal.at.returns-then-slot_count-at-clause-told c).Else-not-delivery_fits, le-leb _ _ over) (refl, refl, refl)

pub returns-then-version-eq0-clause-told : goal.returns-then-version-eq0-clause-told
unfolding deliver_after counts_after argument_rules
returns-then-version-eq0-clause-told c =
    rw (past_3 (goal.at.returns-then-version-eq0-clause-told c).Else-slot_count-at, eq-eqb _ _ c.if-version-eq0.true) (refl, refl, refl)

pub returns-then-status-gt7-clause-told : goal.returns-then-status-gt7-clause-told
unfolding deliver_after counts_after argument_rules
returns-then-status-gt7-clause-told c =
    let over : 7 < c.args.status = omega (arith, c.if-status-gt7.true) in
    rw (past_4 (goal.at.returns-then-status-gt7-clause-told c).Else-version-eq0, lt-ltb _ _ over) (refl, refl, refl)

pub file_delivery-requires : goal.file_delivery-requires
file_delivery-requires c = deliverable (goal.at.file_delivery-requires c).Else-slot_count-at

pub returns-clause-told : goal.returns-clause-told
unfolding deliver_after counts_after
returns-clause-told c =
    let e = c.file_delivery.ensures.told in
    rw (past_5 (goal.at.returns-clause-told c).Else-status-gt7) e
