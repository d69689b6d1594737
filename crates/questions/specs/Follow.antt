-- The fields of an explanation as numbers for C.
use Rattle.std.specs.Prelude.{Bool, true, false, cond, not, List, [], ◌∷◌, ℕ, leb, eqb, get_or, length, Option, Some, None, is_some}
use Rattle.std.specs.Option.{unwrap_or}
use Rattle.base.specs.declared.Refusal.TheVariants.{OutsideBounds, WrongLength, NoPlace, ImpossibleCell}
use Rattle.base.specs.Refusals.{code_of, tested}
use Rattle.base.specs.Refusals.Rule.{rule}
use Rattle.rules.specs.declared.Head.{Head}
use Rattle.rules.specs.declared.linear.StraightLine.{StraightLine}
use Rattle.rules.specs.declared.filling.References.{References}
use Rattle.rules.specs.declared.tests.Cause.{Cause}
use Rattle.rules.specs.declared.tests.Cause.TheVariants as cause
use Rattle.rules.specs.Opening.{head_ok, slot_count}
use Rattle.book.specs.Cells.{Book, book_fits, book_ok}
use Rattle.file.specs.Layout.{letter}
use Rattle.explain.specs.declared.Rule.{Rule}
use Rattle.explain.specs.declared.Rule.TheVariants as applied
use Rattle.explain.specs.declared.Spanned.{Spanned}
use Rattle.explain.specs.declared.Shares.{Shares}
use Rattle.explain.specs.declared.Explanation.{Explanation}
use Rattle.explain.specs.Explain.{explanation_of}

-- the causes in the order of 01, 0 where there is none
abbrev pub cause_code : Option Cause → ℕ
cause_code None = 0
cause_code (Some cause.Gap) = 1
cause_code (Some cause.TimeChange) = 2
cause_code (Some cause.Partial) = 3
cause_code (Some cause.Demand) = 4

-- the rules as 01 numbers them, 0 for a good slot; agreed is 5, as its method is
abbrev pub rule_code : Rule → ℕ
rule_code applied.Delivered = 0
rule_code applied.Agreed = 5
rule_code applied.OutageZero = 1
rule_code (applied.Linear l) = 2
rule_code (applied.SameDay found) = 3
rule_code applied.Nothing = 4

abbrev pub bit : Bool → ℕ
bit true = 1
bit false = 0

-- what does not apply is false and 0: l, r, j and g where the rule is another than linear
abbrev pub no_line : StraightLine
no_line = record { place = 0; length = 0; left = 0; right = 0 }

abbrev pub line_in : Rule → StraightLine
line_in applied.Delivered = no_line
line_in applied.Agreed = no_line
line_in applied.OutageZero = no_line
line_in (applied.Linear l) = l
line_in (applied.SameDay found) = no_line
line_in applied.Nothing = no_line

-- references where it is another than same day
abbrev pub none_found : References
none_found = record { days = 0 ∷ 0 ∷ 0 ∷ 0 ∷ []; values = 0 ∷ 0 ∷ 0 ∷ 0 ∷ []; count = 0 }

abbrev pub found_in : Rule → References
found_in applied.Delivered = none_found
found_in applied.Agreed = none_found
found_in applied.OutageZero = none_found
found_in (applied.Linear l) = none_found
found_in (applied.SameDay found) = found
found_in applied.Nothing = none_found

-- the span outside spans, and the shares of a slot that is not scaled
abbrev pub none_spanned : Spanned
none_spanned = record { first = 0; last = 0; lowest = 0; highest = 0; advance = 0; actual = 0; state = 0 }

abbrev pub no_shares : Shares
no_shares = record { t = 0; whole = 0; passed = 0; reached = 0 }

unfoldable pub fields_of : Explanation → List ℕ
fields_of e =
    let line = line_in e.rule in
    let found = found_in e.rule in
    let span = unwrap_or e.span none_spanned in
    let shares = unwrap_or e.shares no_shares in
    cause_code e.cause ∷ rule_code e.rule
    ∷ e.filled.value ∷ letter e.filled.quality ∷ e.filled.method
    ∷ line.left ∷ line.right ∷ line.place ∷ line.length
    ∷ found.count
    ∷ get_or found.days 0 0 ∷ get_or found.days 1 0 ∷ get_or found.days 2 0 ∷ get_or found.days 3 0
    ∷ get_or found.values 0 0 ∷ get_or found.values 1 0 ∷ get_or found.values 2 0 ∷ get_or found.values 3 0
    ∷ bit (is_some e.span) ∷ span.first ∷ span.last ∷ span.lowest ∷ span.highest
    ∷ span.advance ∷ span.actual ∷ span.state
    ∷ bit (is_some e.shares) ∷ shares.t ∷ shares.whole ∷ shares.passed ∷ shares.reached
    ∷ e.outcome.value ∷ letter e.outcome.quality ∷ e.outcome.method
    ∷ []

-- 2, as for any list of a wrong length, where there are not 34 places for the fields
unfoldable pub explain_code : Head → Book → ℕ → List ℕ → ℕ
explain_code h b slot held =
    code_of (tested
    (rule OutsideBounds (not (head_ok h)) ∷ rule WrongLength (not (book_fits h b)) ∷ rule WrongLength (not (eqb (length held) 34))
    ∷ rule NoPlace (leb (slot_count h) slot) ∷ rule ImpossibleCell (not (book_ok h b)) ∷ []))

-- the fields of an explanation; a refused call leaves them
unfoldable pub fields_after : Head → Book → ℕ → List ℕ → List ℕ
fields_after h b slot held = cond (eqb (explain_code h b slot held) 0) (fields_of (explanation_of h b.cells slot)) held
