-- The calls that fill a book, and the rules that their arguments can break (01, Numbers of a refusal, from the input; 02, W1 and W10).
use Rattle.base.specs.declared.Refusal.TheVariants.{NoPlace, VersionZero, StatusOver, ReadingOver, AgreedOver}
use Rattle.base.specs.declared.Refusal.TheVariants.{WidthOver}
use Rattle.std.specs.Prelude.{List, [], ◌∷◌, ℕ, leb, ltb, eqb}
use Rattle.base.specs.Numbers.{eight_digits}
use Rattle.base.specs.Refusals.{Rule}
use Rattle.base.specs.Refusals.Rule.{rule}
use Rattle.rules.specs.declared.Head.{Head}
use Rattle.rules.specs.Opening.{slot_count}
use Rattle.rules.specs.Numbers.{most_width}
use Rattle.book.specs.declared.calls.Call as coded
use Rattle.book.specs.declared.calls.Call.TheVariants as call

pub data Call : Type 0 where
  -- slot, version, value, status
  delivery : ℕ → ℕ → ℕ → ℕ → Call
  -- day
  holiday : ℕ → Call
  -- boundary, version, reading, width (02, W10)
  register : ℕ → ℕ → ℕ → ℕ → Call
  -- slot, version, value (02, W1)
  agreed : ℕ → ℕ → ℕ → Call

-- the call for each case of the enum
abbrev pub call_meant : coded.Call → Call
call_meant (call.Delivery slot version value status) = delivery slot version value status
call_meant (call.Holiday day) = holiday day
call_meant (call.Register boundary version reading width) = register boundary version reading width
call_meant (call.Agreed slot version value) = agreed slot version value

-- 3 slot ≥ N, day ≥ D or boundary > D; 4 version 0; 5 status over 7; 6 reading over 99,999,999; 12 agreed value over 99,999,999;
-- 17 width over 9,999
unfoldable pub argument_rules : Head → Call → List Rule
argument_rules h (delivery slot version value status) =
    rule NoPlace (leb (slot_count h) slot) ∷ rule VersionZero (eqb version 0) ∷ rule StatusOver (ltb 7 status) ∷ []
argument_rules h (holiday day) = rule NoPlace (leb h.days day) ∷ []
argument_rules h (register boundary version reading width) =
    rule NoPlace (ltb h.days boundary) ∷ rule VersionZero (eqb version 0) ∷ rule ReadingOver (ltb eight_digits reading)
    ∷ rule WidthOver (ltb most_width width) ∷ []
argument_rules h (agreed slot version value) =
    rule NoPlace (leb (slot_count h) slot) ∷ rule VersionZero (eqb version 0) ∷ rule AgreedOver (ltb eight_digits value) ∷ []
