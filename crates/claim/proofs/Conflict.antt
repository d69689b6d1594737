-- Two figures for one slot under one version: the first that comes is kept, so the order of a conflict matters.
use mathlib.Core.List.Memᴰ
use mathlib.Core.List.{[], ◌∷◌, Memᴰ}
use mathlib.Core.Path.{◌≡◌, refl, ap}
use Prim.Native.Nat.{◌<◌}
use native.Mathlib.Omega.{arith}
use Rattle.base.specs.Lists.{sum, up_to}
use Rattle.calendar.specs.Calendar.{leap, month_lengths, month_length, year_length, days_before_month, days_before_year, day_number}
use Rattle.calendar.specs.Calendar.{is_date}
use Rattle.rules.specs.declared.Head.{Head}
use Rattle.rules.specs.declared.Outcome.{Outcome}
use Rattle.rules.specs.Opening.{head_ok, interval_ok, first_day, slots_per_day, slot_count}
use Rattle.rules.specs.Tests.{is_gap, time_change_bit, partial_bit, cause_of, cause_at, good_at}
use Rattle.rules.specs.Filling.{filled_at}
use Rattle.rules.specs.Spans.{is_read, last_read, next_read, between, outcome_at}
use Rattle.book.specs.Answers.{by_version}
use Rattle.book.specs.Answers.Answer.{done}
use Rattle.book.specs.Arguments.{Call, argument_rules}
use Rattle.book.specs.Arguments.Call.{delivery}
use Rattle.book.specs.Cells.{all_long, slots_fit, days_fit, reads_fit, agreed_fits, cells_fit, counts_fit, book_fits}
use Rattle.book.specs.Opening.{opened, open_answer}
use Rattle.book.specs.Plain.{deliveries, kept_reads, highest_version, content_with, against_kept, plain_answer, keep, kept_of, book_of}
use Rattle.claim.specs.Claim.{plain_of, ConflictMatters}
use Rattle.claim.proofs.WholeLists.{claim}

-- one day of half hours
abbrev day : Head
day = record { year = 2024; month = 5; day = 1; days = 1; interval = 30; limit = 40_000; tolerance = 0 }

-- slot 0 as 5 Wh and as 6 Wh, both version 1
abbrev five : Call
five = delivery 0 1 5 0

abbrev six : Call
six = delivery 0 1 6 0

opens : open_answer day (opened day) ≡ done
unfolding open_answer opened book_fits cells_fit slots_fit days_fit reads_fit agreed_fits counts_fit all_long head_ok interval_ok first_day
    slots_per_day
    slot_count leap month_lengths month_length year_length days_before_month days_before_year day_number is_date sum
opens = refl

-- either order has the same calls
turned : (a b x : Call) → Memᴰ x (a ∷ b ∷ []) → Memᴰ x (b ∷ a ∷ [])
turned a b x (Memᴰ.head e) = Memᴰ.tail (Memᴰ.head e)
turned a b x (Memᴰ.tail (Memᴰ.head e)) = Memᴰ.head e
turned a b x (Memᴰ.tail (Memᴰ.tail m)) = absurd (Memᴰ.not-nil m)

-- what is published of slot 0, by computing it
published_first : ((outcome_at day (plain_of day (five ∷ six ∷ [])) 0).value ≡ 5)
    × ((outcome_at day (plain_of day (six ∷ five ∷ [])) 0).value ≡ 6)
unfolding outcome_at between last_read next_read is_read filled_at good_at cause_at cause_of is_gap time_change_bit partial_bit up_to
    book_of kept_of keep
    plain_answer against_kept deliveries kept_reads highest_version content_with argument_rules by_version head_ok interval_ok first_day
    slots_per_day
    slot_count leap month_lengths month_length year_length days_before_month days_before_year day_number is_date sum
published_first = (refl, refl)

inside : 0 < slot_count day
unfolding slot_count slots_per_day
inside = omega arith

pub conflict_matters : ConflictMatters
conflict_matters = record {
  head = day;
  lists = opened day;
  opening = opens;
  ours = five ∷ six ∷ [];
  theirs = six ∷ five ∷ [];
  calls = λ x. (turned five six x, turned six five x);
  differ = λ e.
      let same = (claim day day (opened day) (opened day) (five ∷ six ∷ []) (six ∷ five ∷ []) opens opens).equal_exactly.0 e in
      let value = ap (λ (o : Outcome). o.value) (same.slots 0 inside) in
      let first = published_first in
      omega (arith, value, first.0, first.1);
}
