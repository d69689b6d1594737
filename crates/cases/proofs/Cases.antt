-- Every starred case of 01, and those of 02, holds of the definitions, by computing them.
use Rattle.std.proofs.Common.{refl}
use Rattle.base.specs.Lists.{sum, any, sum_of}
use Rattle.calendar.specs.Calendar.{leap, month_lengths, month_length, year_length, days_before_month, days_before_year, day_number}
use Rattle.calendar.specs.Calendar.{is_date}
use Rattle.calendar.specs.Calendar.{to_sunday}
use Rattle.rules.specs.Opening.{first_day, interval_ok, head_ok, slots_per_day, slot_count}
use Rattle.rules.specs.Tests.{is_gap, time_change_bit, outage_bit, partial_bit, cause_of, cause_at, good_at}
use Rattle.rules.specs.Weeks.{first_back, farthest_back, weeks_within}
use Rattle.rules.specs.Filling.{outage_at, outage_before, outage_after, is_outage_zero, in_run, run_before, run_from, run_start}
use Rattle.rules.specs.Filling.{run_length, is_linear}
use Rattle.rules.specs.Filling.{line_value, linear_value, is_reference, week_back, weeks_back, references, mean_of, from_references}
use Rattle.rules.specs.Filling.{is_agreed}
use Rattle.rules.specs.Filling.{filled_at, shape_of, shape_at}
use Rattle.rules.specs.Spans.{is_read, last_read, next_read, advance, range_of, least_in, is_near, state_by, share, start, slots_in, G}
use Rattle.rules.specs.Spans.{range}
use Rattle.rules.specs.Spans.{actual_sum, R, state_of, T, all_zero, e, E, C, P, new_value, in_span, between, outcome_at}
use Rattle.book.specs.Cells.{all_long, slots_fit, days_fit, reads_fit, agreed_fits, cells_fit, counts_fit, book_fits}
use Rattle.book.specs.Opening.{opened, open_answer}
use Rattle.cases.specs.Cases.{cases, Starred}

pub cases_hold : Starred
unfolding cases open_answer opened all_long slots_fit days_fit reads_fit agreed_fits cells_fit counts_fit book_fits leap month_lengths
    month_length
    year_length days_before_month days_before_year day_number is_date to_sunday first_day interval_ok head_ok slots_per_day slot_count
    is_gap time_change_bit
    outage_bit partial_bit cause_of cause_at good_at outage_at outage_before outage_after is_outage_zero in_run run_before run_from
    run_start run_length
    is_linear line_value linear_value is_reference first_back farthest_back weeks_within week_back weeks_back references sum_of mean_of
    from_references
    is_agreed filled_at shape_of shape_at sum any is_read last_read next_read advance range_of least_in is_near state_by share start
    slots_in G range
    actual_sum R state_of T all_zero e E C P new_value in_span between outcome_at
cases_hold = record {
  kind1 = (refl, refl);
  kind1_five = (refl, refl);
  kind2 = (refl, refl);
  no_day = refl;
  last_day = refl;
  day_after = refl;
  others = refl;
}
