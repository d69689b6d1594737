-- Every worked figure holds of the definitions, by computing them.
use Rattle.std.proofs.Common.{◌≡◌, true, refl}
use Rattle.base.specs.Lists.{every, all}
use Rattle.calendar.specs.Calendar.{leap, month_lengths, month_length, year_length, place, date_of}
use Rattle.line.specs.Line.{digits, places, decimal}
use Rattle.market.specs.Fields.{fields, joined, kwh, date_field, code_for, mark_of, marked, one_mark, ends_run, start_of}
use Rattle.market.specs.Records.{record300, record400, runs, day_records}
use Rattle.cases.specs.Nem12.{cases}

pub nem12_cases : every cases ≡ true
unfolding cases leap month_lengths month_length year_length place date_of all digits places decimal fields joined kwh date_field code_for
    mark_of
    marked one_mark ends_run start_of record300 record400 runs day_records
nem12_cases = refl
