-- The whole case holds of the definitions, by computing them.
use Rattle.std.proofs.Common.{refl}
use Rattle.base.specs.Lists.{sum, any, all}
use Rattle.rules.specs.Opening.{interval_ok}
use Rattle.file.specs.Layout.{bytes, row, table, total, figures_of, tables_of, file_of}
use Rattle.file.specs.Reader.{num, slot_at, read_span, figures, layout_ok, layout_fits, record_ok, span_ok, state_ok, outside_ok}
use Rattle.file.specs.Reader.{trailer_ok}
use Rattle.file.specs.Reader.{tables_ok, figures_ok, read_file}
use Rattle.cases.specs.Whole.{WholeCase}

pub whole_case : WholeCase
unfolding bytes row table total figures_of tables_of file_of num slot_at read_span figures layout_ok layout_fits record_ok span_ok state_ok
    outside_ok
    trailer_ok tables_ok figures_ok read_file all sum any interval_ok
whole_case = record { trailer = refl; whole = refl; in_two = refl; in_one = refl; ranged = refl }
