-- What a host is given of a run (02, W12): a number, and a report of two, the state and the difference.
use Rattle.std.specs.Prelude.{◌&&◌, List, [], ◌∷◌, ℕ, eqb, ℤ, pos, length, Result, Ok, Err}
use Rattle.base.specs.declared.Refusal.{Refusal}
use Rattle.base.specs.Refusals.{answered}
use Rattle.rules.specs.declared.Head.{Head}
use Rattle.book.specs.Cells.{Book, book_fits}
use Rattle.claim.specs.Claim.{left_by, plain_file}
use Rattle.berth.specs.declared.Report.{Report}
use Rattle.berth.specs.Run.{run_calls, report_of, run_rules, lists_with, bytes_with}

-- a report of another length is a list of the wrong length, 2
unfoldable pub host_answer : Head → ℕ → ℕ → Book → List ℕ → List ℤ → Result Report Refusal
host_answer h seed loss b out report =
    answered (run_rules h seed loss (eqb (length report) 2 && book_fits h b) (length out)) (report_of h seed loss)

abbrev pub report_in : Result Report Refusal → List ℤ → List ℤ
report_in (Ok r) report = pos r.state ∷ r.difference ∷ []
report_in (Err r) report = report

-- the ten lists, the buffer and the report afterwards
unfoldable pub host_lists : Head → ℕ → ℕ → Book → List ℕ → List ℤ → Book
host_lists h seed loss b out report = lists_with (host_answer h seed loss b out report) (left_by h (run_calls h seed loss)) b

unfoldable pub host_bytes : Head → ℕ → ℕ → Book → List ℕ → List ℤ → List ℕ
host_bytes h seed loss b out report = bytes_with (host_answer h seed loss b out report) (plain_file h (run_calls h seed loss)) out

unfoldable pub host_report : Head → ℕ → ℕ → Book → List ℕ → List ℤ → List ℤ
host_report h seed loss b out report = report_in (host_answer h seed loss b out report) report
