-- A run from a seed: its calls, what it reports, and what it leaves (02, W12).
use Rattle.base.specs.declared.Refusal.TheVariants.{OutsideBounds, WrongLength, ShortBuffer, SeedZero, LossOver}
use Rattle.base.specs.declared.Refusal.{Refusal}
use Rattle.std.specs.Prelude.{Bool, cond, not, List, [], ◌∷◌, ◌++◌, ℕ, zero, suc, ◌%◌, ltb, eqb, pos, ◌-ℤ◌, length, drop, Result, Ok, Err}
use Rattle.base.specs.Lists.{sum}
use Rattle.base.specs.Refusals.{Rule, answered}
use Rattle.base.specs.Refusals.Rule.{rule}
use Rattle.base.specs.Numbers.{dial_modulus}
use Rattle.rules.specs.declared.Head.{Head}
use Rattle.rules.specs.Opening.{head_ok, slot_count}
use Rattle.rules.specs.Spans.{state_of}
use Rattle.book.specs.Arguments.{Call}
use Rattle.book.specs.Arguments.Call.{delivery, register}
use Rattle.book.specs.Cells.{Book, book_fits}
use Rattle.file.specs.Layout.{figures_of}
use Rattle.publishing.specs.Publishing.{published}
use Rattle.claim.specs.Claim.{left_by, plain_of, plain_file}
use Rattle.berth.specs.declared.Report.{Report}
use Rattle.berth.specs.Steps.{lost_at, value_at}

-- of a lost slot nothing is sent, of another its true value as version 1, status 0
unfoldable pub sent_at : Head → ℕ → ℕ → ℕ → List Call
sent_at h seed loss i = cond (lost_at h seed loss i) [] (delivery i 1 (value_at h seed loss i) 0 ∷ [])

-- of the first i slots
unfoldable pub sent : Head → ℕ → ℕ → ℕ → List Call
sent h seed loss zero = []
sent h seed loss (suc i) = sent h seed loss i ++ sent_at h seed loss i

unfoldable pub true_total : Head → ℕ → ℕ → ℕ
true_total h seed loss = sum (value_at h seed loss) 0 (slot_count h)

-- "The dial is read as 0 at boundary 0 and as the true total modulo 100,000,000 at boundary D, each version 1 and width 0"
unfoldable pub dial_reads : Head → ℕ → List Call
dial_reads h total = register 0 1 0 0 ∷ register h.days 1 (total % dial_modulus) 0 ∷ []

-- the calls of a run
unfoldable pub run_calls : Head → ℕ → ℕ → List Call
run_calls h seed loss = sent h seed loss (slot_count h) ++ dial_reads h (true_total h seed loss)

-- "that span's state and, as a signed number, the published total minus the true total", and the true total
unfoldable pub report_of : Head → ℕ → ℕ → Report
report_of h seed loss =
    let book = plain_of h (run_calls h seed loss) in
    record {
      state = state_of h book 0 h.days;
      difference = pos (figures_of (published h book)).sum -ℤ pos (true_total h seed loss);
      total = true_total h seed loss;
    }

-- 20 for a seed of 0, 21 for a loss rate over 1000, after 1, 2 and 7, here for a buffer of `room` bytes that is shorter than the file of
-- the run's calls; `fit` says that the lists have their lengths
abbrev pub run_rules : Head → ℕ → ℕ → Bool → ℕ → List Rule
run_rules h seed loss fit room =
    rule OutsideBounds (not (head_ok h)) ∷ rule WrongLength (not fit)
    ∷ rule ShortBuffer (ltb room (length (plain_file h (run_calls h seed loss))))
    ∷ rule SeedZero (eqb seed 0) ∷ rule LossOver (ltb 1000 loss) ∷ []

unfoldable pub simulate_answer : Head → ℕ → ℕ → Book → List ℕ → Result Report Refusal
simulate_answer h seed loss b out = answered (run_rules h seed loss (book_fits h b) (length out)) (report_of h seed loss)

-- a refusal changes no byte of any list or buffer
abbrev pub lists_with : Result Report Refusal → Book → Book → Book
lists_with (Ok r) left b = left
lists_with (Err n) left b = b

abbrev pub bytes_with : Result Report Refusal → List ℕ → List ℕ → List ℕ
bytes_with (Ok r) file out = file ++ drop (length file) out
bytes_with (Err n) file out = out

-- the lists are those that the calls of the run leave
unfoldable pub simulate_lists : Head → ℕ → ℕ → Book → List ℕ → Book
simulate_lists h seed loss b out = lists_with (simulate_answer h seed loss b out) (left_by h (run_calls h seed loss)) b

-- the file is the plain book's; bytes after it stay
unfoldable pub simulate_bytes : Head → ℕ → ℕ → Book → List ℕ → List ℕ
simulate_bytes h seed loss b out = bytes_with (simulate_answer h seed loss b out) (plain_file h (run_calls h seed loss)) out
