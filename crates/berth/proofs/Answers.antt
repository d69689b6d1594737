-- What a run answers and leaves, from what its parts do.
use Rattle.base.specs.declared.Refusal.{Refusal}
use Rattle.std.specs.Prelude.{Result, Ok, Err}
use mathlib.Core.Bool.{true}
use mathlib.Core.List.{List, ◌++◌}
use mathlib.Core.Path.{◌≡◌, sym, ap, ◌∙◌}
use Prim.Native.Nat.{ℕ, ◌+◌, ◌*◌, ◌≤◌}
use native.Mathlib.Omega.{arith}
use borrow.Author.Tests.{le-ltb, ltb-false, not-false}
use lib.IntN.{pos, ◌-ℤ◌}
use lib.ListN.{length, drop}
use Rattle.base.specs.Refusals.{Rule, tested}
use Rattle.base.proofs.Refusals.{Unbroken, unless_unbroken, unless_refused, none_broken}
use Rattle.rules.specs.declared.Head.{Head}
use Rattle.rules.specs.Opening.{head_ok, slot_count}
use Rattle.book.specs.Cells.{Book, book_fits}
use Rattle.file.specs.Reader.{num}
use Rattle.publishing.specs.Publishing.{publish_after}
use Rattle.claim.specs.Claim.{left_by, plain_file}
use Rattle.claim.proofs.WholeLists.{wrote as published-after}
use Rattle.berth.specs.declared.Report.{Report}
use Rattle.berth.specs.Run.{true_total, run_calls, report_of, run_rules, simulate_answer, simulate_lists, simulate_bytes}
use Rattle.berth.specs.Inner.Refusing.{file_size}
use Rattle.berth.proofs.Written.{file_size_lem, state_back, sum_back, sum_high}

module _ (h : Head) (seed loss : ℕ) (good : head_ok h ≡ true) (out : List ℕ) (room : file_size h ≤ length out) where
  abbrev file : List ℕ
  file = plain_file h (run_calls h seed loss)

  abbrev left : List ℕ
  left = file ++ drop (length file) out

  pub wrote : {b : Book} {e : List ℕ} → b ≡ left_by h (run_calls h seed loss) → e ≡ publish_after h b out → e ≡ left
  wrote p q =
      q ∙ ap (λ (c : Book). publish_after h c out) p ∙ published-after h good (run_calls h seed loss) out
      ∙ rw (le-ltb (length out) (length file) (omega (arith, file_size_lem h seed loss good)))

  pub total_written : {e : List ℕ} → e ≡ left → num 8 e (6 * slot_count h + 34) ≤ 11_520_000_000_000
  total_written p = rw (p, sum_back h seed loss good (drop (length file) out)) (sum_high h seed loss good)

  pub reported : {r : Report} {e : List ℕ} {total : ℕ} → e ≡ left → total ≡ true_total h seed loss
      → r ≡ record {
        state = num 1 e (6 * slot_count h + 12);
        difference = pos (num 8 e (6 * slot_count h + 34)) -ℤ pos total;
        total = total;
      }
      → r ≡ report_of h seed loss
  unfolding report_of
  reported p t q =
      let rest = drop (length file) out in
      q ∙ rw (p, t, state_back h seed loss good rest, sum_back h seed loss good rest)

-- what the contract says
pub record Meant (h : Head) (seed loss : ℕ) (b : Book) (out : List ℕ) (r : Result Report Refusal) (b' : Book) (out' : List ℕ) : Type 0 where
  pub answer : r ≡ simulate_answer h seed loss b out
  pub lists : b' ≡ simulate_lists h seed loss b out
  pub bytes : out' ≡ simulate_bytes h seed loss b out

-- as the contract has them
pub each : {h : Head} {seed loss : ℕ} {b : Book} {out : List ℕ} {r : Result Report Refusal} {b' : Book} {out' : List ℕ}
    → Meant h seed loss b out r b' out'
    → (r ≡ simulate_answer h seed loss b out) × (b' ≡ simulate_lists h seed loss b out) × (out' ≡ simulate_bytes h seed loss b out)
each m = (m.answer, m.lists, m.bytes)

module _ (h : Head) (seed loss : ℕ) (b : Book) (out : List ℕ) where
  abbrev rules : List Rule
  rules = run_rules h seed loss (book_fits h b) (length out)

  -- what a test of the rules alone tells
  module _ (t : Result (Unit {0}) Refusal) (found : t ≡ tested rules) where
    pub refused : {r : Refusal} → t ≡ Err r → Meant h seed loss b out (Err r) b out
    unfolding simulate_answer simulate_lists simulate_bytes
    refused {r} broken =
        let e = unless_refused Err rules (Ok (report_of h seed loss)) r (sym found ∙ broken) in
        record { answer = sym e; lists = rw e; bytes = rw e }

    unbroken : t ≡ Ok tt → Unbroken rules
    unbroken z = none_broken rules (sym found ∙ z)

    pub passes : t ≡ Ok tt → (head_ok h ≡ true) × (book_fits h b ≡ true) × (file_size h ≤ length out)
    passes z =
        let kept = unbroken z in
        let good = not-false _ (kept 0) in
        let room : length (plain_file h (run_calls h seed loss)) ≤ length out = ltb-false _ _ (kept 2) in
        (good, not-false _ (kept 1), omega (arith, file_size_lem h seed loss good))

    pub ran : t ≡ Ok tt → {r : Report} {b' : Book} {out' : List ℕ}
        → (r ≡ report_of h seed loss)
        × (b' ≡ left_by h (run_calls h seed loss))
        × (out' ≡ plain_file h (run_calls h seed loss) ++ drop (length (plain_file h (run_calls h seed loss))) out)
        → Meant h seed loss b out (Ok r) b' out'
    unfolding simulate_answer simulate_lists simulate_bytes
    ran z made =
        let e = unless_unbroken Err rules (Ok (report_of h seed loss)) (unbroken z) in
        record { answer = ap Ok made.0 ∙ sym e; lists = rw e made.1; bytes = rw e made.2 }
