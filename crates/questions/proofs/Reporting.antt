-- What a host is given of a run, from what the run answers and leaves.
use mathlib.Core.Bool.{true, false}
use mathlib.Core.List.{List, [], ◌∷◌}
use mathlib.Core.Path.{◌≡◌, refl, ap, ◌∙◌}
use Prim.Native.Nat.{ℕ}
use native.Mathlib.Omega.{arith}
use borrow.Author.Tests.{eq-eqb, ne_eqb}
use lib.IntN.{ℤ}
use lib.ListN.{length, set}
use Rattle.rules.specs.declared.Head.{Head}
use Rattle.rules.specs.Opening.{head_ok}
use Rattle.book.specs.Cells.{Book}
use Rattle.std.specs.Prelude.{Result}
use Rattle.base.specs.declared.Refusal.{Refusal}
use Rattle.base.specs.Refusals.{code_of}
use Rattle.berth.specs.declared.Report.{Report}
use Rattle.berth.specs.Run.{simulate_answer, simulate_lists, simulate_bytes}
use Rattle.questions.specs.Simulating.{host_answer, report_in, host_lists, host_bytes, host_report}

-- both places of a report
pub two_set : (l : List ℤ) (x y : ℤ) → length l ≡ 2 → set (set l 0 x) 1 y ≡ x ∷ y ∷ []
two_set [] x y e = absurd (omega arith)
two_set (a ∷ []) x y e = absurd (omega arith)
two_set (a ∷ b ∷ []) x y e = refl
two_set (a ∷ b ∷ c ∷ l) x y e = absurd (omega arith)

-- what the contract says
pub record Given (h : Head) (seed loss : ℕ) (b : Book) (out : List ℕ) (report : List ℤ) (r : ℕ) (b' : Book) (out' : List ℕ)
    (report' : List ℤ) : Type 0 where
  pub code : r ≡ code_of (host_answer h seed loss b out report)
  pub lists : b' ≡ host_lists h seed loss b out report
  pub bytes : out' ≡ host_bytes h seed loss b out report
  pub told : report' ≡ host_report h seed loss b out report

-- the ten lists one by one, as the contract has them
pub each : {h : Head} {seed loss : ℕ} {b : Book} {out : List ℕ} {report : List ℤ} {r : ℕ} {b' : Book} {out' : List ℕ} {report' : List ℤ}
    → Given h seed loss b out report r b' out' report'
    → (r ≡ code_of (host_answer h seed loss b out report))
    × (b' ≡ host_lists h seed loss b out report)
    × (out' ≡ host_bytes h seed loss b out report)
    × (report' ≡ host_report h seed loss b out report)
each m = (m.code, m.lists, m.bytes, m.told)

-- g is the head that was made of the numbers
module _ (g h : Head) (same : g ≡ h) (seed loss : ℕ) (b : Book) (out : List ℕ) (report : List ℤ) where
  pub bad_head : head_ok g ≡ false → Given h seed loss b out report 1 b out report
  unfolding host_answer host_lists host_bytes host_report
  bad_head e = let f = rw same at e in record { code = rw f; lists = rw f; bytes = rw f; told = rw f }

  pub bad_report : head_ok g ≡ true → (length report ≡ 2 → ⊥) → Given h seed loss b out report 2 b out report
  unfolding host_answer host_lists host_bytes host_report
  bad_report e n =
      let f = rw same at e in
      let k = ne_eqb (length report) 2 n in
      record { code = rw (f, k); lists = rw (f, k); bytes = rw (f, k); told = rw (f, k) }

  pub run_told : length report ≡ 2 → (s : Result Report Refusal) {r : ℕ} {b' : Book} {out' : List ℕ} {report' : List ℤ}
      → s ≡ simulate_answer g seed loss b out → b' ≡ simulate_lists g seed loss b out → out' ≡ simulate_bytes g seed loss b out
      → r ≡ code_of s → report' ≡ report_in s report
      → Given h seed loss b out report r b' out' report'
  unfolding host_answer host_lists host_bytes host_report simulate_answer simulate_lists simulate_bytes
  run_told two s e lists bytes code told =
      let k = eq-eqb (length report) 2 two in
      record {
        code = rw (k, ← same) (code ∙ ap code_of e);
        lists = rw (k, ← same) lists;
        bytes = rw (k, ← same) bytes;
        told = rw (k, ← same) (told ∙ ap (λ (x : Result Report Refusal). report_in x report) e);
      }
