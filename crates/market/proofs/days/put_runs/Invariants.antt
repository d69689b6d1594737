-- `days::put_runs` meets its contract.
use Rattle.market.specs.declared.Codes.{Codes}
use mathlib.Core.Bool.{cond}
use mathlib.Core.List.{List, []}
use mathlib.Core.Path.{◌≡◌}
use Prim.Native.Nat.{ℕ, ◌≤◌, ◌+◌}
use Rattle.file.specs.Reader.{slot_at}
use Rattle.market.specs.Fields.{joined, mark_of, ends_run, start_of}
use Rattle.market.specs.Records.{record400}
use Rattle.line.specs.Inner.Writing.{Added}
use Rattle.market.proofs.days.put_runs.Given as goal

pub record Held (out₀ : List ℕ) (at : ℕ) (file : List ℕ) (codes : Codes) (a n : ℕ) (reason out : List ℕ) (next start j : ℕ) : Type 0 where
  pub began : start ≡ start_of (λ i. mark_of codes (slot_at file i)) a n j
  pub early : start ≤ j
  pub added : Added out₀ at out next
      (joined (λ k. cond (ends_run (λ i. mark_of codes (slot_at file i)) a n k)
      (record400 reason (start_of (λ i. mark_of codes (slot_at file i)) a n k + 1) (k + 1) (mark_of codes (slot_at file (a + k)))) []) 0 j)

abbrev pub invariant-loop-j : goal.invariant-loop-j
invariant-loop-j l = Held l.initial.out l.at l.file l.codes l.a l.n l.reason l.out l.next l.start l.j
