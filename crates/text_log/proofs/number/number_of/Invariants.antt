-- `number::number_of`: the value of the digits passed.
use mathlib.Core.List.{List}
use mathlib.Core.Path.{◌≡◌}
use Prim.Native.Nat.{ℕ, ◌≤◌}
use lib.ListN.{length, drop}
use Rattle.text_log.specs.Numbers.{number_of}
use Rattle.text_log.proofs.Reading.{number_after}
use Rattle.text_log.proofs.number.number_of.Given as goal

pub record Held (word : List ℕ) (value i : ℕ) : Type 0 where
  pub inside : i ≤ length word
  pub small : value ≤ 4294967295
  pub known : number_of word ≡ number_after value (drop i word)

abbrev pub invariant-loop-byte : goal.invariant-loop-byte
invariant-loop-byte l = Held l.word l.value l.byte-index
