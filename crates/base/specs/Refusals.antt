-- Refusals by numbered rules (01, Numbers of a refusal).
use Rattle.std.specs.Prelude.{Bool, cond, List, [], ◌∷◌, ℕ, ◌+◌, Result, Ok, Err}
use Rattle.base.specs.Numbers.{dial_modulus}
use Rattle.base.specs.declared.Refusal.{Refusal}
use Rattle.base.specs.declared.Refusal.TheVariants.{OutsideBounds, WrongLength, NoPlace, VersionZero, StatusOver, ReadingOver, ShortBuffer}
use Rattle.base.specs.declared.Refusal.TheVariants.{WrongFrame, WrongContent, Conflict, ImpossibleCell, AgreedOver, WrongLimits}
use Rattle.base.specs.declared.Refusal.TheVariants.{WrongIdentifier, WrongText, HalfByteOver, WidthOver, WrongPairs, WrongStay}
use Rattle.base.specs.declared.Refusal.TheVariants.{SeedZero, LossOver, WrongTable}

-- the papers' number of each
abbrev pub number_of : Refusal → ℕ
number_of OutsideBounds = 1
number_of WrongLength = 2
number_of NoPlace = 3
number_of VersionZero = 4
number_of StatusOver = 5
number_of ReadingOver = 6
number_of ShortBuffer = 7
number_of WrongFrame = 8
number_of WrongContent = 9
number_of Conflict = 10
number_of ImpossibleCell = 11
number_of AgreedOver = 12
number_of WrongLimits = 13
number_of WrongIdentifier = 14
number_of WrongText = 15
number_of HalfByteOver = 16
number_of WidthOver = 17
number_of WrongPairs = 18
number_of WrongStay = 19
number_of SeedZero = 20
number_of LossOver = 21
number_of WrongTable = 22

-- a refusal, and whether its rule is broken
pub data Rule : Type 0 where
  rule : Refusal → Bool → Rule

-- the first broken rule's refusal, or the answer where none is broken; "The lowest applying number is given" by the rules' order
abbrev pub unless : {X : Type 0} → (Refusal → X) → List Rule → X → X
unless refused [] answer = answer
unless refused (rule r broken ∷ rules) answer = cond broken (refused r) (unless refused rules answer)

-- a call's answer as a `Result`: what it has to tell, or the first broken rule's refusal
abbrev pub answered : {X : Type 0} → List Rule → X → Result X Refusal
answered rules x = unless Err rules (Ok x)

-- of a call that has nothing to tell
abbrev pub tested : List Rule → Result (Unit {0}) Refusal
tested rules = answered rules tt

-- ---- Answers as one number, for C

-- "0 or the refusal" (02, W9)
abbrev pub code_of : {X : Type 0} → Result X Refusal → ℕ
code_of (Ok x) = 0
code_of (Err r) = number_of r

-- a length, which is above every refusal's number, or the refusal
abbrev pub length_code : Result ℕ Refusal → ℕ
length_code (Ok n) = n
length_code (Err r) = number_of r

-- "the reading, or 100,000,000 plus the refusal" (02, W9), and a limit (02, W5) or a slot alike
abbrev pub number_code : Result ℕ Refusal → ℕ
number_code (Ok n) = n
number_code (Err r) = dial_modulus + number_of r
