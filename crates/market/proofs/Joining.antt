-- Records and fields from their parts, and what a turn of a loop adds to them.
use Rattle.std.specs.Prelude.{None, Some}
use mathlib.Core.Bool.{Bool, true, false, cond}
use mathlib.Core.List.{List, [], ◌∷◌, ◌++◌, append_assoc, append-nil}
use mathlib.Core.Path.{◌≡◌, refl, sym, ap}
use Prim.Native.Nat.{ℕ, zero, suc, ◌+◌, ◌*◌, ◌^◌, ◌≤◌, ◌<◌}
use native.Mathlib.Nat.{zero-add, suc-mul, mul_comm, mul-le-mul_right}
use native.Mathlib.Numerals.{add-one}
use native.Mathlib.Omega.{arith}
use lib.ListN.{length}
use Rattle.line.specs.Line.{digits}
use Rattle.market.specs.declared.marks.Mark.{Mark}
use Rattle.market.specs.Fields.{field, joined, marked, one_mark, ends_run, start_of, day_mark}
use Rattle.market.specs.Records.{record300, record400, runs, day_records}
use Rattle.line.specs.Inner.Writing.{Added}
use Rattle.line.proofs.Putting.{nothing, then, same}

-- ---- A list of texts

pub joined_none : (f : ℕ → List ℕ) (a : ℕ) (d : List ℕ) (at : ℕ) → length d < 2 ^ 64 → at < 2 ^ 64 → Added d at d at (joined f a 0)
unfolding joined
joined_none f a d at fits l = nothing d at fits l

joined_more : (f : ℕ → List ℕ) (a i : ℕ) → joined f a (i + 1) ≡ joined f a i ++ f (a + i)
unfolding joined
joined_more f a i = rw (add-one i)

pub joined_next : (f : ℕ → List ℕ) (a i : ℕ) {d e x : List ℕ} {at j k : ℕ} → Added d at e j (joined f a i) → Added e j x k (f (a + i))
    → Added d at x k (joined f a (i + 1))
joined_next f a i p q = same (sym (joined_more f a i)) (then p q)

-- from place 0 on
pub joined_next_0 : (f : ℕ → List ℕ) (i : ℕ) {d e x : List ℕ} {at j k : ℕ} → Added d at e j (joined f 0 i) → Added e j x k (f i)
    → Added d at x k (joined f 0 (i + 1))
joined_next_0 f i p q = joined_next f 0 i p (same (ap f (sym (zero-add i))) q)

-- ---- Quality, method and reason

pub without_code : (m : Mark) (reason : List ℕ) → m.code ≡ None → (44 ∷ m.letter ∷ []) ++ (44 ∷ 44 ∷ []) ≡ marked m reason
unfolding marked
without_code m reason e = rw e

pub with_code : (m : Mark) (code : ℕ) (reason : List ℕ) → m.code ≡ Some code
    → (44 ∷ m.letter ∷ []) ++ (digits 2 code ++ (field reason ++ (44 ∷ []))) ≡ marked m reason
unfolding marked
with_code m code reason e = rw e

-- ---- Runs

module _ (mark : ℕ → Mark) (a n : ℕ) where
  pub start_none : 0 ≡ start_of mark a n 0
  unfolding start_of
  start_none = refl

  pub start_next : (j : ℕ) (ends : Bool) (start : ℕ) → ends ≡ ends_run mark a n j → start ≡ start_of mark a n j
      → cond ends (j + 1) start ≡ start_of mark a n (j + 1)
  unfolding start_of
  start_next j ends start e s = rw (e, s, add-one j)

  pub start_le : (j : ℕ) → start_of mark a n j ≤ j
  unfolding start_of
  start_le zero = omega arith
  start_le (suc j) = by_end (ends_run mark a n j) (start_of mark a n j) (start_le j)
    where
      by_end : (ends : Bool) (start : ℕ) → start ≤ j → cond ends (suc j) start ≤ suc j
      by_end true start l = omega arith
      by_end false start l = omega arith

  pub run_piece : (reason : List ℕ) (j : ℕ) (ends : Bool) (start : ℕ) (m : Mark) → ends ≡ ends_run mark a n j → start ≡ start_of mark a n j
      → m ≡ mark (a + j)
      → cond ends (record400 reason (start + 1) (j + 1) m) []
      ≡ cond (ends_run mark a n j) (record400 reason (start_of mark a n j + 1) (j + 1) (mark (a + j))) []
  run_piece reason j ends start m e s k = rw (e, s, k)

  -- ---- A day

  module _ (reason created : List ℕ) (day : ℕ) (value : ℕ → ℕ) (one : Bool) (m : Mark) (e : one ≡ one_mark mark a n)
      (k : m ≡ day_mark one (mark a)) where
    pub day_alike : one ≡ true → record300 reason created day value a n m ≡ day_records reason created day value mark a n
    unfolding day_records
    day_alike t = rw (k, ← e, t) (sym (append-nil _))

    pub day_varies : one ≡ false
        → record300 reason created day value a n m ++ runs reason mark a n ≡ day_records reason created day value mark a n
    unfolding day_records
    day_varies t = rw (k, ← e, t)

-- ---- The record 200

pub meter_parts : (a b c d e r : List ℕ) → (a ++ (b ++ (c ++ (d ++ e)))) ++ r ≡ a ++ (b ++ (c ++ (d ++ (e ++ r))))
meter_parts a b c d e r = simp append_assoc

-- day d's slots lie in the table
pub day_within : (n d days : ℕ) → d < days → d * n + n ≤ n * days
day_within n d days l = rw (← suc-mul d n, mul_comm n days) (mul-le-mul_right n l)
