-- The kept calls: each was accepted when it came, so its arguments broke no rule.
use Rattle.base.specs.declared.Refusal.TheVariants.{OutsideBounds}
use mathlib.Core.Path.{◌≡◌, refl}
use mathlib.Core.Bool.{Bool, true, false, cond, not, true≢false, false≢true}
use mathlib.Core.List.{List, [], ◌∷◌, Memᴰ}
use Prim.Native.Nat.{ℕ, zero, suc, ◌≤◌, ◌<◌}
use native.Mathlib.Omega.{arith}
use lib.Dec.{eqb}
use borrow.Author.Tests.{not-false, leb-false, ltb-false}
use Rattle.base.specs.Refusals.{Rule, unless}
use Rattle.base.specs.Refusals.Rule.{rule}
use Rattle.base.proofs.Refusals.{Unbroken, unless_unbroken, unless_answered}
use Rattle.rules.specs.declared.Head.{Head}
use Rattle.rules.specs.Opening.{head_ok, slot_count}
use Rattle.book.specs.Answers.{Answer, is_accepted}
use Rattle.book.specs.Arguments.{Call, argument_rules}
use Rattle.book.specs.Arguments.Call.{delivery, holiday, register, agreed}
use Rattle.book.specs.Plain.{against_kept, plain_answer, keep, kept_of}
use Rattle.book.specs.Answers.Answer.{refused}

-- an accepted answer is the one that follows the rules, and none of them is broken
pub unless_accepted : (rules : List Rule) (a : Answer) → is_accepted (unless refused rules a) ≡ true
    → (unless refused rules a ≡ a) × Unbroken rules
unless_accepted rules a ok =
    let u : Unbroken rules = (unless_answered refused (λ x. is_accepted x ≡ true) (λ n. false≢true) rules a ok).1 in
    (unless_unbroken refused rules a u, u)

-- what a call names exists, and its numbers are in bounds
abbrev pub Sound : Head → Call → Type 0
Sound h (delivery slot version value status) = (slot < slot_count h) × (0 < version) × (status ≤ 7)
Sound h (holiday day) = day < h.days
Sound h (register boundary version reading width) = (boundary ≤ h.days) × (0 < version) × (reading ≤ 99_999_999) × (width ≤ 9999)
Sound h (agreed slot version value) = (slot < slot_count h) × (0 < version) × (value ≤ 99_999_999)

positive : (n : ℕ) → eqb n 0 ≡ false → 0 < n
positive zero e = absurd (true≢false e)
positive (suc n) e = omega arith

pub sound : (h : Head) (c : Call) → Unbroken (rule OutsideBounds (not (head_ok h)) ∷ argument_rules h c) → Sound h c
unfolding argument_rules
sound h (delivery slot version value status) u =
    (leb-false _ _ (u 1), positive version (u 2), ltb-false _ _ (u 3))
sound h (holiday day) u = leb-false _ _ (u 1)
sound h (register boundary version reading width) u =
    (ltb-false _ _ (u 1), positive version (u 2), ltb-false _ _ (u 3), ltb-false _ _ (u 4))
sound h (agreed slot version value) u =
    (leb-false _ _ (u 1), positive version (u 2), ltb-false _ _ (u 3))

-- a list of kept calls, the newest first
abbrev pub Kept : Head → List Call → Type 0
Kept h [] = Unit
Kept h (c ∷ kept) = (is_accepted (plain_answer h kept c) ≡ true) × Kept h kept

-- an accepted call is accepted against the kept calls, and sound
pub accepted : (h : Head) (kept : List Call) (c : Call) → is_accepted (plain_answer h kept c) ≡ true
    → (plain_answer h kept c ≡ against_kept kept c) × Sound h c
unfolding plain_answer
accepted h kept c ok =
    let r = unless_accepted (rule OutsideBounds (not (head_ok h)) ∷ argument_rules h c) (against_kept kept c) ok in
    (r.0, sound h c r.1)

-- and that under a good head
pub accepted_head : (h : Head) (kept : List Call) (c : Call) → is_accepted (plain_answer h kept c) ≡ true → head_ok h ≡ true
unfolding plain_answer
accepted_head h kept c ok =
    not-false _ ((unless_accepted (rule OutsideBounds (not (head_ok h)) ∷ argument_rules h c) (against_kept kept c) ok).1 0)

-- one call more, and a whole list more
pub keep_kept : (h : Head) (kept : List Call) (c : Call) → Kept h kept → Kept h (keep h kept c)
unfolding keep
keep_kept h kept c ok = go (is_accepted (plain_answer h kept c)) refl
  where
    go : (t : Bool) → is_accepted (plain_answer h kept c) ≡ t → Kept h (cond t (c ∷ kept) kept)
    go true e = (e, ok)
    go false e = ok

pub kept_of_kept : (h : Head) (kept cs : List Call) → Kept h kept → Kept h (kept_of h kept cs)
unfolding kept_of
kept_of_kept h kept [] ok = ok
kept_of_kept h kept (c ∷ cs) ok = kept_of_kept h (keep h kept c) cs (keep_kept h kept c ok)

pub kept_sound : (h : Head) (kept : List Call) (c : Call) → Kept h kept → Memᴰ c kept → Sound h c
kept_sound h [] c ok x'' = elim x'' [ ]
kept_sound h (d ∷ kept) c ok (Memᴰ.head e) = rw e (accepted h kept d ok.0).1
kept_sound h (d ∷ kept) c ok (Memᴰ.tail m) = kept_sound h kept c ok.1 m
