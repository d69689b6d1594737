-- The accepted calls of a list are those that the plain book keeps.
use mathlib.Core.Bool.{Bool, true, false, cond}
use mathlib.Core.List.Memᴰ
use mathlib.Core.List.{List, [], ◌∷◌, Memᴰ}
use mathlib.Core.Logic.{◌⊎◌, inl, inr, ⊎_elim}
use mathlib.Core.Path.{◌≡◌, refl, sym, subst}
use Prim.Native.Nat.{ℕ, zero, suc, ◌<◌}
use native.Mathlib.Omega.{arith}
use lib.ListN.{length, get_or}
use Rattle.rules.specs.declared.Head.{Head}
use Rattle.book.specs.Answers.{is_accepted}
use Rattle.book.specs.Answers.Answer.{done}
use Rattle.book.specs.Arguments.{Call}
use Rattle.book.specs.Cells.{Book}
use Rattle.book.specs.Filling.{answers}
use Rattle.book.specs.Plain.{plain_answer, keep, plain_answers, kept_of}
use Rattle.book.proofs.AnyOrder.{kept_on, accepted_kept}
use Rattle.claim.specs.Claim.{AcceptedCall}

-- of the plain book's answers from the kept calls on
record AcceptedAfter (h : Head) (kept cs : List Call) (x : Call) : Type 0 where
  pub place : ℕ
  pub inside : place < length cs
  pub call : get_or cs place x ≡ x
  pub answered : is_accepted (get_or (plain_answers h kept cs) place done) ≡ true

module _ (h : Head) (x : Call) where
  is_kept : (kept cs : List Call) (place : ℕ) → place < length cs → get_or cs place x ≡ x
      → is_accepted (get_or (plain_answers h kept cs) place done) ≡ true → Memᴰ x (kept_of h kept cs)
  unfolding plain_answers kept_of
  is_kept kept [] place l e ok = absurd (omega arith)
  is_kept kept (c ∷ cs) zero l e ok =
      kept_on h (keep h kept c) cs x (subst (λ (y : Call). Memᴰ y (keep h kept c)) e (accepted_kept h kept c ok))
  is_kept kept (c ∷ cs) (suc place) l e ok = is_kept (keep h kept c) cs place (omega arith) e ok

  was_accepted : (kept cs : List Call) → Memᴰ x (kept_of h kept cs) → Memᴰ x kept ⊎ AcceptedAfter h kept cs x
  unfolding plain_answers kept_of keep
  was_accepted kept [] m = inl m
  was_accepted kept (c ∷ cs) m =
      ⊎_elim (here (is_accepted (plain_answer h kept c)) refl) (λ a. inr (later a)) (was_accepted (keep h kept c) cs m)
    where
      later : AcceptedAfter h (keep h kept c) cs x → AcceptedAfter h kept (c ∷ cs) x
      later a = record { place = suc a.place; inside = omega (arith, a.inside); call = a.call; answered = a.answered }

      here : (t : Bool) → is_accepted (plain_answer h kept c) ≡ t → Memᴰ x (cond t (c ∷ kept) kept)
          → Memᴰ x kept ⊎ AcceptedAfter h kept (c ∷ cs) x
      here true e (Memᴰ.head q) = inr (record { place = 0; inside = omega arith; call = sym q; answered = e })
      here true e (Memᴰ.tail k) = inl k
      here false e k = inl k

-- from lists that answer as the plain book does
module _ (h : Head) (b : Book) (cs : List Call) (same : answers h b cs ≡ plain_answers h [] cs) (x : Call) where
  pub kept_of_lem : AcceptedCall h b cs x → Memᴰ x (kept_of h [] cs)
  kept_of_lem a = is_kept h x [] cs a.place a.inside a.call (rw same at a.answered)

  pub accepted_of : Memᴰ x (kept_of h [] cs) → AcceptedCall h b cs x
  accepted_of m =
      ⊎_elim (λ k. absurd (Memᴰ.not-nil k))
      (λ a. record { place = a.place; inside = a.inside; call = a.call; answered = rw same a.answered })
      (was_accepted h x [] cs m)
