-- Where no call of a list is answered 10, every list with the same calls amounts to the same book.
use Rattle.base.specs.declared.Refusal.TheVariants.{Conflict}
use Rattle.base.specs.declared.Refusal.TheVariants.{OutsideBounds}
use mathlib.Core.Path.{◌≡◌, refl, sym, ap, subst, ◌∙◌}
use mathlib.Core.Bool.{Bool, true, false, cond, not, ◌&&◌}
use mathlib.Core.List.Memᴰ
use mathlib.Core.List.{List, [], ◌∷◌, Memᴰ}
use mathlib.Core.Logic.{◌⊎◌, inl, inr, ⊎_elim}
use Prim.Native.Nat.{ℕ, ◌≤◌, zero-le}
use native.Mathlib.Nat.{le_trans}
use lib.Dec.{eqb, ltb}
use borrow.Author.Tests.{ltb-false}
use Rattle.base.specs.Refusals.Rule.{rule}
use Rattle.base.proofs.Refusals.{Unbroken, unless_unbroken}
use Rattle.rules.specs.declared.Head.{Head}
use Rattle.rules.specs.Opening.{head_ok}
use Rattle.book.specs.Answers.{is_accepted, by_version}
use Rattle.book.specs.Answers.Answer.{stored, late, repeat, refused}
use Rattle.book.specs.Arguments.{Call, argument_rules}
use Rattle.book.specs.Arguments.Call.{delivery, holiday, register, agreed}
use Rattle.book.specs.Plain.{named, deliveries, kept_reads, agreements, slot_version, slot_content, read_version, read_content}
use Rattle.book.specs.Plain.{agreed_version, agreed_content, against_kept, plain_answer, keep, plain_answers, kept_of, book_of}
use Rattle.book.proofs.Said.{member_low, from}
use Rattle.book.proofs.Kept.{unless_accepted, Kept, kept_of_kept}
use Rattle.book.proofs.Members.{deliveries_from, deliveries_of, reads_from, reads_of, agreements_from, agreements_of, named_from}
use Rattle.book.proofs.Members.{named_of}
use Rattle.book.proofs.Order.{Within, AsFar, as_far, same_book}

-- a call whose arguments break no rule
abbrev Valid : Head → Call → Type 0
Valid h c = Unbroken (rule OutsideBounds (not (head_ok h)) ∷ argument_rules h c)

valid_answer : (h : Head) (kept : List Call) (c : Call) → Valid h c → plain_answer h kept c ≡ against_kept kept c
unfolding plain_answer
valid_answer h kept c u = unless_unbroken refused (rule OutsideBounds (not (head_ok h)) ∷ argument_rules h c) (against_kept kept c) u

-- the version rule accepts or answers 10, and 10 only where the version is not above the highest
decided : (before version : ℕ) (same : Bool)
    → (is_accepted (by_version before version same) ≡ true) ⊎ ((by_version before version same ≡ refused Conflict) × (version ≤ before))
unfolding by_version
decided before version same = go (ltb before version) (ltb version before) same refl
  where
    go : (a b s : Bool) → ltb before version ≡ a
        → (is_accepted (cond a stored (cond b late (cond s repeat (refused Conflict)))) ≡ true)
        ⊎ ((cond a stored (cond b late (cond s repeat (refused Conflict))) ≡ refused Conflict) × (version ≤ before))
    go true b s e = inl refl
    go false true s e = inl refl
    go false false true e = inl refl
    go false false false e = inr (refl, ltb-false _ _ e)

-- the kept calls go as far as a call: a version as high for its place, or its day named
abbrev Covered : Call → List Call → Type 0
Covered (delivery slot version value status) kept = version ≤ slot_version kept slot
Covered (holiday day) kept = named day kept ≡ true
Covered (register boundary version reading width) kept = version ≤ read_version kept boundary
Covered (agreed slot version value) kept = version ≤ agreed_version kept slot

-- a kept call is covered, and stays so when more are kept
member_covered : (c : Call) (kept : List Call) → Memᴰ c kept → Covered c kept
member_covered (delivery slot version value status) kept m =
    member_low (record { value = 0; status = 0 }) (record { version = version; content = record { value = value; status = status } })
    (deliveries slot kept) (deliveries_of slot kept _ m)
member_covered (holiday day) kept m = named_of day kept m
member_covered (register boundary version reading width) kept m =
    member_low (record { reading = 0; width = 0 }) (record { version = version; content = record { reading = reading; width = width } })
    (kept_reads boundary kept) (reads_of boundary kept _ m)
member_covered (agreed slot version value) kept m =
    member_low 0 (record { version = version; content = value }) (agreements slot kept) (agreements_of slot kept _ m)

covered_within : (c : Call) (kept other : List Call) → Within kept other → Covered c kept → Covered c other
covered_within (delivery slot version value status) kept other sub v = le_trans v ((as_far kept other sub).slots slot)
covered_within (holiday day) kept other sub v = (as_far kept other sub).days day v
covered_within (register boundary version reading width) kept other sub v = le_trans v ((as_far kept other sub).boundaries boundary)
covered_within (agreed slot version value) kept other sub v = le_trans v ((as_far kept other sub).agreed slot)

-- against the kept calls a call is accepted, or answered 10 and covered
against : (kept : List Call) (c : Call)
    → (is_accepted (against_kept kept c) ≡ true) ⊎ ((against_kept kept c ≡ refused Conflict) × Covered c kept)
unfolding against_kept
against kept (delivery slot version value status) =
    decided (slot_version kept slot) version (eqb (slot_content kept slot).value value && eqb (slot_content kept slot).status status)
against kept (holiday day) = go (named day kept)
  where
    go : (t : Bool) → (is_accepted (cond t repeat stored) ≡ true) ⊎ ((cond t repeat stored ≡ refused Conflict) × (named day kept ≡ true))
    go true = inl refl
    go false = inl refl
against kept (register boundary version reading width) =
    decided (read_version kept boundary) version
    (eqb (read_content kept boundary).reading reading && eqb (read_content kept boundary).width width)
against kept (agreed slot version value) = decided (agreed_version kept slot) version (eqb (agreed_content kept slot) value)

module _ (h : Head) where
  -- what is kept stays kept, and what is kept was kept before or is among the calls
  pub keep_on : (kept : List Call) (c : Call) → Within kept (keep h kept c)
  unfolding keep
  keep_on kept c d m = go (is_accepted (plain_answer h kept c))
    where
      go : (t : Bool) → Memᴰ d (cond t (c ∷ kept) kept)
      go true = Memᴰ.tail m
      go false = m

  pub kept_on : (kept cs : List Call) → Within kept (kept_of h kept cs)
  unfolding kept_of
  kept_on kept [] d m = m
  kept_on kept (c ∷ cs) d m = kept_on (keep h kept c) cs d (keep_on kept c d m)

  keep_from : (kept : List Call) (c d : Call) → Memᴰ d (keep h kept c) → Memᴰ d (c ∷ kept)
  unfolding keep
  keep_from kept c d m = go (is_accepted (plain_answer h kept c)) m
    where
      go : (t : Bool) → Memᴰ d (cond t (c ∷ kept) kept) → Memᴰ d (c ∷ kept)
      go true m = m
      go false m = Memᴰ.tail m

  kept_from : (kept cs : List Call) (d : Call) → Memᴰ d (kept_of h kept cs) → Memᴰ d kept ⊎ Memᴰ d cs
  unfolding kept_of
  kept_from kept [] d m = inl m
  kept_from kept (c ∷ cs) d m = ⊎_elim (λ k. here (keep_from kept c d k)) (λ k. inr (Memᴰ.tail k)) (kept_from (keep h kept c) cs d m)
    where
      here : Memᴰ d (c ∷ kept) → Memᴰ d kept ⊎ Memᴰ d (c ∷ cs)
      here (Memᴰ.head e) = inr (Memᴰ.head e)
      here (Memᴰ.tail k) = inl k

  -- a kept call breaks no rule
  kept_valid : (kept : List Call) (c : Call) → Kept h kept → Memᴰ c kept → Valid h c
  unfolding plain_answer
  kept_valid [] c ok x'' = elim x'' [ ]
  kept_valid (d ∷ kept) c ok (Memᴰ.head e) =
      rw e (unless_accepted (rule OutsideBounds (not (head_ok h)) ∷ argument_rules h d) (against_kept kept d) ok.0).1
  kept_valid (d ∷ kept) c ok (Memᴰ.tail m) = kept_valid kept c ok.1 m

  -- an accepted call is kept
  pub accepted_kept : (kept : List Call) (c : Call) → is_accepted (plain_answer h kept c) ≡ true → Memᴰ c (keep h kept c)
  unfolding keep
  accepted_kept kept c ok = rw ok (Memᴰ.head refl)

  -- a call that breaks no rule is covered once it has come, whatever the order
  covered_now : (kept : List Call) (c : Call) → Valid h c → Covered c (keep h kept c)
  covered_now kept c u =
      let same = valid_answer h kept c u in
      ⊎_elim (λ ok. member_covered c (keep h kept c) (accepted_kept kept c (rw same ok)))
      (λ r. covered_within c kept (keep h kept c) (keep_on kept c) r.1) (against kept c)

  covered : (kept cs : List Call) (c : Call) → Memᴰ c cs → Valid h c → Covered c (kept_of h kept cs)
  unfolding kept_of
  covered kept [] c x'' u = elim x'' [ ]
  covered kept (d ∷ cs) c (Memᴰ.head e) u =
      covered_within c (keep h kept d) (kept_of h (keep h kept d) cs) (kept_on (keep h kept d) cs)
      (subst (λ (x : Call). Covered c (keep h kept x)) e (covered_now kept c u))
  covered kept (d ∷ cs) c (Memᴰ.tail m) u = covered (keep h kept d) cs c m u

  -- where no call is answered 10, every call that breaks no rule is kept
  all_kept : (kept cs : List Call) → (Memᴰ (refused Conflict) (plain_answers h kept cs) → ⊥) → (c : Call) → Memᴰ c cs → Valid h c
      → Memᴰ c (kept_of h kept cs)
  unfolding kept_of plain_answers
  all_kept kept [] free c x3 u = elim x3 [ ]
  all_kept kept (d ∷ cs) free c (Memᴰ.head e) u =
      let same = valid_answer h kept c u in
      ⊎_elim (λ ok. kept_on (keep h kept d) cs c (subst (λ (x : Call). Memᴰ c (keep h kept x)) e (accepted_kept kept c (rw same ok))))
      (λ r. absurd (free (Memᴰ.head (sym r.0 ∙ sym same ∙ ap (plain_answer h kept) e))))
      (against kept c)
  all_kept kept (d ∷ cs) free c (Memᴰ.tail m) u = all_kept (keep h kept d) cs (λ k. free (Memᴰ.tail k)) c m u

  module _ (cs ds : List Call) (free : Memᴰ (refused Conflict) (plain_answers h [] cs) → ⊥) (sub : Within cs ds) (sup : Within ds cs) where
    among : (es : List Call) (c : Call) → Memᴰ c (kept_of h [] es) → Memᴰ c es × Valid h c
    among es c m = (
      ⊎_elim (λ k. absurd (Memᴰ.not-nil k)) (λ k. k) (kept_from [] es c m),
      kept_valid (kept_of h [] es) c (kept_of_kept h [] es tt) m,
    )

    within : Within (kept_of h [] ds) (kept_of h [] cs)
    within c m = let a = among ds c m in all_kept [] cs free c (sup c a.0) a.1

    far : (c : Call) → Memᴰ c (kept_of h [] cs) → Covered c (kept_of h [] ds)
    far c m = let a = among cs c m in covered [] ds c (sub c a.0) a.1

    as_high : AsFar (kept_of h [] cs) (kept_of h [] ds)
    as_high = record {
      slots =
          λ i. from (record { value = 0; status = 0 }) (deliveries i (kept_of h [] cs)) (λ v a. v ≤ slot_version (kept_of h [] ds) i)
          zero-le
          (λ s m. far _ (deliveries_from i (kept_of h [] cs) s m));
      days = λ d e. far (holiday d) (named_from d (kept_of h [] cs) e);
      boundaries =
          λ d. from (record { reading = 0; width = 0 }) (kept_reads d (kept_of h [] cs)) (λ v a. v ≤ read_version (kept_of h [] ds) d)
          zero-le
          (λ s m. far _ (reads_from d (kept_of h [] cs) s m));
      agreed = λ i. from 0 (agreements i (kept_of h [] cs)) (λ v a. v ≤ agreed_version (kept_of h [] ds) i) zero-le
          (λ s m. far _ (agreements_from i (kept_of h [] cs) s m));
    }

    pub any_order : book_of h (kept_of h [] cs) ≡ book_of h (kept_of h [] ds)
    any_order = sym (same_book h (kept_of h [] ds) (kept_of h [] cs) (kept_of_kept h [] cs tt) within as_high)
