-- The order of the accepted calls does not matter: the book depends on which calls were accepted alone.
use mathlib.Core.Path.{◌≡◌, refl, sym, ap, ◌∙◌}
use mathlib.Core.Bool.{Bool, true, false, cond, ◌&&◌}
use mathlib.Core.List.Memᴰ
use mathlib.Core.List.{List, [], ◌∷◌, Memᴰ}
use Prim.Native.Nat.{ℕ, suc, ◌<◌, ◌≤◌}
use lib.Dec.{eqb}
use borrow.Author.Tests.{eqb-true}
use Rattle.rules.specs.declared.Head.{Head}
use Rattle.rules.specs.Opening.{slot_count}
use Rattle.book.specs.Answers.{is_accepted, by_version}
use Rattle.book.specs.Arguments.{Call}
use Rattle.book.specs.Arguments.Call.{delivery, holiday, register, agreed}
use Rattle.book.specs.Contents.{Measured, DialRead}
use Rattle.book.specs.Plain.{Said, deliveries, kept_reads, agreements, named, highest_version, slot_version, slot_content, read_version}
use Rattle.book.specs.Plain.{read_content, agreed_version, agreed_content, against_kept, plain_answer, kept_of, book_of}
use Rattle.book.proofs.Tables.{up_to_same}
use Rattle.book.proofs.Said.{latest, AllFair, fair_next, ruled, ruled_same, same_said, highest_within}
use Rattle.book.proofs.Kept.{Kept, accepted, kept_of_kept}
use Rattle.book.proofs.Members.{deliveries_from, deliveries_of, reads_from, reads_of, agreements_from, agreements_of, named_from}
use Rattle.book.proofs.Members.{named_of}
use Rattle.book.proofs.Next.{same_measured_lem, same_read_lem}

-- where an accepted call may be in front: with the content before, where it has the highest version before
fair_if : {A : Type 0} (zeros : A) (t : Bool) (s : Said A) (ss : List (Said A))
    → (t ≡ true → (0 < s.version) × (s.version ≡ highest_version ss → s.content ≡ latest zeros ss))
    → AllFair zeros ss → AllFair zeros (cond t (s ∷ ss) ss)
fair_if zeros true s ss here fair = fair_next zeros s ss (here refl).0 (here refl).1 fair
fair_if zeros false s ss here fair = fair

-- a kept delivery has the content before, where it has the highest version before; so have a register read and an agreed call
delivery_fair : (h : Head) (kept : List Call) (slot version value status : ℕ)
    → is_accepted (plain_answer h kept (delivery slot version value status)) ≡ true
    → (0 < version) × (version ≡ slot_version kept slot
    → ◌≡◌ {A = Measured} (record { value = value; status = status }) (slot_content kept slot))
unfolding against_kept
delivery_fair h kept slot version value status ok =
    let (same, fine) = accepted h kept (delivery slot version value status) ok in
    let test = eqb (slot_content kept slot).value value && eqb (slot_content kept slot).status status in (
      fine.1,
      λ e. same_measured_lem (slot_content kept slot) value status
          (ruled_same (ruled (slot_version kept slot) version test) (ap is_accepted (sym same) ∙ ok) e),
    )

read_fair : (h : Head) (kept : List Call) (boundary version reading width : ℕ)
    → is_accepted (plain_answer h kept (register boundary version reading width)) ≡ true
    → (0 < version) × (version ≡ read_version kept boundary
    → ◌≡◌ {A = DialRead} (record { reading = reading; width = width }) (read_content kept boundary))
unfolding against_kept
read_fair h kept boundary version reading width ok =
    let (same, fine) = accepted h kept (register boundary version reading width) ok in
    let test = eqb (read_content kept boundary).reading reading && eqb (read_content kept boundary).width width in (
      fine.1,
      λ e. same_read_lem (read_content kept boundary) reading width
          (ruled_same (ruled (read_version kept boundary) version test) (ap is_accepted (sym same) ∙ ok) e),
    )

number_before : (before version content number : ℕ) → is_accepted (by_version before version (eqb content number)) ≡ true
    → version ≡ before → number ≡ content
number_before before version content number ok e = sym (eqb-true _ _ (ruled_same (ruled before version (eqb content number)) ok e))

agreed_fair : (h : Head) (kept : List Call) (slot version value : ℕ) → is_accepted (plain_answer h kept (agreed slot version value)) ≡ true
    → (0 < version) × (version ≡ agreed_version kept slot → value ≡ agreed_content kept slot)
unfolding against_kept
agreed_fair h kept slot version value ok =
    let (same, fine) = accepted h kept (agreed slot version value) ok in
    (fine.1, number_before (agreed_version kept slot) version (agreed_content kept slot) value (ap is_accepted (sym same) ∙ ok))

-- what the kept calls say of a slot is fair
fair_deliveries : (h : Head) (i : ℕ) (kept : List Call) → Kept h kept → AllFair (record { value = 0; status = 0 }) (deliveries i kept)
unfolding deliveries
fair_deliveries h i [] ok = λ s m. absurd (Memᴰ.not-nil m)
fair_deliveries h i (delivery slot version value status ∷ kept) ok =
    fair_if (record { value = 0; status = 0 }) (eqb slot i)
    (record { version = version; content = record { value = value; status = status } })
    (deliveries i kept) (λ e. rw (sym (eqb-true slot i e)) (delivery_fair h kept slot version value status ok.0))
    (fair_deliveries h i kept ok.1)
fair_deliveries h i (holiday day ∷ kept) ok = fair_deliveries h i kept ok.1
fair_deliveries h i (register boundary version reading width ∷ kept) ok = fair_deliveries h i kept ok.1
fair_deliveries h i (agreed slot version value ∷ kept) ok = fair_deliveries h i kept ok.1

-- and of a boundary
fair_reads : (h : Head) (d : ℕ) (kept : List Call) → Kept h kept → AllFair (record { reading = 0; width = 0 }) (kept_reads d kept)
unfolding kept_reads
fair_reads h d [] ok = λ s m. absurd (Memᴰ.not-nil m)
fair_reads h d (delivery slot version value status ∷ kept) ok = fair_reads h d kept ok.1
fair_reads h d (holiday day ∷ kept) ok = fair_reads h d kept ok.1
fair_reads h d (register boundary version reading width ∷ kept) ok =
    fair_if (record { reading = 0; width = 0 }) (eqb boundary d)
    (record { version = version; content = record { reading = reading; width = width } })
    (kept_reads d kept) (λ e. rw (sym (eqb-true boundary d e)) (read_fair h kept boundary version reading width ok.0))
    (fair_reads h d kept ok.1)
fair_reads h d (agreed slot version value ∷ kept) ok = fair_reads h d kept ok.1

-- and of an agreed slot
fair_agreements : (h : Head) (i : ℕ) (kept : List Call) → Kept h kept → AllFair 0 (agreements i kept)
unfolding agreements
fair_agreements h i [] ok = λ s m. absurd (Memᴰ.not-nil m)
fair_agreements h i (delivery slot version value status ∷ kept) ok = fair_agreements h i kept ok.1
fair_agreements h i (holiday day ∷ kept) ok = fair_agreements h i kept ok.1
fair_agreements h i (register boundary version reading width ∷ kept) ok = fair_agreements h i kept ok.1
fair_agreements h i (agreed slot version value ∷ kept) ok =
    fair_if 0 (eqb slot i) (record { version = version; content = value })
    (agreements i kept) (λ e. rw (sym (eqb-true slot i e)) (agreed_fair h kept slot version value ok.0))
    (fair_agreements h i kept ok.1)

same_tests : (s t : Bool) → (s ≡ true → t ≡ true) → (t ≡ true → s ≡ true) → s ≡ t
same_tests true t sub sup = sym (sub refl)
same_tests false true sub sup = sup refl
same_tests false false sub sup = refl

-- every call of one list is in the other
abbrev pub Within : List Call → List Call → Type 0
Within kept other = (c : Call) → Memᴰ c kept → Memᴰ c other

-- one list of calls goes as far as the other: no highest version of a place is lower, and every holiday is named
pub record AsFar (kept other : List Call) : Type 0 where
  pub slots : (i : ℕ) → slot_version kept i ≤ slot_version other i
  pub days : (d : ℕ) → named d kept ≡ true → named d other ≡ true
  pub boundaries : (d : ℕ) → read_version kept d ≤ read_version other d
  pub agreed : (i : ℕ) → agreed_version kept i ≤ agreed_version other i

module _ (kept other : List Call) (sub : Within kept other) where
  delivered_in_lem : (i : ℕ) (s : Said Measured) → Memᴰ s (deliveries i kept) → Memᴰ s (deliveries i other)
  delivered_in_lem i s m = deliveries_of i other s (sub _ (deliveries_from i kept s m))

  read_in : (d : ℕ) (s : Said DialRead) → Memᴰ s (kept_reads d kept) → Memᴰ s (kept_reads d other)
  read_in d s m = reads_of d other s (sub _ (reads_from d kept s m))

  agreed_in : (i : ℕ) (s : Said ℕ) → Memᴰ s (agreements i kept) → Memᴰ s (agreements i other)
  agreed_in i s m = agreements_of i other s (sub _ (agreements_from i kept s m))

  pub as_far : AsFar kept other
  as_far = record {
    slots = λ i. highest_within (record { value = 0; status = 0 }) (deliveries i kept) (deliveries i other) (delivered_in_lem i);
    days = λ d e. named_of d other (sub _ (named_from d kept e));
    boundaries = λ d. highest_within (record { reading = 0; width = 0 }) (kept_reads d kept) (kept_reads d other) (read_in d);
    agreed = λ i. highest_within 0 (agreements i kept) (agreements i other) (agreed_in i);
  }

-- calls among kept calls that go as far as these amount to the same book
module _ (h : Head) (kept other : List Call) (ok : Kept h other) (sub : Within kept other) (far : AsFar other kept) where
  same_slot_lem : (i : ℕ) → (slot_version kept i ≡ slot_version other i) × (slot_content kept i ≡ slot_content other i)
  same_slot_lem i =
      same_said (record { value = 0; status = 0 }) (deliveries i kept) (deliveries i other) (fair_deliveries h i other ok)
      (delivered_in_lem kept other sub i) (far.slots i)

  same_day_lem : (d : ℕ) → named d kept ≡ named d other
  same_day_lem d = same_tests (named d kept) (named d other) ((as_far kept other sub).days d) (far.days d)

  same_boundary : (d : ℕ) → (read_version kept d ≡ read_version other d) × (read_content kept d ≡ read_content other d)
  same_boundary d =
      same_said (record { reading = 0; width = 0 }) (kept_reads d kept) (kept_reads d other) (fair_reads h d other ok)
      (read_in kept other sub d) (far.boundaries d)

  same_agreed : (i : ℕ) → (agreed_version kept i ≡ agreed_version other i) × (agreed_content kept i ≡ agreed_content other i)
  same_agreed i =
      same_said 0 (agreements i kept) (agreements i other) (fair_agreements h i other ok)
      (agreed_in kept other sub i) (far.agreed i)

  pub same_book : book_of h kept ≡ book_of h other
  unfolding book_of
  same_book = λ t. record {
    slots = record {
      values = up_to_same _ _ (slot_count h) (λ i. ap (λ (a : Measured). a.value) (same_slot_lem i).1) t;
      versions = up_to_same _ _ (slot_count h) (λ i. (same_slot_lem i).0) t;
      statuses = up_to_same _ _ (slot_count h) (λ i. ap (λ (a : Measured). a.status) (same_slot_lem i).1) t;
    };
    holidays = up_to_same _ _ h.days (λ d. ap (λ (t : Bool). cond t 1 0) (same_day_lem d)) t;
    readings = up_to_same _ _ (suc h.days) (λ d. ap (λ (a : DialRead). a.reading) (same_boundary d).1) t;
    read_versions = up_to_same _ _ (suc h.days) (λ d. (same_boundary d).0) t;
    agreed = record {
      values = up_to_same _ _ (slot_count h) (λ i. (same_agreed i).1) t;
      versions = up_to_same _ _ (slot_count h) (λ i. (same_agreed i).0) t;
    };
    widths = up_to_same _ _ (suc h.days) (λ d. ap (λ (a : DialRead). a.width) (same_boundary d).1) t;
  }

-- two lists of calls with the same accepted calls amount to the same book, whatever their order and repetition
pub order_does_not_matter : (h : Head) (cs ds : List Call)
    → Within (kept_of h [] cs) (kept_of h [] ds) → Within (kept_of h [] ds) (kept_of h [] cs)
    → book_of h (kept_of h [] cs) ≡ book_of h (kept_of h [] ds)
order_does_not_matter h cs ds sub sup =
    same_book h (kept_of h [] cs) (kept_of h [] ds) (kept_of_kept h [] ds tt) sub (as_far (kept_of h [] ds) (kept_of h [] cs) sup)
