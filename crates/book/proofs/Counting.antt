-- The counts of delivered slots (02, W6): one more accepted delivery changes them as `counts_with` says, and no first delivery finds its
-- day full.
use mathlib.Core.Bool.{Bool, true, false, cond, ◌&&◌}
use mathlib.Core.List.{List, [], ◌∷◌}
use mathlib.Core.Logic.{⊎_elim}
use mathlib.Core.Path.{◌≡◌, refl, sym, ap, ◌∙◌}
use Prim.Native.Nat.{ℕ, zero, suc, ◌+◌, ◌*◌, ◌/◌, ◌≤◌, ◌<◌}
use native.Mathlib.Nat.{add-zero, div-add-mod', mod-lt, div-eq_of_lt-le, suc-mul, mul_comm, mul-le-mul_right, le_refl}
use native.Mathlib.Numerals.{add-one}
use native.Mathlib.Omega.{arith}
use lib.Dec.{leb, ltb, eqb}
use lib.ListN.{get_or, replicate}
use borrow.Author.Tests.{leb-false, lt-leb, lt-ltb, le-ltb, eqb-true, eqb-false, eq-eqb, ne_eqb}
use Rattle.base.specs.Lists.{sum}
use Rattle.base.proofs.Lists.{up_to_at}
use Rattle.base.proofs.Logic.{either}
use Rattle.base.proofs.Sums.{sum_cong, sum_none}
use Rattle.rules.specs.declared.Head.{Head}
use Rattle.rules.specs.Opening.{slots_per_day, slot_count}
use Rattle.rules.proofs.Bounds.{Bounded}
use Rattle.rules.proofs.ValueBounds.{cond_small}
use Rattle.book.specs.Answers.{Answer, is_accepted, is_stored, by_version}
use Rattle.book.specs.Arguments.{Call}
use Rattle.book.specs.Arguments.Call.{delivery}
use Rattle.book.specs.Cells.{delivered_in}
use Rattle.book.specs.Filling.{counts_with, is_full}
use Rattle.book.specs.Plain.{deliveries, highest_version, slot_version, slot_content, book_of, delivered_on, counts_of}
use Rattle.book.proofs.Tables.{up_to_zero, up_to_same, up_to_filed}
use Rattle.book.proofs.Said.{ruled, step}
use Rattle.book.proofs.Next.{same_measured_lem}

-- sums of functions that differ at j alone
module _ (f g : ℕ → ℕ) (a j : ℕ) (elsewhere : (i : ℕ) → (j ≡ i → ⊥) → g i ≡ f i) where
  sum_outside : (k : ℕ) → (a ≤ j → j < a + k → ⊥) → sum g a k ≡ sum f a k
  sum_outside k out = sum_cong g f a k (λ i l m. elsewhere i (λ e. out (omega arith) (omega arith)))

  at_last : (k : ℕ) → eqb j (a + k) ≡ true → sum g a k + g (a + k) + f j ≡ sum f a k + f (a + k) + g j
  at_last k t =
      let e : j ≡ a + k = eqb-true j (a + k) t in
      omega (arith, ap f e, ap g e, sum_outside k (λ p q. omega arith))

  before_last : (k : ℕ) → (j < a + k → sum g a k + f j ≡ sum f a k + g j) → j < a + suc k → eqb j (a + k) ≡ false
      → sum g a k + g (a + k) + f j ≡ sum f a k + f (a + k) + g j
  before_last k rest m t =
      let ne = eqb-false j (a + k) t in
      let lt : j < a + k = omega arith in
      omega (arith, rest lt, elsewhere (a + k) ne)

  sum_inside : (k : ℕ) → a ≤ j → j < a + k → sum g a k + f j ≡ sum f a k + g j
  unfolding sum
  sum_inside zero l m = absurd (omega arith)
  sum_inside (suc k) l m = ⊎_elim (at_last k) (before_last k (λ lt. sum_inside k l lt) m) (either (eqb j (a + k)))

-- a sum of k terms of at most 1 is at most k, and less where one is 0
module _ (f : ℕ → ℕ) (a : ℕ) (small : (i : ℕ) → f i ≤ 1) where
  sum_small : (k : ℕ) → sum f a k ≤ k
  unfolding sum
  sum_small zero = omega arith
  sum_small (suc k) = omega (arith, sum_small k, small (a + k))

  short_last : (j k : ℕ) → f j ≡ 0 → eqb j (a + k) ≡ true → sum f a k + f (a + k) < suc k
  short_last j k z t = omega (arith, ap f (eqb-true j (a + k) t), sum_small k)

  short_before : (j k : ℕ) → (j < a + k → sum f a k < k) → j < a + suc k → eqb j (a + k) ≡ false → sum f a k + f (a + k) < suc k
  short_before j k rest m t =
      let ne = eqb-false j (a + k) t in
      let lt : j < a + k = omega arith in
      omega (arith, rest lt, small (a + k))

  sum_short : (j : ℕ) → f j ≡ 0 → (k : ℕ) → a ≤ j → j < a + k → sum f a k < k
  unfolding sum
  sum_short j z zero l m = absurd (omega arith)
  sum_short j z (suc k) l m = ⊎_elim (short_last j k z) (short_before j k (λ lt. sum_short j z k l lt) m) (either (eqb j (a + k)))

-- 1 for a version above 0
abbrev one : ℕ → ℕ
one v = cond (ltb 0 v) 1 0

one_small : (v : ℕ) → one v ≤ 1
one_small v = cond_small (ltb 0 v) 1 1 (le_refl 1)

one_above : (v : ℕ) → 0 < v → one v ≡ 1
one_above v p = rw (lt-ltb 0 v p)

one_zero : (v : ℕ) → v ≤ 0 → one v ≡ 0
one_zero v p = rw (le-ltb 0 v p)

pub day_positive : {h : Head} → Bounded h → 0 < slots_per_day h
day_positive b = omega (arith, b.day_low)

-- a slot lies in its day alone
in_day : (n slot : ℕ) → 0 < n → (slot / n * n ≤ slot) × (slot < slot / n * n + n)
in_day n slot p = (omega (arith, div-add-mod' slot n), omega (arith, div-add-mod' slot n, mod-lt slot p))

day_alone : (n slot d : ℕ) → d * n ≤ slot → slot < d * n + n → slot / n ≡ d
day_alone n slot d l m = div-eq_of_lt-le n l (rw (add-one d, suc-mul) (omega arith))

-- the number of a day before and after a delivery, and what its answer says of it
stored_more : (before version count next : ℕ) → 0 < version → next + one before ≡ count + one version
    → next ≡ cond (eqb before 0) (count + 1) count
stored_more zero version count next p e =
    omega (arith, one_above version p, one_zero 0 (le_refl 0))
stored_more (suc before) version count next p e =
    rw (ne_eqb (suc before) 0 (λ z. omega arith)) (omega (arith, one_above version p, one_above (suc before) (omega arith)))

one_more : (before version count next : ℕ) (stored : Bool) → 0 < version
    → next + one before ≡ count + cond stored (one version) (one before)
    → next ≡ cond stored (cond (eqb before 0) (count + 1) count) count
one_more before version count next true p e = stored_more before version count next p e
one_more before version count next false p e =
    let d : next + one before ≡ count + one before = e in
    omega arith

-- a slot that has not come leaves its day short
module _ (h : Head) (positive : 0 < slots_per_day h) (kept : List Call) (slot : ℕ) where
  short : slot_version kept slot ≡ 0 → delivered_on h kept (slot / slots_per_day h) < slots_per_day h
  unfolding delivered_on
  short e =
      let z : one (slot_version kept slot) ≡ 0 = one_zero (slot_version kept slot) (omega arith) in
      let place = in_day (slots_per_day h) slot positive in
      sum_short (λ i. one (slot_version kept i)) (slot / slots_per_day h * slots_per_day h) (λ i. one_small (slot_version kept i)) slot z
      (slots_per_day h) place.0 place.1

  pub not_full : is_full h (slot_version kept slot) (delivered_on h kept (slot / slots_per_day h)) ≡ false
  unfolding is_full
  not_full = go (eqb (slot_version kept slot) 0) refl
    where
      go : (t : Bool) → eqb (slot_version kept slot) 0 ≡ t → (t && leb (slots_per_day h) (delivered_on h kept (slot / slots_per_day h))) ≡
          false
      go false e = refl
      go true e = lt-leb _ _ (short (eqb-true (slot_version kept slot) 0 e))

-- one more delivery
module _ (h : Head) (kept : List Call) (slot version value status : ℕ) where
  abbrev more : List Call
  more = delivery slot version value status ∷ kept

  abbrev found : Answer
  found = by_version (slot_version kept slot) version (eqb (slot_content kept slot).value value && eqb (slot_content kept slot).status
      status)

  other_slot : (i : ℕ) → (slot ≡ i → ⊥) → one (slot_version more i) ≡ one (slot_version kept i)
  unfolding deliveries
  other_slot i ne = rw (ne_eqb slot i ne)

  other_day : (d : ℕ) → (slot / slots_per_day h ≡ d → ⊥) → delivered_on h more d ≡ delivered_on h kept d
  unfolding delivered_on
  other_day d ne =
      sum_outside (λ i. one (slot_version kept i)) (λ i. one (slot_version more i)) (d * slots_per_day h) slot other_slot (slots_per_day h)
      (λ l m. ne (day_alone (slots_per_day h) slot d l m))

  this_slot : is_accepted found ≡ true → one (slot_version more slot) ≡ cond (is_stored found) (one version) (one (slot_version kept slot))
  unfolding deliveries
  this_slot ok =
      rw (eq-eqb slot slot refl)
      (step (record { value = 0; status = 0 }) (record { version = version; content = record { value = value; status = status } })
      (deliveries slot kept) (eqb (slot_content kept slot).value value && eqb (slot_content kept slot).status status)
      (same_measured_lem (slot_content kept slot) value status) found
      (ruled (slot_version kept slot) version (eqb (slot_content kept slot).value value && eqb (slot_content kept slot).status status)) ok
      (λ v a. one v))

  this_day : 0 < slots_per_day h → 0 < version → is_accepted found ≡ true → delivered_on h more (slot / slots_per_day h)
      ≡ cond (is_stored found)
      (cond (eqb (slot_version kept slot) 0) (delivered_on h kept (slot / slots_per_day h) + 1)
      (delivered_on h kept (slot / slots_per_day h)))
      (delivered_on h kept (slot / slots_per_day h))
  unfolding delivered_on
  this_day positive p ok =
      let place = in_day (slots_per_day h) slot positive in
      let sums =
      sum_inside (λ i. one (slot_version kept i)) (λ i. one (slot_version more i)) (slot / slots_per_day h * slots_per_day h) slot
      other_slot
      (slots_per_day h) place.0 place.1 in
      one_more (slot_version kept slot) version _ _ (is_stored found) p (rw (this_slot ok) at sums)

  -- the counts of one more accepted delivery
  pub counts_next : 0 < slots_per_day h → slot < slot_count h → slot / slots_per_day h < h.days → 0 < version → is_accepted found ≡ true
      → counts_of h more ≡ counts_with found (book_of h kept).slots.versions (counts_of h kept) slot (slot / slots_per_day h)
  unfolding counts_of book_of
  counts_next positive inside within p ok =
      rw (
        up_to_at (slot_version kept) 0 (slot_count h) slot inside,
        up_to_at (delivered_on h kept) 0 h.days (slot / slots_per_day h)
            within,
      )
      (up_to_filed (delivered_on h kept) (delivered_on h more) h.days (slot / slots_per_day h) _ other_day found (this_day positive p ok))

-- a day's slots lie in the book
pub day_within : (h : Head) (d : ℕ) → d < h.days → d * slots_per_day h + slots_per_day h ≤ slot_count h
unfolding slot_count
day_within h d lt = rw (mul_comm (slots_per_day h) h.days, ← suc-mul) (mul-le-mul_right (slots_per_day h) lt)

-- a first delivery that does not find its day full leaves room for one more
pub room : (h : Head) → Bounded h → (version count : ℕ) → is_full h version count ≡ false → version ≡ 0 → count < 288
unfolding is_full
room h b version count e z =
    let less : count < slots_per_day h = leb-false (slots_per_day h) count (rw (eq-eqb version 0 z) at e) in
    omega (arith, b.day_high)

-- how many of the slots from slot a are delivered, one slot on
module _ (versions : List ℕ) (a : ℕ) where
  abbrev pub among : ℕ → ℕ
  among k = sum (λ i. one (get_or versions i 0)) a k

  pub among_none : among 0 ≡ 0
  unfolding sum
  among_none = refl

  pub among_more : (k : ℕ) → 0 < get_or versions (a + k) 0 → among k + 1 ≡ among (k + 1)
  unfolding sum
  among_more k p = rw (add-one k, one_above (get_or versions (a + k) 0) p)

  pub among_same : (k : ℕ) → get_or versions (a + k) 0 ≤ 0 → among k ≡ among (k + 1)
  unfolding sum
  among_same k p = rw (add-one k, one_zero (get_or versions (a + k) 0) p) (sym (add-zero _))

-- nothing is delivered in a book that was only opened
pub counts_none : (h : Head) → replicate h.days 0 ≡ counts_of h []
unfolding counts_of delivered_on deliveries highest_version
counts_none h =
    up_to_zero 0 h.days
    ∙ up_to_same (λ d. sum (λ i. one 0) (d * slots_per_day h) (slots_per_day h)) (λ d. 0) h.days
    (λ d. sym (sum_none (λ i. one 0) (d * slots_per_day h) (slots_per_day h) (λ i l m. one_zero 0 (le_refl 0))))

-- the delivered slots of a day in the plain book's lists
pub delivered_on_lem : (h : Head) (kept : List Call) (d : ℕ) → d * slots_per_day h + slots_per_day h ≤ slot_count h
    → delivered_in h (book_of h kept).slots.versions d ≡ delivered_on h kept d
unfolding delivered_in delivered_on book_of
delivered_on_lem h kept d within =
    sum_cong _ _ (d * slots_per_day h) (slots_per_day h)
    (λ i l m. ap one (up_to_at (slot_version kept) 0 (slot_count h) i (omega arith)))
