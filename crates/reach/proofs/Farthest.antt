-- Books in which a slot moves 364 days, and on a holiday 370 days, after the slot that a late figure is for.
use mathlib.Core.Bool.{Bool, true, false, cond, not, ◌&&◌}
use mathlib.Core.List.{List, [], ◌∷◌}
use mathlib.Core.Path.{◌≡◌, refl, sym, ap, ◌∙◌}
use Prim.Native.Nat.{ℕ, suc, ◌+◌, ◌*◌, ◌/◌, ◌≤◌, ◌<◌}
use native.Mathlib.Omega.{arith}
use borrow.Author.Tests.{ne_eqb}
use lib.Dec.{lit<, lit≤}
use lib.ListN.{get_or, take}
use Rattle.base.specs.Lists.{sum}
use Rattle.base.proofs.Lists.{up_to_at}
use Rattle.calendar.specs.Calendar.{leap, month_lengths, month_length, year_length, days_before_month, days_before_year, day_number}
use Rattle.calendar.specs.Calendar.{is_date}
use Rattle.calendar.specs.Calendar.{to_sunday}
use Rattle.rules.specs.declared.Head.{Head}
use Rattle.rules.specs.declared.Outcome.{Outcome}
use Rattle.reach.proofs.Heads.{head_on}
use Rattle.rules.specs.Opening.{first_day, slots_per_day, slot_count}
use Rattle.rules.specs.Tests.{time_change_bit, outage_bit, partial_bit, cause_of}
use Rattle.rules.specs.Weeks.{first_back, farthest_back, weeks_within}
use Rattle.rules.specs.Filling.{is_reference, from_references}
use Rattle.rules.specs.Spans.{outcome_at}
use Rattle.book.specs.Arguments.{Call}
use Rattle.book.specs.Arguments.Call.{delivery, holiday}
use Rattle.book.specs.Plain.{deliveries, kept_reads, agreements, named, highest_version, content_with, slot_content, book_of}
use Rattle.reach.proofs.Sparse.{Sparse, good_in, status_at, good_at_lem, outcome_last}

-- a day of the book
holiday_at : (h : Head) (kept : List Call) (d : ℕ) → d < h.days → get_or (book_of h kept).holidays d 0 ≡ cond (named d kept) 1 0
unfolding book_of
holiday_at h kept d m = up_to_at (λ d. cond (named d kept) 1 0) 0 h.days d m

-- slot k is a reference where its kept delivery is good and has no outage bit
reference_at : (h : Head) (kept : List Call) (k : ℕ) (t : Bool) → k < slot_count h → k / slots_per_day h < h.days
    → named (k / slots_per_day h) kept ≡ false
    → good_in h kept k ≡ true → outage_bit (slot_content kept k).status ≡ t
    → is_reference h (book_of h kept).slots (book_of h kept).holidays k ≡ not t
unfolding is_reference
reference_at h kept k t l d e g o = rw (good_at_lem h kept k l ∙ g, status_at h kept k l, o, holiday_at h kept (k / slots_per_day h) d, e)
    (go t)
  where
    go : (t : Bool) → (not t && true) ≡ not t
    go true = refl
    go false = refl

-- 365 days, and 371 days of which the last is a holiday, from Sunday 2024-05-05
abbrev pub year : Head
year = head_on 2024 5 5 365

abbrev pub more : Head
more = head_on 2024 5 5 371

-- the last slot of the first day has come, and of the last day the slot before the last
abbrev pub weeks_kept : List Call
weeks_kept = delivery 17_518 1 5 0 ∷ delivery 47 1 100 0 ∷ []

abbrev pub feast_kept : List Call
feast_kept = holiday 370 ∷ delivery 17_806 1 5 0 ∷ delivery 47 1 100 0 ∷ []

-- then the first comes again, with the outage bit
abbrev pub again : Call
again = delivery 47 2 100 2

year_count : slot_count year ≡ 17_520
unfolding slot_count slots_per_day
year_count = refl

more_count : slot_count more ≡ 17_808
unfolding slot_count slots_per_day
more_count = refl

pub weeks_before : Sparse year (weeks_kept) 47 17_518 17_519
unfolding slots_per_day deliveries kept_reads agreements highest_version content_with cause_of time_change_bit partial_bit outage_bit
weeks_before = record {
  days = refl;
  next = refl;
  end = year_count;
  day = lit≤ tt;
  apart = lit< tt;
  empty = λ k a b. rw (ne_eqb 17_518 k (λ z. b (sym z)), ne_eqb 47 k (λ z. a (sym z)));
  unread = λ d. refl;
  unagreed = refl;
  left = refl;
  calm = refl;
}

pub feast_before : Sparse more (feast_kept) 47 17_806 17_807
unfolding slots_per_day deliveries kept_reads agreements highest_version content_with cause_of time_change_bit partial_bit outage_bit
feast_before = record {
  days = refl;
  next = refl;
  end = more_count;
  day = lit≤ tt;
  apart = lit< tt;
  empty = λ k a b. rw (ne_eqb 17_806 k (λ z. b (sym z)), ne_eqb 47 k (λ z. a (sym z)));
  unread = λ d. refl;
  unagreed = refl;
  left = refl;
  calm = refl;
}

-- slot 47 once more
pub sparse_again : {h : Head} {kept : List Call} {p j : ℕ} → Sparse h kept 47 p j → Sparse h (again ∷ kept) 47 p j
unfolding deliveries kept_reads agreements
sparse_again {h} {kept} {p} x =
    let other : (k : ℕ) → (k ≡ 47 → ⊥) → deliveries k (again ∷ kept) ≡ deliveries k kept = λ k a. rw (ne_eqb 47 k (λ z. a (sym z))) in
    let same : deliveries p (again ∷ kept) ≡ deliveries p kept = other p (λ z. omega (arith, x.apart)) in
    record {
      days = x.days;
      next = x.next;
      end = x.end;
      day = x.day;
      apart = x.apart;
      empty = λ k a b. other k a ∙ x.empty k a b;
      unread = x.unread;
      unagreed = x.unagreed;
      left = rw same x.left;
      calm = rw same x.calm;
    }

-- slot 47 is a reference, or not
reference : (h : Head) (kept : List Call) (t : Bool) → slots_per_day h ≡ 48 → 47 < slot_count h → 0 < h.days → named 0 kept ≡ false
    → good_in h kept 47 ≡ true
    → outage_bit (slot_content kept 47).status ≡ t → is_reference h (book_of h kept).slots (book_of h kept).holidays 47 ≡ not t
reference h kept t n l m e g o =
    let d : 47 / slots_per_day h ≡ 0 = rw n refl in
    reference_at h kept 47 t l (rw d m) (rw d e) g o

-- the method that it gives
method_of : (t : Bool) (v : ℕ) → (from_references (take 4 (cond t (v ∷ []) []))).method ≡ cond t 3 0
unfolding from_references
method_of true v = refl
method_of false v = refl

weeks_first : (kept : List Call) → named 364 kept ≡ false
    → (first_back year (book_of year kept).holidays (17_519 / slots_per_day year) ≡ 7)
    × (weeks_within 7 (farthest_back (book_of year kept).holidays (17_519 / slots_per_day year)) ≡ 52)
unfolding slots_per_day first_back farthest_back weeks_within
weeks_first kept e = rw (holiday_at year kept 364 (lit< tt), e) (refl, refl)

feast_first : (kept : List Call) → named 370 kept ≡ true
    → (first_back more (book_of more kept).holidays (17_807 / slots_per_day more) ≡ 6)
    × (weeks_within 6 (farthest_back (book_of more kept).holidays (17_807 / slots_per_day more)) ≡ 53)
unfolding slots_per_day first_back farthest_back weeks_within first_day leap month_lengths month_length year_length days_before_month
    days_before_year
    day_number is_date to_sunday sum
feast_first kept e = rw (holiday_at more kept 370 (lit< tt), e) (refl, refl)

-- the method of the last slot, where slot 47 is the only one that can be its reference
last_method : (h : Head) (kept : List Call) (p j first k : ℕ) (t : Bool) → Sparse h kept 47 p j
    → (first_back h (book_of h kept).holidays (j / slots_per_day h) ≡ first)
    × (weeks_within first (farthest_back (book_of h kept).holidays (j / slots_per_day h)) ≡ suc k)
    → j ≡ 47 + (first + 7 * k) * 48 → 1 ≤ first → is_reference h (book_of h kept).slots (book_of h kept).holidays 47 ≡ t
    → (outcome_at h (book_of h kept) j).method ≡ cond t 3 0
last_method h kept p j first k t x f far later e =
    ap (λ (o : Outcome). o.method) (outcome_last h kept 47 p j x first k f.0 f.1 far later)
    ∙ rw e (method_of t (get_or (book_of h kept).slots.values 47 0))

-- without and with the outage bit at slot 47
pub weeks_method : ((outcome_at year (book_of year weeks_kept) 17_519).method ≡ 3)
    × ((outcome_at year (book_of year (again ∷ weeks_kept)) 17_519).method ≡ 0)
unfolding named deliveries highest_version content_with cause_of time_change_bit partial_bit outage_bit
weeks_method = (
  last_method year weeks_kept 17_518 17_519 7 51 true weeks_before (weeks_first weeks_kept refl) refl (lit≤ tt)
      (reference year weeks_kept false weeks_before.days (omega (arith, year_count)) (lit< tt) refl refl refl),
  last_method year (again ∷ weeks_kept) 17_518 17_519 7 51 false (sparse_again weeks_before) (weeks_first (again ∷ weeks_kept) refl) refl
      (lit≤ tt)
      (reference year (again ∷ weeks_kept) true weeks_before.days (omega (arith, year_count)) (lit< tt) refl refl refl),
)

pub feast_method : ((outcome_at more (book_of more feast_kept) 17_807).method ≡ 3)
    × ((outcome_at more (book_of more (again ∷ feast_kept)) 17_807).method ≡ 0)
unfolding named deliveries highest_version content_with cause_of time_change_bit partial_bit outage_bit
feast_method = (
  last_method more feast_kept 17_806 17_807 6 52 true feast_before (feast_first feast_kept refl) refl (lit≤ tt)
      (reference more feast_kept false feast_before.days (omega (arith, more_count)) (lit< tt) refl refl refl),
  last_method more (again ∷ feast_kept) 17_806 17_807 6 52 false (sparse_again feast_before) (feast_first (again ∷ feast_kept) refl) refl
      (lit≤ tt)
      (reference more (again ∷ feast_kept) true feast_before.days (omega (arith, more_count)) (lit< tt) refl refl refl),
)
