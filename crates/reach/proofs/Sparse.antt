-- A book of which two slots have come: the outcome of its last slot, a gap, by the one reference that it can have.
use mathlib.Core.Bool.{Bool, true, false, cond, and-false}
use mathlib.Core.List.{List, [], ◌∷◌}
use mathlib.Core.Path.{◌≡◌, sym, ap, ◌∙◌}
use Prim.Native.Nat.{ℕ, suc, ◌+◌, ◌-◌, ◌*◌, ◌/◌, ◌≤◌, ◌<◌}
use native.Mathlib.Omega.{arith}
use lib.ListN.{length, get_or, take}
use Rattle.base.proofs.Lists.{up_to_at}
use Rattle.rules.specs.declared.Head.{Head}
use Rattle.rules.specs.Opening.{Cells, slots_per_day, slot_count}
use Rattle.rules.specs.Tests.{is_gap, outage_bit, is_good, cause_of, cause_at, good_at}
use Rattle.rules.specs.Weeks.{first_back, farthest_back, weeks_within}
use Rattle.rules.specs.Filling.{outage_at, is_agreed, is_reference, references, from_references}
use Rattle.rules.specs.Spans.{is_read, outcome_at, spans}
use Rattle.rules.proofs.References.{references_searched}
use Rattle.book.specs.Arguments.{Call}
use Rattle.book.specs.Plain.{deliveries, kept_reads, agreements, highest_version, slot_version, slot_content, read_version, agreed_version}
use Rattle.book.specs.Plain.{book_of}
use Rattle.reach.proofs.LastSlot.{outside, no_spans, weeks_one, filled_last}

-- the slot's kept delivery is good
abbrev pub good_in : Head → List Call → ℕ → Bool
good_in h kept k = is_good (cause_of h.limit h.interval (slot_version kept k) (slot_content kept k).value (slot_content kept k).status)

-- slots i and p have come, and j, behind p, is the last; no dial was read and nothing agreed
pub record Sparse (h : Head) (kept : List Call) (i p j : ℕ) : Type 0 where
  pub days : slots_per_day h ≡ 48
  pub next : j ≡ suc p
  pub end : slot_count h ≡ suc j
  pub day : j / slots_per_day h ≤ h.days
  pub apart : i < p
  pub empty : (k : ℕ) → (k ≡ i → ⊥) → (k ≡ p → ⊥) → deliveries k kept ≡ []
  pub unread : (d : ℕ) → kept_reads d kept ≡ []
  pub unagreed : agreements j kept ≡ []
  pub left : good_in h kept p ≡ true
  pub calm : outage_bit (slot_content kept p).status ≡ false

module _ (h : Head) (kept : List Call) where
  abbrev b : Cells
  b = book_of h kept

  module _ (k : ℕ) (l : k < slot_count h) where
    pub version_at : get_or b.slots.versions k 0 ≡ slot_version kept k
    unfolding book_of
    version_at = up_to_at (slot_version kept) 0 (slot_count h) k l

    pub value_at_lem : get_or b.slots.values k 0 ≡ (slot_content kept k).value
    unfolding book_of
    value_at_lem = up_to_at (λ i. (slot_content kept i).value) 0 (slot_count h) k l

    pub status_at : get_or b.slots.statuses k 0 ≡ (slot_content kept k).status
    unfolding book_of
    status_at = up_to_at (λ i. (slot_content kept i).status) 0 (slot_count h) k l

    pub good_at_lem : good_at h b.slots k ≡ good_in h kept k
    unfolding good_at cause_at
    good_at_lem = rw (version_at, value_at_lem, status_at)

    calm_at : outage_bit (slot_content kept k).status ≡ false → outage_at b.slots.versions b.slots.statuses k ≡ false
    unfolding outage_at
    calm_at e = rw (status_at, e, and-false)

    -- a slot that has not come
    gap_version : deliveries k kept ≡ [] → get_or b.slots.versions k 0 ≡ 0
    unfolding highest_version
    gap_version e = version_at ∙ rw e

    gap_at : deliveries k kept ≡ [] → is_gap b.slots.versions k ≡ true
    unfolding is_gap
    gap_at e = rw (gap_version e)

    cause_at_lem : deliveries k kept ≡ [] → good_at h b.slots k ≡ false
    unfolding good_at cause_at cause_of
    cause_at_lem e = rw (gap_version e)

    free_at : agreements k kept ≡ [] → is_agreed b.agreed.versions k ≡ false
    unfolding is_agreed book_of highest_version
    free_at e = rw (up_to_at (agreed_version kept) 0 (slot_count h) k l, e)

  read_none : ((d : ℕ) → kept_reads d kept ≡ []) → (d : ℕ) → d ≤ h.days → is_read b.read_versions d ≡ false
  unfolding is_read book_of highest_version
  read_none u d l = rw (up_to_at (read_version kept) 0 (suc h.days) d (omega arith), u d)

  module _ (i p j : ℕ) (x : Sparse h kept i p j) where
    in_book : p < slot_count h
    in_book = omega (arith, x.end, x.next)

    pub left_good : good_at h b.slots p ≡ true
    left_good = good_at_lem p in_book ∙ x.left

    pub spanless : length (spans h b) ≡ 0
    spanless = no_spans h b (read_none x.unread)

    -- of the weeks from `first` days before slot j the last leads to slot i
    module _ (first k : ℕ) (starts : first_back h b.holidays (j / slots_per_day h) ≡ first)
        (weeks : weeks_within first (farthest_back b.holidays (j / slots_per_day h)) ≡ suc k) (far : j ≡ i + (first + 7 * k) * 48)
        (later : 1 ≤ first) where
      no_reference : (r : ℕ) → r < k → is_reference h b.slots b.holidays (j - (first + 7 * r) * slots_per_day h) ≡ false
      unfolding is_reference
      no_reference r l =
          let w : (first + 7 * r) * slots_per_day h ≡ (first + 7 * r) * 48 = ap (λ (n : ℕ). (first + 7 * r) * n) x.days in
          let e : deliveries (j - (first + 7 * r) * slots_per_day h) kept ≡ [] =
          x.empty _ (λ z. omega arith) (λ z. omega (arith, x.next)) in
          rw (cause_at_lem (j - (first + 7 * r) * slots_per_day h) (omega (arith, x.end)) e)

      one_reference : references h b.slots b.holidays j
          ≡ take 4 (cond (is_reference h b.slots b.holidays i) (get_or b.slots.values i 0 ∷ []) [])
      one_reference =
          let e : j ≡ i + (first + 7 * k) * slots_per_day h = far ∙ ap (λ (n : ℕ). i + (first + 7 * k) * n) (sym x.days) in
          references_searched h b.slots b.holidays j
          ∙ rw (starts, weeks) (ap (take 4) (weeks_one h b.slots b.holidays i k first j e no_reference))

      pub outcome_last : outcome_at h b j
          ≡ from_references (take 4 (cond (is_reference h b.slots b.holidays i) (get_or b.slots.values i 0 ∷ []) []))
      outcome_last =
          let last : j < slot_count h = omega (arith, x.end) in
          let none : deliveries j kept ≡ [] = x.empty j (λ z. omega (arith, x.next, x.apart)) (λ z. omega (arith, x.next)) in
          outside h b (read_none x.unread) j x.day
          ∙ filled_last h b.slots b.holidays i b.agreed p j x.next x.end (gap_at j last none) (cause_at_lem j last none)
          (free_at j last x.unagreed) left_good (calm_at p in_book x.calm)
          ∙ ap from_references one_reference
