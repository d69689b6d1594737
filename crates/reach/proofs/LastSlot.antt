-- A gap at the end of a book behind a good slot, with one slot among its weeks that can be a reference: what its outcome is.
use mathlib.Core.Bool.{true, false, cond, and-false}
use mathlib.Core.List.{List, [], ◌∷◌}
use mathlib.Core.Option.{none}
use mathlib.Core.Path.{◌≡◌, refl, ap}
use Prim.Native.Nat.{ℕ, zero, suc, ◌+◌, ◌-◌, ◌*◌, ◌/◌, ◌≤◌, ◌<◌}
use native.Mathlib.Nat.{add-mul}
use native.Mathlib.Omega.{arith}
use borrow.Author.Tests.{le-ltb}
use lib.ListN.{length, get_or}
use Rattle.rules.specs.declared.Head.{Head}
use Rattle.rules.specs.Opening.{Slots, Agreed, Cells, slots_per_day, slot_count}
use Rattle.rules.specs.Tests.{is_gap, good_at}
use Rattle.rules.specs.Filling.{outage_at, outage_before, outage_after, is_outage_zero, is_agreed, in_run, run_start, run_length, is_linear}
use Rattle.rules.specs.Filling.{is_reference, references, from_references, filled_at}
use Rattle.rules.specs.References.{each_week}
use Rattle.rules.specs.Inner.Ways.{value_of}
use Rattle.rules.proofs.Outages.{good_delivered}
use Rattle.rules.proofs.Runs.{from_on, before_low}
use Rattle.rules.specs.Spans.{is_read, last_read, between, outcome_at, span_from, spans_from, spans}

-- without a reading there is no span
module _ (h : Head) (b : Cells) (unread : (d : ℕ) → d ≤ h.days → is_read b.read_versions d ≡ false) where
  last_none : (d : ℕ) → d ≤ h.days → last_read b.read_versions d ≡ none
  unfolding last_read
  last_none zero l = rw (unread 0 l)
  last_none (suc d) l = rw (unread (suc d) l) (last_none d (omega arith))

  pub outside : (j : ℕ) → j / slots_per_day h ≤ h.days → outcome_at h b j ≡ filled_at h b.slots b.agreed b.holidays j
  unfolding outcome_at between
  outside j l = rw (last_none (j / slots_per_day h) l)

  none_from : (k d : ℕ) → d + k ≤ h.days → spans_from h b d k ≡ []
  unfolding spans_from span_from
  none_from zero d l = refl
  none_from (suc k) d l = rw (unread d (omega arith)) (none_from k (suc d) (omega arith))

  pub no_spans : length (spans h b) ≡ 0
  unfolding spans
  no_spans = ap length (none_from h.days 0 (omega arith))

module _ (h : Head) (s : Slots) (holidays : List ℕ) (i : ℕ) where
  abbrev n : ℕ
  n = slots_per_day h

  -- of the k + 1 weeks from `days` days before slot j the last leads to slot i, and none before it to a reference
  pub weeks_one : (k days j : ℕ) → j ≡ i + (days + 7 * k) * n
      → ((r : ℕ) → r < k → is_reference h s holidays (j - (days + 7 * r) * n) ≡ false)
      → each_week (value_of s) h s holidays days j (suc k) ≡ cond (is_reference h s holidays i) (get_or s.values i 0 ∷ []) []
  unfolding each_week
  weeks_one zero days j e free =
      let z : days + 7 * 0 ≡ days = omega arith in
      let f : j ≡ i + days * n = rw z at e in
      let here : j - days * n ≡ i = omega arith in
      rw (le-ltb j (days * n) (omega arith), here)
  weeks_one (suc k) days j e free =
      let z : days + 7 * 0 ≡ days = omega arith in
      let f : is_reference h s holidays (j - days * n) ≡ false = rw z at (free 0 (omega arith)) in
      let whole : (r : ℕ) → (days + 7 * suc r) * n ≡ days * n + (7 + 7 * r) * n = λ r. on r in
      let g : j - days * n ≡ i + (7 + 7 * k) * n = omega (arith, whole k) in
      rw (le-ltb j (days * n) (omega (arith, whole k)), f)
      (weeks_one k 7 (j - days * n) g (λ r l. later r (whole r) (free (suc r) (omega arith))))
    where
      on : (r : ℕ) → (days + 7 * suc r) * n ≡ days * n + (7 + 7 * r) * n
      on r =
          let e : days + 7 * suc r ≡ days + (7 + 7 * r) = omega arith in
          rw (e, add-mul days (7 + 7 * r) n)

      later : (r : ℕ) → (days + 7 * suc r) * n ≡ days * n + (7 + 7 * r) * n → is_reference h s holidays (j - (days + 7 * suc r) * n) ≡ false
          → is_reference h s holidays (j - days * n - (7 + 7 * r) * n) ≡ false
      later r w x =
          let y : j - days * n - (7 + 7 * r) * n ≡ j - (days + 7 * suc r) * n = omega arith in
          rw y x

  -- the last slot of a book, a gap, behind a good slot without the outage bit
  module _ (a : Agreed) (p j : ℕ) (next : j ≡ suc p) (end : slot_count h ≡ suc j) (gap : is_gap s.versions j ≡ true)
      (cause : good_at h s j ≡ false) (free : is_agreed a.versions j ≡ false) (left : good_at h s p ≡ true)
      (calm : outage_at s.versions s.statuses p ≡ false) where
    not_zeroed : is_outage_zero h s j ≡ false
    unfolding is_outage_zero outage_before outage_after
    not_zeroed =
        let one : slot_count h - j ≡ 1 = omega arith in
        rw (gap, one, gap, next, good_delivered h s p left, calm)

    in_run_lem : in_run h s a.versions j ≡ true
    unfolding in_run
    in_run_lem = rw (cause, free, not_zeroed)

    -- its run reaches the end of the book
    at_end : slot_count h ≤ run_start h s a.versions j + run_length h s a.versions j
    unfolding run_start run_length
    at_end = omega (arith, from_on h s a.versions j (omega arith) in_run_lem, before_low h s a.versions j)

    no_line : is_linear h s a.versions j ≡ false
    unfolding is_linear
    no_line = simp (le-ltb _ _ at_end, and-false)

    pub filled_last : filled_at h s a holidays j ≡ from_references (references h s holidays j)
    unfolding filled_at
    filled_last = rw (cause, free, not_zeroed, no_line)
