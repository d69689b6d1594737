-- A run without losses: every slot is good, so the published total is the true one, and the dial alone can part from it.
use mathlib.Core.Bool.{Bool, true, false, cond}
use mathlib.Core.Logic.{◌↔◌}
use mathlib.Core.Path.{◌≡◌, refl, sym, ap, ◌∙◌}
use Prim.Native.Nat.{ℕ, ◌-◌, ◌*◌, ◌%◌, ◌≤◌, ◌<◌, zero-le}
use native.Mathlib.Nat.{mul_comm}
use native.Mathlib.Omega.{arith}
use lib.Dec.{leb}
use borrow.Author.Tests.{le-ltb, le-leb, leb-true}
use Rattle.base.specs.Lists.{any}
use Rattle.base.proofs.Sums.{sum_cong, any_none}
use Rattle.rules.specs.declared.Head.{Head}
use Rattle.rules.specs.declared.Outcome.{Outcome}
use Rattle.rules.specs.declared.Span.{Span}
use Rattle.rules.specs.Opening.{head_ok, slots_per_day, slot_count, Cells}
use Rattle.rules.specs.Tests.{time_change_bit, partial_bit, cause_of, cause_at, good_at}
use Rattle.rules.specs.Spans.{is_s, is_n, advance, actual_in, filled, start, slots_in, G, actual_sum, state_of, in_span, span_of}
use Rattle.rules.specs.Spans.{outcome_at}
use Rattle.rules.specs.Spans.{outcomes}
use Rattle.rules.specs.Inner.Walks.{actual_of}
use Rattle.rules.proofs.Bounds.{bounded}
use Rattle.rules.proofs.Outages.{filled_good}
use Rattle.rules.proofs.Ranges.{apart}
use Rattle.rules.proofs.WidthsZero.{sharp_dial}
use Rattle.file.specs.Layout.{total, figures_of}
use Rattle.file.proofs.Lists.{total_sum}
use Rattle.publishing.specs.Publishing.{published}
use Rattle.berth.specs.Generator.{draw}
use Rattle.berth.specs.Steps.{most_of, stepped, berth_after, lost_at, value_at}
use Rattle.berth.specs.Run.{true_total, report_of}
use Rattle.berth.specs.Lossless.{Lossless, WithoutLosses}
use Rattle.berth.proofs.Booked.{book, book_run, ends, sharp, dial_first, dial_last, its_version, its_value, its_status}
use Rattle.berth.proofs.Differences.{none}
use Rattle.berth.proofs.OneSpan.{all_inside}
use Rattle.berth.proofs.Sends.{value_high}

module _ (h : Head) (seed : ℕ) (good : head_ok h ≡ true) where
  abbrev b : Cells
  b = book h seed 0 good

  abbrev D : ℕ
  D = h.days

  not_lost : (i : ℕ) → lost_at h seed 0 i ≡ false
  unfolding lost_at berth_after stepped
  not_lost i = le-ltb (draw (berth_after h seed 0 i).x % 1000) 0 zero-le

  within : (i : ℕ) → value_at h seed 0 i * 60 ≤ h.limit * h.interval
  unfolding most_of
  within i = omega (arith, value_high h seed 0 i)

  -- every slot is good
  slot_good : (i : ℕ) → i < slot_count h → good_at h b.slots i ≡ true
  unfolding good_at cause_at cause_of time_change_bit partial_bit
  slot_good i lt =
      rw (
        its_version h seed 0 good i lt (not_lost i),
        its_value h seed 0 good i lt (not_lost i),
        its_status h seed 0 good i lt (not_lost i),
        le-ltb (h.limit * h.interval) (value_at h seed 0 i * 60) (within i),
      )

  slot_filled : (i : ℕ) → i < slot_count h → filled h b 0 D i ≡ actual_of (value_at h seed 0 i)
  slot_filled i lt =
      sym (filled_good h b.slots b.agreed b.holidays i (slot_good i lt)) ∙ ap actual_of (its_value h seed 0 good i lt (not_lost i))

  slot_outcome : (i : ℕ) → i < slot_count h → outcome_at h b i ≡ actual_of (value_at h seed 0 i)
  unfolding in_span
  slot_outcome i lt = all_inside h good b (ends h seed 0 good) i lt ∙ rw (slot_filled i lt)

  -- the span begins at slot 0 and has every slot
  from_first : start h b 0 D ≡ 0
  unfolding start
  from_first = omega arith

  to_last : slots_in h b 0 D ≡ slot_count h
  unfolding slots_in slot_count
  to_last = let e : D - 0 ≡ D = omega arith in rw e (mul_comm D (slots_per_day h))

  total_is : total (λ o. o.value) (outcomes h b) ≡ true_total h seed 0
  unfolding outcomes true_total
  total_is =
      total_sum (λ o. o.value) (outcome_at h b) 0 (slot_count h)
      ∙ sum_cong _ _ 0 (slot_count h) (λ i p q. ap (λ (o : Outcome). o.value) (slot_outcome i (omega arith)))

  actual_is : actual_sum h b 0 D ≡ true_total h seed 0
  unfolding actual_sum true_total
  actual_is =
      rw (from_first, to_last)
      (sum_cong _ _ 0 (slot_count h) (λ i p q. ap actual_in (slot_filled i (omega arith))))

  no_n : any (λ i. is_n (filled h b 0 D i).quality) (start h b 0 D) (slots_in h b 0 D) ≡ false
  no_n =
      rw (from_first, to_last)
      (any_none _ 0 (slot_count h) (λ i p q. ap (λ (o : Outcome). is_n o.quality) (slot_filled i (omega arith))))

  no_s : any (λ i. is_s (filled h b 0 D i).quality) (start h b 0 D) (slots_in h b 0 D) ≡ false
  no_s =
      rw (from_first, to_last)
      (any_none _ 0 (slot_count h) (λ i p q. ap (λ (o : Outcome). is_s o.quality) (slot_filled i (omega arith))))

  dial_is : G h b 0 D ≡ true_total h seed 0 % 100_000_000
  unfolding G advance
  dial_is = rw (dial_first h seed 0 good, dial_last h seed 0 good) (omega arith)

  state_is : state_of h b 0 D ≡ cond (leb (apart (true_total h seed 0 % 100_000_000) (true_total h seed 0)) h.tolerance) 0 3
  unfolding span_of
  state_is =
      ap (λ (s : Span). s.state) (sharp_dial h b (sharp h seed 0 good) 0 D).1
      ∙ rw (no_n, no_s, dial_is, actual_is)

  -- the dial's whole turns of 100,000,000 are more than any tolerance
  state_zero : (n t : ℕ) → t ≤ 1_000_000 → (◌≡◌ {A = ℕ} (cond (leb (apart (n % 100_000_000) n) t) 0 3) 0) ↔ (n < 100_000_000)
  state_zero n t low = (from_state (leb (apart (n % 100_000_000) n) t) refl, λ lt. rw (le-leb (apart (n % 100_000_000) n) t (omega arith)))
    where
      from_state : (x : Bool) → leb (apart (n % 100_000_000) n) t ≡ x → ◌≡◌ {A = ℕ} (cond x 0 3) 0 → n < 100_000_000
      from_state true e z = omega (arith, leb-true (apart (n % 100_000_000) n) t e)
      from_state false e z = absurd (omega arith)

  of_run : Lossless h seed
  unfolding report_of figures_of published
  of_run = record {
    difference = rw (book_run h seed 0 good, total_is) (none (true_total h seed 0));
    state = rw (book_run h seed 0 good, state_is) (state_zero (true_total h seed 0) h.tolerance (bounded h good).tolerance_high);
  }

pub lossless : WithoutLosses
lossless = of_run
