-- What the pass over the slots knows of the span that a slot lies in, or of the stretch outside spans.
use Rattle.std.specs.Prelude.{Bool, true, cond, not, ◌&&◌, List, [], ◌∷◌, ◌≡◌, ℕ, zero, suc, ◌+◌, ◌-◌, ◌*◌, ◌/◌, ◌%◌, ◌≤◌, ◌<◌, eqb}
use Rattle.std.specs.Prelude.{Option as Coded, Some, None}
use Rattle.std.proofs.Math.Option.{Option, none, some}
use Rattle.base.specs.Lists.{sum}
use Rattle.rules.specs.declared.Head.{Head}
use Rattle.rules.specs.declared.Span.{Span}
use Rattle.rules.specs.declared.Outcome.{Outcome}
use Rattle.rules.specs.declared.Quality.TheVariants.{S}
use Rattle.rules.specs.declared.spans.Summary.{Summary}
use Rattle.rules.specs.declared.spans.Scaling.{Scaling}
use Rattle.rules.specs.declared.walk.Walk.{Walk}
use Rattle.rules.specs.declared.stretch.Stretch.{Stretch}
use Rattle.rules.specs.Opening.{Slots, Cells, slots_per_day, slot_count}
use Rattle.rules.specs.Spans.{is_s, is_read, span_of, last_read, next_read, T, all_zero, E, P, state_of, span_from}
use Rattle.rules.specs.Inner.Walks.{walk_at}
use Rattle.rules.specs.Inner.Summaries.{scaling_of, scaled_by, Scales}

-- what the search for a boundary answers
abbrev pub next_meant : Coded ℕ → Option ℕ
next_meant (Some d) = some d
next_meant None = none

-- how many of the first k boundaries have a reading
unfoldable pub read_count : List ℕ → ℕ → ℕ
read_count r k = sum (λ d. cond (is_read r d) 1 0) 0 k

-- nothing is scaled up to a slot
abbrev pub unscaled_to : ℕ → Stretch
unscaled_to until =
    record { until = until; by = record { t = 0; whole = 0; extra = 0; passed = 0 } }

-- T, E, what is added to each e, and P of slot i
abbrev pub scaling_at : Head → Cells → ℕ → ℕ → ℕ → Scaling
scaling_at h b first last i =
    record { t = T h b first last; whole = E h b first last; extra = cond (all_zero h b first last) 1 0; passed = P h b first last i }

-- the span between two boundaries, before slot i
unfoldable pub span_stretch : Head → Cells → ℕ → ℕ → ℕ → Stretch
span_stretch h b first last i =
    let until = last * slots_per_day h in
    cond (eqb (state_of h b first last) 1)
    (record { until = until; by = scaling_at h b first last i })
    (unscaled_to until)

-- the same of a span with this state, these sums and this advance, before its first slot
unfoldable pub stretch_by : ℕ → ℕ → Summary → ℕ → Stretch
stretch_by until state m r =
    cond (eqb state 1) (record { until = until; by = scaling_of m r }) (unscaled_to until)

-- the stretch between the last boundary with a reading, if there is one, and the next
unfoldable pub stretch_of : Head → Cells → Option ℕ → Option ℕ → ℕ → Stretch
stretch_of h b (some first) (some last) i = span_stretch h b first last i
stretch_of h b none (some last) i = unscaled_to (last * slots_per_day h)
stretch_of h b first none i = unscaled_to (slot_count h)

-- the stretch that day d lies in, before slot i
unfoldable pub stretch_on : Head → Cells → ℕ → ℕ → Stretch
stretch_on h b d i =
    stretch_of h b (last_read b.read_versions d) (next_read b.read_versions (d + 1) (h.days - d)) i

-- the stretch that slot i lies in
unfoldable pub stretch_at : Head → Cells → ℕ → Stretch
stretch_at h b i = stretch_on h b (i / slots_per_day h) i

-- the stretch of the slot before slot i, which a pass brings along
unfoldable pub carried_at : Head → Cells → ℕ → Stretch
carried_at h b zero = unscaled_to 0
carried_at h b (suc i) = stretch_on h b (i / slots_per_day h) (suc i)

-- with an E above 0 the stretch is a scaled span
abbrev pub scales : Stretch → Bool
scales here = not (eqb here.by.whole 0)

-- a slot of a stretch, with its shape, and the stretch one slot on
unfoldable pub fit_outcome : Outcome → ℕ → Stretch → Outcome
fit_outcome o shape here =
    cond (is_s o.quality && scales here)
    (record { value = (scaled_by shape here.by).value; quality = S; method = o.method + 16 })
    o

unfoldable pub fit_next : Outcome → ℕ → Stretch → Stretch
fit_next o shape here =
    cond (is_s o.quality && scales here)
    (record { until = here.until; by = (scaled_by shape here.by).next })
    here

-- a slot that can be scaled without a wrap, where it is to be scaled
pub record Scalable (o : Outcome) (shape : ℕ) (here : Stretch) : Type 0 where
  pub method_low : o.method ≤ 5
  pub scales : is_s o.quality ≡ true → (here.by.whole ≡ 0 → ⊥) → Scales shape here.by

-- the span that begins at slot i
abbrev pub first_of : List Span → Coded Span
first_of [] = None
first_of (s ∷ ss) = Some s

unfoldable pub begins_at : Head → Cells → ℕ → Coded Span
begins_at h b i = cond (eqb (i % slots_per_day h) 0) (first_of (span_from h b (i / slots_per_day h))) None

-- the same at boundary d, with the next boundary in hand
unfoldable pub begins_with : Head → Cells → ℕ → ℕ → Coded Span
begins_with h b d last = cond (is_read b.read_versions d) (Some (span_of h b d last)) None

unfoldable pub stretch_from : Head → Cells → ℕ → ℕ → ℕ → Stretch
stretch_from h b d last i =
    cond (is_read b.read_versions d) (span_stretch h b d last i) (unscaled_to (last * slots_per_day h))

-- the pass stands at the first slot of the span between two boundaries
pub record Starts (h : Head) (s : Slots) (agreed : List ℕ) (walk : Walk) (first last : ℕ) : Type 0 where
  pub ordered : first < last
  pub within : last ≤ h.days
  pub known : walk ≡ walk_at h s agreed walk.at
  pub at_first : walk.at ≡ first * slots_per_day h

-- the pass stands before a slot, with the stretch of the slot before it
pub record Before (h : Head) (b : Cells) (walk : Walk) (carried : Stretch) : Type 0 where
  pub inside : walk.at < slot_count h
  pub known : walk ≡ walk_at h b.slots b.agreed.versions walk.at
  pub stretch : carried ≡ carried_at h b walk.at
