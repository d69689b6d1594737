-- What is told of a slot from the parts that were found is what the rules say of it.
use mathlib.Core.Bool.{Bool, true, false, cond, and-false}
use mathlib.Core.List.{List}
use mathlib.Core.Logic.{⊎_elim}
use mathlib.Core.Option.{Option, none, some}
use mathlib.Core.Path.{◌≡◌, refl, sym, ◌∙◌}
use Prim.Native.Nat.{ℕ, ◌+◌, ◌-◌, ◌/◌, ◌≤◌, ◌<◌}
use native.Mathlib.Omega.{arith}
use borrow.Author.Tests.{ne_eqb}
use lib.Dec.{eqb}
use lib.ListN.{length}
use Rattle.base.proofs.Logic.{either}
use Rattle.std.specs.Prelude.{Option as Coded, None}
use Rattle.rules.specs.declared.Head.{Head}
use Rattle.rules.specs.declared.Outcome.{Outcome}
use Rattle.rules.specs.declared.spans.Scaling.{Scaling}
use Rattle.rules.specs.declared.walk.Filled.{Filled}
use Rattle.rules.specs.declared.tests.Cause.{Cause}
use Rattle.rules.specs.Opening.{Slots, Agreed, Cells, slots_per_day}
use Rattle.rules.specs.Tests.{cause_at, good_at}
use Rattle.rules.specs.Filling.{is_outage_zero, is_agreed, in_run, is_linear, references, from_references, filled_at, shape_at}
use Rattle.rules.specs.Spans.{is_s, is_n, last_read, next_read, start, slots_in, state_of, all_zero, E, P, C, outcome_at}
use Rattle.rules.specs.Inner.Lent.{WidthsLow}
use Rattle.rules.specs.Inner.Walks.{line_at, line_through, walk_at}
use Rattle.rules.specs.Inner.Summaries.{scaled_by}
use Rattle.rules.specs.Inner.Stretches.{span_stretch, stretch_of, stretch_on, stretch_at, fit_outcome, fit_next, Scalable}
use Rattle.rules.proofs.Bounds.{Bounded}
use Rattle.rules.proofs.Lines.{walk_line}
use Rattle.rules.proofs.Places.{span_end}
use Rattle.rules.proofs.Scaling.{running}
use Rattle.rules.proofs.Steps.{weight, whole_low, step_outcome, step_scalable}
use Rattle.explain.specs.declared.Rule.{Rule}
use Rattle.explain.specs.declared.Rule.TheVariants.{Delivered, Agreed as Settled, OutageZero, Linear, SameDay, Nothing}
use Rattle.rules.specs.declared.linear.StraightLine.{StraightLine}
use Rattle.rules.specs.declared.filling.References.{References}
use Rattle.explain.specs.declared.Shares.{Shares}
use Rattle.explain.specs.declared.held.Held.{Held}
use Rattle.explain.specs.Explain.{rule_at, line_of, found_of, spanned_by, shares_by, earlier, later}
use Rattle.explain.specs.Explain.{explanation_of}
use Rattle.explain.specs.Inner.Holding.{shares_with}
use Rattle.explain.specs.Inner.Telling.{rule_of, scaled_to, told_with}
use Rattle.explain.proofs.Holding.{between_read}
use Rattle.explain.proofs.Passing.{line_next}

-- the line in an outcome's rule
line_in : (o : Outcome) (x l : StraightLine) (f : References) → rule_of o x f ≡ Linear l → x ≡ l
unfolding rule_of
line_in o x l f = go (eqb o.method 1) (eqb o.method 2) (eqb o.method 3) (eqb o.method 5) (is_n o.quality)
  where
    go : (p q r s t : Bool)
        → cond p OutageZero (cond q (Linear x) (cond r (SameDay f) (cond s Settled (cond t Nothing Delivered)))) ≡ Linear l → x ≡ l
    go true q r s t e = cc
    go false true r s t e = cc
    go false false true s t e = cc
    go false false false true t e = cc
    go false false false false true e = cc
    go false false false false false e = cc

-- the rule that applied, and its line
module _ (h : Head) (s : Slots) (a : Agreed) (holidays : List ℕ) (i : ℕ) where
  pub rule_is : rule_of (filled_at h s a holidays i) (line_at h s a.versions i) (found_of h s holidays i) ≡ rule_at h s a holidays i
  unfolding rule_of filled_at rule_at from_references line_of line_at line_through in_run
  rule_is =
      ⊎_elim (λ x. rw x) (λ x. rw x (
      ⊎_elim (λ y. rw y) (λ y. rw y (
      ⊎_elim (λ z. rw z) (λ z. rw z (
      ⊎_elim (λ l. rw l) (λ l. rw l (
      ⊎_elim (λ n. rw n) (λ n. rw n)
      (either (eqb (length (references h s holidays i)) 0))))
      (either (is_linear h s a.versions i))))
      (either (is_outage_zero h s i))))
      (either (is_agreed a.versions i))))
      (either (good_at h s i))

  pub line_is : (l : StraightLine) → rule_at h s a holidays i ≡ Linear l → line_at h s a.versions i ≡ l
  line_is l e = line_in _ _ l _ (rule_is ∙ e)

module _ (h : Head) (w : Bounded h) (b : Cells) (i : ℕ) where
  abbrev o : Outcome
  o = filled_at h b.slots b.agreed b.holidays i

  abbrev x : ℕ
  x = shape_at h b.slots b.agreed b.holidays i

  abbrev d : ℕ
  d = i / slots_per_day h

  pub outcome_is : fit_outcome o x (scaled_to (stretch_at h b i).by) ≡ outcome_at h b i
  unfolding fit_outcome
  outcome_is =
      step_outcome h w b i o x (stretch_at h b i) refl refl refl

  pub fits_are : WidthsLow b.widths → Scalable o x (scaled_to (stretch_at h b i).by)
  fits_are wide =
      let f = step_scalable h w b i o x (stretch_at h b i) refl refl refl wide in
      record { method_low = f.method_low; scales = f.scales }

  -- in a scaled span
  module _ (first last : ℕ) (l : start h b first last ≤ i) (m : i < start h b first last + slots_in h b first last)
      (q : is_s o.quality ≡ true) where
    whole_some : E h b first last ≡ 0 → ⊥
    whole_some z = omega (arith, whole_low h w b i first last l m q)

    reached_is : P h b first last i + (x + cond (all_zero h b first last) 1 0) ≡ C h b first last i
    reached_is = rw (← weight h w b i first last l m q) (sym (running h b first last i l))

  -- C stands in the scaling one slot on
  abbrev told : Scaling → Coded Shares
  told by = shares_with o.quality by (fit_next o x (scaled_to by)).by.passed

  shares_none : (by : Scaling) → by.whole ≡ 0 → told by ≡ None
  unfolding shares_with
  shares_none by z = rw (z, and-false)

  shares_span : (first last : ℕ) → start h b first last ≤ i → i < start h b first last + slots_in h b first last
      → told (span_stretch h b first last i).by ≡ shares_by h b (some first) (some last) i
  unfolding shares_by span_stretch shares_with fit_next scaled_by
  shares_span first last l m = go (is_s o.quality) (eqb (state_of h b first last) 1) refl refl
    where
      go : (q t : Bool) → is_s o.quality ≡ q → eqb (state_of h b first last) 1 ≡ t
          → told (span_stretch h b first last i).by ≡ shares_by h b (some first) (some last) i
      go true true q t = rw (q, t, ne_eqb _ _ (whole_some first last l m q), reached_is first last l m q)
      go true false q t = rw (q, t)
      go false t q u = rw q

  pub shares_are : told (stretch_at h b i).by ≡ shares_by h b (earlier b d) (later h b d) i
  unfolding stretch_at stretch_on stretch_of shares_by start
  shares_are = go (last_read b.read_versions d) (next_read b.read_versions (d + 1) (h.days - d)) refl refl
    where
      go : (f l : Option ℕ) → last_read b.read_versions d ≡ f → next_read b.read_versions (d + 1) (h.days - d) ≡ l
          → told (stretch_of h b f l i).by ≡ shares_by h b f l i
      go (some first) (some last) p q =
          let t = between_read h w b.read_versions i first last p q in
          shares_span first last t.from (rw (span_end h b first last (omega (arith, t.ordered))) t.to)
      go (some first) none p q = shares_none _ refl
      go none (some last) p q = shares_none _ refl
      go none none p q = shares_none _ refl

  -- the whole explanation
  module _ (cause : Coded Cause) (new : Filled) (rule : Rule) (held : Held)
      (c : cause ≡ cause_at h b.slots i) (outcome : new.outcome ≡ o) (shaped : new.shape ≡ x)
      (next : new.next ≡ walk_at h b.slots b.agreed.versions (i + 1))
      (by_rule : rule ≡ rule_of new.outcome new.next.line (found_of h b.slots b.holidays i))
      (span : held.span ≡ spanned_by h b (earlier b d) (later h b d)) (by : held.by ≡ (stretch_at h b i).by) where
    lined : new.next.line ≡ line_at h b.slots b.agreed.versions i
    lined = walk_line h b.slots b.agreed.versions new.next (i + 1) next ∙ sym (line_next h b.slots b.agreed.versions 0 i)

    applied : rule ≡ rule_at h b.slots b.agreed b.holidays i
    applied =
        by_rule ∙ (λ t. rule_of (outcome t) (lined t) (found_of h b.slots b.holidays i)) ∙ rule_is h b.slots b.agreed b.holidays i

    pub told_is : told_with cause new rule held ≡ explanation_of h b i
    unfolding told_with explanation_of
    told_is = λ t. record {
      cause = c t;
      rule = applied t;
      filled = outcome t;
      span = span t;
      shares =
          ((λ u. shares_with (outcome u).quality (by u) (fit_next (outcome u) (shaped u) (scaled_to (by u))).by.passed) ∙ shares_are) t;
      outcome = ((λ u. fit_outcome (outcome u) (shaped u) (scaled_to (by u))) ∙ outcome_is) t;
    }
