-- Inside a stretch: what is known before a slot of it, and what one slot more, or a run of direct slots, does to it.
use mathlib.Core.Bool.{Bool, true}
use mathlib.Core.List.{List, [], ◌∷◌, ◌++◌, append-nil}
use mathlib.Core.Path.{◌≡◌, refl, sym, ap, ◌∙◌}
use Prim.Native.Nat.{ℕ, zero, suc, ◌+◌, ◌-◌, ◌*◌, ◌≤◌, ◌<◌}
use native.Mathlib.Nat.{add-zero, add-suc, eq-or-lt_of_le}
use native.Mathlib.Numerals.{add-one}
use native.Mathlib.Omega.{arith}
use mathlib.Core.Logic.{⊎_elim}
use lib.ListN.{length, length-append}
use Rattle.base.specs.Lists.{up_to}
use Rattle.base.proofs.Logic.{either}
use Rattle.rules.specs.declared.Head.{Head}
use Rattle.rules.specs.declared.Outcome.{Outcome}
use Rattle.rules.specs.declared.linear.StraightLine.{StraightLine}
use Rattle.rules.specs.declared.stretch.Stretch.{Stretch}
use Rattle.std.specs.Prelude.{Option}
use Rattle.rules.specs.declared.Span.{Span}
use Rattle.rules.specs.Opening.{Cells, slot_count}
use Rattle.rules.specs.Tests.{good_at}
use Rattle.rules.specs.Filling.{filled_at, shape_at}
use Rattle.rules.specs.Spans.{outcome_at, spans}
use Rattle.rules.specs.Inner.Lent.{AgreedLow, WidthsLow}
use Rattle.rules.specs.Inner.Walks.{zero_at, zero_before, line_at, line_before, direct_at, direct_of, walk_at}
use Rattle.rules.specs.Inner.Stretches.{stretch_at, carried_at, begins_at, fit_outcome, fit_next}
use Rattle.rules.specs.Inner.Passes.{pass_at, list_of, begun_before}
use Rattle.rules.proofs.Bounds.{Bounded}
use Rattle.rules.proofs.SpansInOrder.{begun_room}
use Rattle.rules.proofs.Directs.{direct_filled, direct_shape}
use Rattle.rules.proofs.Steps.{step_outcome, step_carried, fit_until}
use Rattle.rules.proofs.Stretches.{carried_on}
use Rattle.file.specs.Layout.{row, table, slot_row, span_row}
use Rattle.file.specs.Inner.Writing.{written}
use Rattle.file.proofs.Rows.{length_row}
use Rattle.file.proofs.Written.{length_written}
use Rattle.publishing.specs.declared.tables.Totals.{Totals}
use Rattle.publishing.specs.declared.tables.Progress.{Progress}
use Rattle.publishing.specs.Inner.Publishing.{totals_of, added_to, direct_totals, direct_records, first_slots, buffer_of, buffer_at}
use Rattle.publishing.specs.Inner.Publishing.{buffer_in, progress_at, Countable}
use Rattle.publishing.proofs.Buffers.{buffer_slots, buffer_spans, length_first, table_one, written_none}
use Rattle.publishing.proofs.Records.{records_more}
use Rattle.publishing.proofs.Totals.{totals_next, begun_next, slots_next, countable}

-- the stretch begins at slot `from` and ends before slot `until`; d₀ is the buffer at its first slot, d that before slot i
pub record Inside (h : Head) (b : Cells) (d₀ : List ℕ) (from until : ℕ) (o : Bool) (l : StraightLine) (here : Stretch) (t : Totals)
    (d : List ℕ) (i : ℕ)
    : Type 0 where
  pub further : from ≤ i
  pub inside : i ≤ until
  pub outage : o ≡ zero_before b.slots.versions b.slots.statuses (slot_count h) i
  pub line : l ≡ line_before h b.slots b.agreed.versions i
  pub end : here.until ≡ until
  pub stretch : i < until → here ≡ stretch_at h b i
  pub carried : from < i → here ≡ carried_at h b i
  pub begun : from < i → begun_before h b i ≡ begun_before h b (from + 1)
  pub totals : t ≡ totals_of (first_slots h b i)
  pub long : length d ≡ length d₀
  pub bytes : (x : List ℕ) → length x ≡ length d₀ → d₀ ≡ buffer_in h b x from (from + 1) → d ≡ buffer_in h b x i (from + 1)

module _ (h : Head) (w : Bounded h) (b : Cells) where
  -- the spans that begin at the first slots are no more than all
  pub begun_low : (i : ℕ) → i < slot_count h → length (begun_before h b (i + 1)) ≤ length (spans h b)
  begun_low i l =
      let e = ap length (begun_next h b i) ∙ length-append (begun_before h b i) (list_of (begins_at h b i)) in
      omega (arith, e, begun_room h b w i l)

  -- the record of slot i in a buffer that holds those before it
  slot_more : (d : List ℕ) (i k : ℕ) → i < slot_count h → 6 * slot_count h + 14 * length (begun_before h b k) ≤ length d
      → written (buffer_in h b d i k) (6 * i) (row (slot_row (outcome_at h b i))) ≡ buffer_in h b d (i + 1) k
  unfolding buffer_in
  slot_more d i k l room =
      let n = length_first h b i in
      let more = buffer_slots h b d (first_slots h b i) (outcome_at h b i ∷ []) (begun_before h b k) (omega arith) room in
      rw (slots_next h b i, ← table_one slot_row (outcome_at h b i)) (rw n at more)

module _ (h : Head) (w : Bounded h) (b : Cells) (d₀ : List ℕ) (from until : ℕ) (last : until ≤ slot_count h) where
  -- one slot on
  module _ (o : Bool) (l : StraightLine) (here : Stretch) (t : Totals) (d : List ℕ) (i : ℕ) (held : Inside h b d₀ from until o l here t d i)
      (inside : i < until)
      (slot : Outcome) (x : ℕ) (filled : slot ≡ filled_at h b.slots b.agreed b.holidays i)
      (shaped : x ≡ shape_at h b.slots b.agreed b.holidays i) where
    outcome : fit_outcome slot x here ≡ outcome_at h b i
    outcome = step_outcome h w b i slot x here (held.stretch inside) filled shaped

    on_carried : fit_next slot x here ≡ carried_at h b (i + 1)
    on_carried = step_carried h w b i slot x here (held.stretch inside) filled shaped

    on_end : (fit_next slot x here).until ≡ until
    on_end = fit_until slot x here ∙ held.end

    on_begun : begun_before h b (i + 1) ≡ begun_before h b (from + 1)
    on_begun = ⊎_elim (λ e. ap (λ (k : ℕ). begun_before h b (k + 1)) (sym e)) later (eq-or-lt_of_le held.further)
      where
        later : from < i → begun_before h b (i + 1) ≡ begun_before h b (from + 1)
        later l =
            let ends : i ≡ (carried_at h b i).until
            → ⊥ = λ e. omega (arith, e ∙ ap (λ (r : Stretch). r.until) (sym (held.carried l)) ∙ held.end) in
            let none = (carried_on h w b i (omega arith) ends).0 in
            begun_next h b i ∙ ap (λ (g : Option Span). begun_before h b i ++ list_of g) none ∙ append-nil _ ∙ held.begun l

    on_stretch : i + 1 < until → fit_next slot x here ≡ stretch_at h b (i + 1)
    on_stretch l =
        let ends : i + 1 ≡ (carried_at h b (i + 1)).until
        → ⊥ = λ e. omega (arith, e ∙ ap (λ (r : Stretch). r.until) (sym on_carried) ∙ on_end) in
        on_carried ∙ (carried_on h w b (i + 1) (omega arith) ends).1

    inside_on : (o' : Bool) (l' : StraightLine) (out : List ℕ) → o' ≡ zero_at b.slots.versions b.slots.statuses (slot_count h) i
        → l' ≡ line_at h b.slots b.agreed.versions i → 6 * slot_count h + 14 * length (spans h b) ≤ length d₀
        → out ≡ written d (6 * i) (row (slot_row (fit_outcome slot x here)))
        → Inside h b d₀ from until o' l' (fit_next slot x here) (added_to t (fit_outcome slot x here)) out (i + 1)
    unfolding zero_before line_before buffer_in
    inside_on o' l' out z m room e =
        let r : List ℕ = row (slot_row (fit_outcome slot x here)) in
        let begun : length (begun_before h b (from + 1)) ≤ length (spans h b) = begun_low h w b from (omega (arith, held.further)) in
        record {
          further = omega (arith, held.further);
          inside = omega arith;
          outage = rw (add-one i) z;
          line = rw (add-one i) m;
          end = on_end;
          stretch = on_stretch;
          carried = λ k. on_carried;
          begun = λ k. on_begun;
          totals = (λ k. added_to (held.totals k) (outcome k)) ∙ sym (totals_next h b i);
          long =
              ap length e ∙ length_written d (6 * i) r (omega (arith, held.long, length_row (slot_row (fit_outcome slot x here))))
              ∙ held.long;
          bytes = λ y n f.
              e ∙ (λ k. written (held.bytes y n f k) (6 * i) (row (slot_row (outcome k))))
              ∙ slot_more h w b y i (from + 1) (omega arith) (omega (arith, begun));
        }

    pub inside_next : (o' : Bool) (l' : StraightLine) (y : Outcome) (on : Stretch) (t' : Totals) (out : List ℕ)
        → o' ≡ zero_at b.slots.versions b.slots.statuses (slot_count h) i → l' ≡ line_at h b.slots b.agreed.versions i
        → 6 * slot_count h + 14 * length (spans h b) ≤ length d₀ → y ≡ fit_outcome slot x here → on ≡ fit_next slot x here → t' ≡ added_to t
        y
        → out ≡ written d (6 * i) (row (slot_row y)) → Inside h b d₀ from until o' l' on t' out (i + 1)
    inside_next o' l' y on t' out z m room e f g u =
        rw (f, g, e) (inside_on o' l' out z m room (u ∙ (λ k. written d (6 * i) (row (slot_row (e k))))))

-- a stretch leaves a direct slot as it is, and goes on as it was
module _ (h : Head) (b : Cells) (i : ℕ) (here : Stretch) where
  abbrev own : Outcome
  own = direct_of h b.slots b.agreed i

  direct_outcome : fit_outcome own 0 here ≡ own
  unfolding direct_of fit_outcome
  direct_outcome = ⊎_elim (λ p. rw p) (λ p. rw p) (either (good_at h b.slots i))

  direct_next : fit_next own 0 here ≡ here
  unfolding direct_of fit_next
  direct_next = ⊎_elim (λ p. rw p) (λ p. rw p) (either (good_at h b.slots i))

-- a run of direct slots on
module _ (h : Head) (w : Bounded h) (b : Cells) (d₀ : List ℕ) (from until : ℕ) (last : until ≤ slot_count h)
    (room : 6 * slot_count h + 14 * length (spans h b) ≤ length d₀) (o : Bool) (l : StraightLine) (here : Stretch) (t : Totals) (d : List ℕ)
    (i : ℕ) (held : Inside h b d₀ from until o l here t d i) where
  abbrev zeroed : ℕ → Bool
  zeroed k = zero_before b.slots.versions b.slots.statuses (slot_count h) (i + k)

  abbrev lined : ℕ → StraightLine
  lined k = line_before h b.slots b.agreed.versions (i + k)

  abbrev put : ℕ → List ℕ
  put k = written d (6 * i) (direct_records h b.slots b.agreed i k)

  pub run : (k : ℕ) → i + k ≤ until → ((j : ℕ) → j < i + k → i ≤ j → direct_at h b.slots b.agreed j ≡ true)
      → Inside h b d₀ from until (zeroed k) (lined k) here (direct_totals h b.slots b.agreed t i k) (put k) (i + k)
  unfolding zero_before line_before direct_totals up_to table
  run zero m direct =
      rw (add-zero i, written_none d (6 * i)) (record {
        further = held.further;
        inside = held.inside;
        outage = refl;
        line = refl;
        end = held.end;
        stretch = held.stretch;
        carried = held.carried;
        begun = held.begun;
        totals = held.totals;
        long = held.long;
        bytes = held.bytes;
      })
  run (suc k) m direct =
      let is = direct (i + k) (omega arith) (omega arith) in
      let on = inside_on h w b d₀ from until last _ _ here _ _ (i + k) (run k (omega arith) (λ j n. direct j (omega arith))) (omega arith) _
      0
      (direct_filled h b.slots b.agreed (i + k) is b.holidays) (direct_shape h b.slots b.agreed (i + k) is b.holidays)
      _ _ _ refl refl room refl in
      rw (add-suc i k) (rw (
        direct_outcome h b (i + k) here,
        direct_next h b (i + k) here,
        records_more h b.slots b.agreed d i k (omega (arith, held.long, last)),
        add-one (i + k),
      ) at on)

  pub inside_run : (end : ℕ) (o' : Bool) (l' : StraightLine) (t' : Totals) (out : List ℕ) → i ≤ end → end ≤ until
      → ((j : ℕ) → j < end → i ≤ j → direct_at h b.slots b.agreed j ≡ true)
      → o' ≡ zero_before b.slots.versions b.slots.statuses (slot_count h) end → l' ≡ line_before h b.slots b.agreed.versions end
      → t' ≡ direct_totals h b.slots b.agreed t i (end - i) → out ≡ put (end - i) → Inside h b d₀ from until o' l' here t' out end
  inside_run end o' l' t' out m n direct x y z u =
      let e : i + (end - i) ≡ end = omega arith in
      rw (x, y, z, u) (rw e at (run (end - i) (omega arith) (λ j k. direct j (omega arith))))

  -- their totals take one slot more
  pub run_countable : AgreedLow b.agreed → WidthsLow b.widths → (k : ℕ) → i + k ≤ until
      → ((j : ℕ) → j < i + k → i ≤ j → direct_at h b.slots b.agreed j ≡ true) → Countable (direct_totals h b.slots b.agreed t i k)
  run_countable low narrow k m direct = countable h b (i + k) w low narrow (omega (arith, last)) _ (run k m direct).totals

-- behind the last slot
module _ (h : Head) (b : Cells) (d₀ : List ℕ) (from until : ℕ) (o : Bool) (l : StraightLine) (here : Stretch) (t : Totals) (d : List ℕ)
    (i : ℕ) (held : Inside h b d₀ from until o l here t d i) (further : from < until) (ends : until ≤ i) where
  pub passed : record { walk = record { at = i; outage = o; line = l }; stretch = here } ≡ pass_at h b i
  unfolding pass_at walk_at
  passed =
      λ k. record {
        walk = record { at = i; outage = held.outage k; line = held.line k };
        stretch = held.carried (omega (arith, held.inside)) k;
      }

-- from a stretch to the next
module _ (h : Head) (w : Bounded h) (b : Cells) (i : ℕ) (inside : i < slot_count h) (n : ℕ) (known : n ≡ length (begun_before h b i))
    (g : Option Span)
    (begins : g ≡ begins_at h b i) where
  -- with the span that begins at slot i
  pub spans_begun : n + length (list_of g) ≡ length (begun_before h b (i + 1))
  spans_begun = rw (known, begins) (sym (ap length (begun_next h b i) ∙ length-append (begun_before h b i) (list_of (begins_at h b i))))

  pub bytes_begun : (x d e : List ℕ) (place : ℕ) → 6 * slot_count h + 14 * length (spans h b) ≤ length x → d ≡ buffer_at h b x i
      → place ≡ 6 * slot_count h
      → e ≡ written d (place + 14 * n) (table (span_row true) (list_of g)) → e ≡ buffer_in h b x i (i + 1)
  unfolding buffer_at buffer_in
  bytes_begun x d e place room held p u =
      let first = length_first h b i in
      let more = buffer_spans h b x (first_slots h b i) (begun_before h b i) (list_of (begins_at h b i)) (omega arith)
      (omega (arith, begun_room h b w i inside)) in
      u ∙ (rw (held, p, known, begins, begun_next h b i) more)

-- behind a stretch, where k slots' spans have begun
module _ (h : Head) (b : Cells) (at k : ℕ) (begun : begun_before h b at ≡ begun_before h b k) where
  pub whole_progress : (p : Progress) → p.pass ≡ pass_at h b at → p.spans ≡ length (begun_before h b k)
      → p.totals ≡ totals_of (first_slots h b at)
      → p ≡ progress_at h b at
  unfolding progress_at
  whole_progress p x y z = let s = y ∙ ap length (sym begun) in λ t. record { pass = x t; spans = s t; totals = z t }

  pub whole_buffer : (x : List ℕ) → buffer_in h b x at k ≡ buffer_at h b x at
  unfolding buffer_in buffer_at
  whole_buffer x = ap (buffer_of h x (first_slots h b at)) (sym begun)
