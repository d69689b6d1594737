-- The spans that begin at the slots of a book, in order, are its spans.
use mathlib.Core.Bool.{Bool, true, false, cond}
use mathlib.Core.List.{List, [], ◌++◌, append_assoc, append-nil}
use mathlib.Core.Option.{Option, none, some}
use mathlib.Core.Path.{◌≡◌, refl, sym, ap, ◌∙◌}
use Prim.Native.Nat.{ℕ, zero, suc, ◌+◌, ◌-◌, ◌*◌, ◌%◌, ◌≤◌, ◌<◌}
use native.Mathlib.Nat.{add-zero, add-suc, zero-add, zero-mul, suc-mul, mul_comm, mul-div_cancel, mul-mod_left, mul-add-mod_self_right}
use native.Mathlib.Nat.{mod-eq_of_lt}
use native.Mathlib.Omega.{arith}
use borrow.Author.Tests.{ne_eqb}
use lib.ListN.{length, length-append}
use Rattle.std.specs.Prelude.{None}
use Rattle.rules.specs.declared.Head.{Head}
use Rattle.rules.specs.declared.Span.{Span}
use Rattle.rules.specs.Opening.{Cells, slots_per_day, slot_count}
use Rattle.rules.specs.Spans.{is_read, next_read, span_to, span_from, spans_from, spans}
use Rattle.rules.specs.Inner.Stretches.{first_of, begins_at}
use Rattle.rules.specs.Inner.Passes.{list_of, begun_before}
use Rattle.rules.proofs.Bounds.{Bounded, count_product}

module _ (h : Head) (b : Cells) where
  abbrev n : ℕ
  n = slots_per_day h

  -- at most one span begins at a boundary
  one_span : (d : ℕ) → list_of (first_of (span_from h b d)) ≡ span_from h b d
  unfolding span_from span_to
  one_span d = go (is_read b.read_versions d) (next_read b.read_versions (d + 1) (h.days - d))
    where
      go : (t : Bool) (o : Option ℕ) → list_of (first_of (cond t (span_to h b d o) [])) ≡ cond t (span_to h b d o) []
      go true none = refl
      go true (some last) = refl
      go false o = refl

  -- one boundary more
  spans_snoc : (k d : ℕ) → spans_from h b d (suc k) ≡ spans_from h b d k ++ span_from h b (d + k)
  unfolding spans_from
  spans_snoc zero d = rw add-zero (append-nil (span_from h b d))
  spans_snoc (suc k) d =
      let e : suc d + k ≡ d + suc k = omega arith in
      ap (λ (l : List Span). span_from h b d ++ l) (rw e at (spans_snoc k (suc d)))
      ∙ sym (append_assoc (span_from h b d) (spans_from h b (suc d) k) (span_from h b (d + suc k)))

  -- the spans begun before slot i come first
  pub begun_first : (i k : ℕ) → (rest : List Span) × (begun_before h b i ++ rest ≡ begun_before h b (i + k))
  unfolding begun_before
  begun_first i zero = ([], rw add-zero (append-nil (begun_before h b i)))
  begun_first i (suc k) =
      let (rest, e) = begun_first i k in (
        rest ++ list_of (begins_at h b (i + k)),
        rw add-suc (sym (append_assoc (begun_before h b i) rest (list_of (begins_at h b (i + k))))
            ∙ ap (λ (l : List Span). l ++ list_of (begins_at h b (i + k))) e),
      )

  module _ (w : Bounded h) where
    positive : 0 < n
    positive = omega (arith, w.day_low)

    begins_first : (d : ℕ) → begins_at h b (d * n) ≡ first_of (span_from h b d)
    unfolding begins_at
    begins_first d = rw (mul-mod_left, mul-div_cancel d positive)

    begins_inside : (d k : ℕ) → 0 < k → k < n → begins_at h b (d * n + k) ≡ None
    unfolding begins_at
    begins_inside d k l m =
        let z : (d * n + k) % n ≡ 0 → ⊥ = λ y. omega (arith, mul-add-mod_self_right d n k, mod-eq_of_lt m) in
        rw (ne_eqb ((d * n + k) % n) 0 z)

    -- a day begins one span at most, at its first slot
    begun_day : (d k : ℕ) → k < n → begun_before h b (d * n + suc k) ≡ begun_before h b (d * n) ++ span_from h b d
    unfolding begun_before
    begun_day d zero l = rw (add-suc, add-zero, begins_first d, one_span d)
    begun_day d (suc k) l =
        rw (add-suc (d * n) (suc k), begins_inside d (suc k) (omega arith) l)
        (append-nil (begun_before h b (d * n + suc k)) ∙ begun_day d k (omega arith))

    begun_days : (d : ℕ) → begun_before h b (d * n) ≡ spans_from h b 0 d
    unfolding begun_before spans_from
    begun_days zero = rw zero-mul
    begun_days (suc d) =
        let e : suc d * n ≡ d * n + suc (n - 1) = rw suc-mul (omega (arith, positive)) in
        rw e (begun_day d (n - 1) (omega (arith, positive)) ∙ ap (λ (l : List Span). l ++ span_from h b d) (begun_days d)
        ∙ (rw zero-add at (sym (spans_snoc d 0))))

    pub begun_all : begun_before h b (slot_count h) ≡ spans h b
    unfolding spans
    begun_all = rw (count_product, mul_comm) (begun_days h.days)

    -- no more of them begin than there are
    pub begun_room : (i : ℕ) → i < slot_count h → length (begun_before h b i) + length (list_of (begins_at h b i)) ≤ length (spans h b)
    unfolding begun_before
    begun_room i l =
        let (rest, e) = begun_first (suc i) (slot_count h - suc i) in
        let k : suc i + (slot_count h - suc i) ≡ slot_count h = omega arith in
        let f : begun_before h b (suc i) ++ rest ≡ spans h b = e ∙ ap (begun_before h b) k ∙ begun_all in
        omega (
          arith,
          length-append (begun_before h b i) (list_of (begins_at h b i)),
          length-append (begun_before h b (suc i)) rest,
          ap length f,
        )
