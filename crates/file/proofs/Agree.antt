-- Tables with the same records pass the reader's tests together.
use mathlib.Core.Path.{◌≡◌, sym, ap, ◌∙◌, subst}
use mathlib.Core.Bool.{Bool, true, cond}
use Prim.Native.Nat.{ℕ, ◌+◌, ◌-◌, ◌*◌, ◌≤◌, ◌<◌}
use native.Mathlib.Omega.{arith}
use Rattle.base.specs.Lists.{sum, any, every, all}
use Rattle.base.proofs.Logic.{passed}
use Rattle.base.proofs.Sums.{sum_cong, any_cong, all_at, at_all}
use Rattle.rules.specs.declared.Quality.{Quality}
use Rattle.rules.specs.declared.Quality.TheVariants.{S, N}
use Rattle.file.specs.declared.slots.SlotRecord.{SlotRecord}
use Rattle.file.specs.Reader.{Tables, of_quality, scaled, unscaled, record_ok, count_of, start_of, slots_of, has, span_ok, state_ok}
use Rattle.file.specs.Reader.{lies_in}
use Rattle.file.specs.Reader.{outside_ok, table_tests}
use Rattle.file.proofs.Inside.{ends}

pub record Agree (T U : Tables) : Type 0 where
  pub per_day : T.per_day ≡ U.per_day
  pub days : T.days ≡ U.days
  pub spans : T.spans ≡ U.spans
  pub slot : (i : ℕ) → i < U.per_day * U.days → T.slot i ≡ U.slot i
  pub span : (j : ℕ) → j < U.spans → T.span j ≡ U.span j

module _ (T U : Tables) (e : Agree T U) where
  abbrev n : ℕ
  n = U.per_day * U.days

  pub count_agree : (q : Quality) → count_of T q ≡ count_of U q
  count_agree q =
      rw (e.per_day, e.days) (sum_cong _ _ 0 n (λ i _ m. ap (λ (r : SlotRecord). cond (of_quality q r) 1 0) (e.slot i (omega arith))))

  values_agree : (a k : ℕ) → a + k ≤ n → sum (λ i. (T.slot i).value) a k ≡ sum (λ i. (U.slot i).value) a k
  values_agree a k l = sum_cong _ _ a k (λ i _ m. ap (λ (r : SlotRecord). r.value) (e.slot i (omega arith)))

  pub sum_agree : sum (λ i. (T.slot i).value) 0 (T.per_day * T.days) ≡ sum (λ i. (U.slot i).value) 0 n
  sum_agree = rw (e.per_day, e.days) (values_agree 0 n (omega arith))

  module _ (j : ℕ) (l : j < U.spans) where
    start_agree : start_of T j ≡ start_of U j
    start_agree = rw (e.span j l, e.per_day)

    slots_agree : slots_of T j ≡ slots_of U j
    slots_agree = rw (e.span j l, e.per_day)

    pub span_agree : span_ok T j ≡ span_ok U j
    unfolding span_ok
    span_agree = rw (e.span j l, e.span (j - 1) (omega arith), e.days)

    module _ (ok : span_ok U j ≡ true) where
      has_agree : (p : SlotRecord → Bool) → has T p j ≡ has U p j
      has_agree p =
          rw (start_agree, slots_agree) (any_cong _ _ (start_of U j) (slots_of U j) (λ i _ m. ap p (e.slot i (omega (arith, ends U j ok)))))

      value_agree : sum (λ i. (T.slot i).value) (start_of T j) (slots_of T j) ≡ sum (λ i. (U.slot i).value) (start_of U j) (slots_of U j)
      value_agree = rw (start_agree, slots_agree) (values_agree (start_of U j) (slots_of U j) (ends U j ok))

      pub state_agree : state_ok T j ≡ state_ok U j
      unfolding state_ok
      state_agree = rw (has_agree (of_quality N), has_agree scaled, has_agree unscaled, has_agree (of_quality S), value_agree, e.span j l)

  module _ (ok : every (table_tests U) ≡ true) where
    each_span_lem : (j : ℕ) → j < U.spans → span_ok U j ≡ true
    each_span_lem j l = all_at _ U.spans (passed (table_tests U) ok 1) j l

    outside_agree : (i : ℕ) → i < n → outside_ok T i ≡ outside_ok U i
    unfolding outside_ok
    outside_agree i l =
        let same : any (lies_in T i) 0 U.spans ≡ any (lies_in U i) 0 U.spans =
        any_cong _ _ 0 U.spans (λ j _ m. rw (e.span j (omega arith), e.per_day)) in
        rw (e.slot i l, e.spans, same)

    pub tables_agree : every (table_tests T) ≡ true
    tables_agree =
        let whole : n ≡ T.per_day * T.days = rw (e.per_day, e.days) in
        let records : all (λ i. record_ok (T.slot i)) 0 (T.per_day * T.days) ≡ true =
        subst (λ (k : ℕ). all (λ i. record_ok (T.slot i)) 0 k ≡ true) whole
        (at_all _ n (λ i l. ap record_ok (e.slot i l) ∙ all_at _ n (passed (table_tests U) ok 0) i l)) in
        let spans : all (span_ok T) 0 T.spans ≡ true =
        subst (λ (k : ℕ). all (span_ok T) 0 k ≡ true) (sym e.spans) (at_all _ U.spans (λ j l. span_agree j l ∙ each_span_lem j l)) in
        let states : all (state_ok T) 0 T.spans ≡ true =
        subst (λ (k : ℕ). all (state_ok T) 0 k ≡ true) (sym e.spans)
        (at_all _ U.spans (λ j l. state_agree j l (each_span_lem j l) ∙ all_at _ U.spans (passed (table_tests U) ok 2) j l)) in
        let outside : all (outside_ok T) 0 (T.per_day * T.days) ≡ true =
        subst (λ (k : ℕ). all (outside_ok T) 0 k ≡ true) whole
        (at_all _ n (λ i l. outside_agree i l ∙ all_at _ n (passed (table_tests U) ok 3) i l)) in
        rw (records, spans, states, outside)
