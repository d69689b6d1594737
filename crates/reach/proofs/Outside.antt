-- What shuts a slot out of a clause.
use mathlib.Core.Bool.{true, false≢true}
use mathlib.Core.List.{List}
use mathlib.Core.Logic.{◌⊎◌, ⊎_elim}
use mathlib.Core.Path.{◌≡◌, sym, ◌∙◌}
use Prim.Native.Nat.{ℕ, suc, ◌+◌, ◌*◌, ◌≤◌, ◌<◌}
use native.Mathlib.Omega.{arith}
use lib.ListN.{length}
use Rattle.rules.specs.declared.Head.{Head}
use Rattle.rules.specs.Opening.{Slots, Cells, slots_per_day}
use Rattle.rules.specs.Tests.{good_at}
use Rattle.rules.specs.Spans.{spans}
use Rattle.reach.specs.Reach.{InRunAt, DaysLater, SpanMet}

-- a good slot at j, or between i and j, shuts out a run that holds j and holds or touches i
pub cut : (h : Head) (s : Slots) (i g j : ℕ) → i ≤ g → g ≤ j → (i < g) ⊎ (g ≡ j) → good_at h s g ≡ true → InRunAt h s i j → ⊥
cut h s i g j l m place good r =
    let near : r.first ≤ suc i =
    ⊎_elim (λ x. let y = x.0 in omega arith) (λ p. ⊎_elim (λ x. omega (arith, r.to)) (λ x. omega arith) p) r.near in
    let from : r.first ≤ g = ⊎_elim (λ x. omega arith) (λ x. omega (arith, r.from)) place in
    false≢true (sym (r.run.causes g from (omega (arith, r.to))) ∙ good)

-- positions that differ
pub apart : (h : Head) (s : Slots) (holidays : List ℕ) (i j k : ℕ) → slots_per_day h ≡ 48 → j ≡ i + k → 0 < k → k < 48
    → DaysLater h s holidays i j → ⊥
apart h s holidays i j k n e l m d =
    let p : j ≡ i + d.days * 48 = rw n at d.place in
    omega arith

-- no days later
pub same_day_lem : (h : Head) (s : Slots) (holidays : List ℕ) (i : ℕ) → slots_per_day h ≡ 48 → DaysLater h s holidays i i → ⊥
same_day_lem h s holidays i n d =
    let p : i ≡ i + d.days * 48 = rw n at d.place in
    ⊎_elim (λ w. omega (arith, w.later)) (λ w. omega (arith, w.later)) d.within

-- no spans, no slot of one
pub no_span_lem : (h : Head) (b c : Cells) (i j : ℕ) → length (spans h b) ≡ 0 → SpanMet h b c i j → ⊥
no_span_lem h b c i j e m = omega (arith, m.spanned)
