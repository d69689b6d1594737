-- The slots sent one after another: before slot i the berth, the lists and the true total are those of i steps.
use mathlib.Core.Bool.{true}
use mathlib.Core.Path.{◌≡◌, refl, ap, ◌∙◌}
use Prim.Native.Nat.{ℕ, ◌+◌, ◌*◌, ◌≤◌, ◌<◌, zero-le}
use native.Mathlib.Nat.{mul-le-mul, zero-add}
use native.Mathlib.Numerals.{add-one}
use native.Mathlib.Omega.{arith}
use Rattle.base.specs.Lists.{sum}
use Rattle.rules.specs.declared.Head.{Head}
use Rattle.rules.specs.Opening.{head_ok, slot_count}
use Rattle.rules.proofs.Bounds.{bounded, count_high}
use Rattle.rules.proofs.Summaries.{sum_small}
use Rattle.berth.specs.declared.generator.Berth.{Berth}
use Rattle.berth.specs.Generator.{draw}
use Rattle.berth.specs.Steps.{most_of, seeded, stepped, berth_after, value_at}
use Rattle.berth.specs.Run.{true_total}
use Rattle.berth.specs.Inner.Sending.{Sent, sent_one, sent_from}
use Rattle.berth.proofs.Draws.{value_low}

module _ (h : Head) (good : head_ok h ≡ true) where
  pub limit_fits : h.limit * h.interval ≤ 30_000_000
  limit_fits = mul-le-mul (bounded h good).limit_high (bounded h good).interval_high

  pub most_high : most_of h ≤ 500_000
  unfolding most_of
  most_high = omega (arith, limit_fits)

  pub slots_high : slot_count h ≤ 115_200
  slots_high = count_high h (bounded h good)

-- a true value is at most floor(limit × L / 60)
pub value_high : (h : Head) (seed loss i : ℕ) → value_at h seed loss i ≤ most_of h
unfolding value_at berth_after stepped
value_high h seed loss i = omega (arith, value_low (draw (draw (berth_after h seed loss i).x)) (most_of h))

-- the lists s₀ at first and s now, the berth, the true total and the slot that comes next
pub record Under (h : Head) (seed loss : ℕ) (s₀ s : Sent) (b : Berth) (t slot : ℕ) : Type 0 where
  pub inside : slot ≤ slot_count h
  pub berth : b ≡ berth_after h seed loss slot
  pub lists : s ≡ sent_from h seed loss s₀ slot
  pub total : t ≡ sum (value_at h seed loss) 0 slot

module _ (h : Head) (seed loss : ℕ) (s₀ : Sent) where
  pub send_first : (b : Berth) → b ≡ seeded seed → Under h seed loss s₀ s₀ b 0 0
  unfolding berth_after sent_from sum
  send_first b e = record { inside = zero-le; berth = e; lists = refl; total = refl }

  module _ (s : Sent) (b : Berth) (total slot : ℕ) (u : Under h seed loss s₀ s b total slot) where
    -- the total fits 64 bits
    pub total_high : head_ok h ≡ true → total ≤ 57_600_000_000
    total_high good =
        let low = sum_small (value_at h seed loss) 500_000 (λ i. omega (arith, value_high h seed loss i, most_high h good)) 0 slot in
        omega (arith, slots_high h good, u.inside, u.total)

    pub send_next : (most : ℕ) (b' : Berth) (s' : Sent) → slot < slot_count h → most ≡ most_of h → b' ≡ stepped loss most b
        → s' ≡ sent_one h s slot b'
        → Under h seed loss s₀ s' b' (total + b'.value) (slot + 1)
    unfolding berth_after sent_from sum value_at
    send_next most b' s' lt m e f =
        let next : b' ≡ berth_after h seed loss (slot + 1) = e ∙ rw (m, u.berth, add-one) in
        record {
          inside = omega arith;
          berth = next;
          lists = f ∙ rw (u.lists, next, add-one);
          total = rw (add-one, ← u.total, zero-add) (ap (λ (c : Berth). total + c.value) (rw add-one at next));
        }

    pub send_last : slot_count h ≤ slot → (total ≡ true_total h seed loss) × (s ≡ sent_from h seed loss s₀ (slot_count h))
    unfolding true_total
    send_last over =
        let e : slot ≡ slot_count h = omega (arith, u.inside) in
        (u.total ∙ ap (sum (value_at h seed loss) 0) e, u.lists ∙ ap (sent_from h seed loss s₀) e)

pub true_high : (h : Head) (seed loss : ℕ) → head_ok h ≡ true → true_total h seed loss ≤ 57_600_000_000
unfolding true_total
true_high h seed loss good =
    let low = sum_small (value_at h seed loss) 500_000 (λ i. omega (arith, value_high h seed loss i, most_high h good)) 0 (slot_count h) in
    omega (arith, slots_high h good)
