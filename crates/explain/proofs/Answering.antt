-- An explanation's last field is the slot's record in the published file.
use mathlib.Core.Path.{◌≡◌, ap, ◌∙◌}
use Prim.Native.Nat.{ℕ, ◌<◌}
use native.Mathlib.Nat.{zero-add}
use lib.ListN.{get_or}
use Rattle.base.proofs.Lists.{get_d_up_to}
use Rattle.rules.specs.declared.Head.{Head}
use Rattle.rules.specs.Opening.{Cells, slot_count}
use Rattle.rules.specs.Spans.{outcome_at, no_outcome, outcomes}
use Rattle.publishing.specs.Publishing.{published}
use Rattle.explain.specs.Explain.{explanation_of}

-- an explanation cannot disagree with the file
pub as_published : (h : Head) (b : Cells) (i : ℕ) → i < slot_count h → get_or (published h b).slots i no_outcome ≡
    (explanation_of h b i).outcome
unfolding published outcomes explanation_of
as_published h b i l = get_d_up_to (outcome_at h b) no_outcome 0 (slot_count h) i l ∙ ap (outcome_at h b) (zero-add i)
