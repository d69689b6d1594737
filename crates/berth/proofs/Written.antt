-- What the file of a run holds: its length, its span's state and its total.
use mathlib.Core.Bool.{true}
use mathlib.Core.List.{List, ◌∷◌, [], ◌++◌}
use mathlib.Core.Path.{◌≡◌, refl, sym, ap, ◌∙◌}
use Prim.Native.Nat.{ℕ, ◌+◌, ◌-◌, ◌*◌, ◌≤◌, ◌<◌}
use native.Mathlib.Omega.{arith}
use lib.Dec.{lit<}
use lib.ListN.{length}
use lib.Seq.{take_at}
use Rattle.base.proofs.Lists.{length_up_to}
use Rattle.rules.specs.declared.Head.{Head}
use Rattle.rules.specs.Opening.{head_ok, slot_count, Cells}
use Rattle.rules.specs.Spans.{state_of, span_of, outcome_at, outcomes, spans}
use Rattle.rules.proofs.Bounds.{bounded, count_high}
use Rattle.rules.proofs.States.{state_low}
use Rattle.book.specs.Arguments.{Call}
use Rattle.file.specs.Contents.{span}
use Rattle.file.specs.Layout.{Content, figures_of, file_of}
use Rattle.file.specs.Reader.{num}
use Rattle.file.proofs.Content.{length_file, span_field, trailer_field_lem}
use Rattle.file.proofs.Numbers.{num_take}
use Rattle.publishing.specs.Publishing.{published}
use Rattle.publishing.proofs.Publishing.{agreed_low, widths_low}
use Rattle.publishing.proofs.Totals.{sum_low}
use Rattle.claim.specs.Claim.{plain_of, plain_file}
use Rattle.claim.proofs.WholeLists.{sound}
use Rattle.berth.specs.Run.{run_calls}
use Rattle.berth.specs.Inner.Refusing.{file_size}
use Rattle.berth.proofs.Booked.{book_run, ends}
use Rattle.berth.proofs.OneSpan.{one_span}

-- a number that stands in the first of two lists
num_first : (p q : List ℕ) (k at : ℕ) → at + k ≤ length p → num k (p ++ q) at ≡ num k p at
num_first p q k at le = sym (num_take (p ++ q) (length p) k at le) ∙ ap (λ (l : List ℕ). num k l at) (take_at p q (length p) refl)

module _ (h : Head) (seed loss : ℕ) (good : head_ok h ≡ true) where
  abbrev cs : List Call
  cs = run_calls h seed loss

  abbrev b : Cells
  b = plain_of h cs

  pub span_of_run : spans h b ≡ span_of h b 0 h.days ∷ []
  span_of_run = rw (book_run h seed loss good) (one_span h good _ (ends h seed loss good))

  abbrev f : Content
  f = published h b

  slots_of_run : length f.slots ≡ slot_count h
  unfolding published outcomes
  slots_of_run = length_up_to (outcome_at h b) 0 (slot_count h)

  pub file_size_lem : length (plain_file h cs) ≡ file_size h
  unfolding published file_size
  file_size_lem = length_file f ∙ rw (slots_of_run, span_of_run)

  some_span : 0 < length f.spans
  unfolding published
  some_span = rw span_of_run (omega arith)

  its_state : (span f 0).state ≡ state_of h b 0 h.days
  unfolding published span_of
  its_state = rw span_of_run

  state_in : num 1 (file_of f) (6 * slot_count h + 12) ≡ state_of h b 0 h.days
  state_in =
      let low : (span f 0).state < 256 = rw its_state (omega (arith, state_low h b 0 h.days)) in
      let here : num 1 (file_of f) (6 * length f.slots + 14 * 0 + 12) ≡ (span f 0).state = unfold published in
      span_field f 0 some_span 4 (lit< tt) low in
      let place : 6 * slot_count h + 12 ≡ 6 * length f.slots + 14 * 0 + 12 = omega (arith, slots_of_run) in
      rw place (here ∙ its_state)

  pub sum_high : (figures_of f).sum ≤ 11_520_000_000_000
  unfolding figures_of published outcomes
  sum_high =
      let s = sound h cs good in
      omega (arith, sum_low h b (slot_count h) (bounded h good) (agreed_low h b s) (widths_low h b s), count_high h (bounded h good))

  sum_in : num 8 (file_of f) (6 * slot_count h + 34) ≡ (figures_of f).sum
  unfolding file_size
  sum_in =
      let place : 6 * slot_count h + 34 ≡ length (file_of f) - 32 + 20 = omega (arith, file_size_lem) in
      rw place (trailer_field_lem f 8 (lit< tt) (omega (arith, sum_high)))

  module _ (rest : List ℕ) where
    pub state_back : num 1 (plain_file h cs ++ rest) (6 * slot_count h + 12) ≡ state_of h b 0 h.days
    unfolding file_size
    state_back = num_first (plain_file h cs) rest 1 (6 * slot_count h + 12) (omega (arith, file_size_lem)) ∙ state_in

    pub sum_back : num 8 (plain_file h cs ++ rest) (6 * slot_count h + 34) ≡ (figures_of f).sum
    unfolding file_size
    sum_back = num_first (plain_file h cs) rest 8 (6 * slot_count h + 34) (omega (arith, file_size_lem)) ∙ sum_in
