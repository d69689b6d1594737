-- How far one late figure reaches (02, W14): the theorem, for every list of calls and one more delivery that is stored.
use Rattle.std.specs.Prelude.{Ok}
use mathlib.Core.Bool.{true, ◌&&◌}
use mathlib.Core.List.{List, [], ◌∷◌, ◌++◌}
use mathlib.Core.Path.{◌≡◌, refl, sym, ap, ◌∙◌}
use Prim.Native.Nat.{ℕ, ◌<◌}
use borrow.Author.Tests.{not-false, leb-false}
use lib.ListN.{length, drop}
use lib.Seq.{get_or-set_other}
use Rattle.rules.specs.declared.Head.{Head}
use Rattle.rules.specs.declared.Outcome.{Outcome}
use Rattle.rules.specs.declared.Span.{Span}
use Rattle.rules.specs.Opening.{Slots, Cells, head_ok, slot_count}
use Rattle.rules.specs.Spans.{span_of, spans}
use Rattle.rules.proofs.Bounds.{Bounded, bounded}
use Rattle.book.specs.Answers.{is_accepted}
use Rattle.book.specs.Answers.Answer.{stored}
use Rattle.book.specs.Arguments.{Call, argument_rules}
use Rattle.book.specs.Arguments.Call.{delivery}
use Rattle.book.specs.Cells.{Book, slots_fit, counts_fit}
use Rattle.book.specs.Filling.{input_rules, against_delivery, slots_with, deliver_answer, deliver_after, answer, after, after_all}
use Rattle.book.proofs.Agreement.{cells_agree}
use Rattle.book.proofs.Kept.{unless_accepted}
use Rattle.file.specs.Layout.{row, slot_row, span_row, file_of}
use Rattle.publishing.specs.Publishing.{published, publish_answer, publish_after}
use Rattle.claim.specs.Claim.{left_by, plain_of, plain_file}
use Rattle.reach.specs.Reach.{SameRecords, Unmoved, Reach}
use Rattle.reach.proofs.Alike.{SameAt}
use Rattle.book.specs.Cells.{with_slots}
use Rattle.reach.proofs.Boundaries.{same_count, same_boundaries}
use Rattle.reach.proofs.Outcomes.{outcome_kept, each_span_kept}
use Rattle.reach.proofs.Records.{slot_record_lem, span_record_lem, slot_in_buffer, span_in_buffer}

-- two books that differ at slot i alone
unmoved : (h : Head) → Bounded h → (b : Cells) (t : Slots) (i : ℕ) → i < slot_count h → ((k : ℕ) → (k ≡ i → ⊥) → SameAt b.slots t k)
    → Unmoved h b (with_slots b t) i
unfolding span_of
unmoved h w b t i lt same =
    let c = with_slots b t in
    record {
      slots = λ j l free. outcome_kept h w b t i lt same j l free;
      span_count = same_count h b t;
      boundaries = λ k l.
          let p = same_boundaries h b t k l in (
            ap (λ (s : Span). s.first) p.here ∙ sym (ap (λ (s : Span). s.first) p.there),
            ap (λ (s : Span). s.last) p.here ∙ sym (ap (λ (s : Span). s.last) p.there),
          );
      each_span = each_span_kept h w b t i lt same;
      records = record {
        slot_records = λ j l free.
            slot_record_lem h b j l ∙ ap (λ (o : Outcome). row (slot_row o)) (outcome_kept h w b t i lt same j l free)
            ∙ sym (slot_record_lem h c j l);
        span_records = λ k l free.
            span_record_lem h b k l ∙ ap (λ (s : Span). row (span_row true s)) (each_span_kept h w b t i lt same k l free)
            ∙ sym (span_record_lem h c k (rw (← same_count h b t) l));
      };
    }

-- one call more
after_last : (h : Head) (b : Book) (cs : List Call) (c : Call) → after_all h b (cs ++ (c ∷ [])) ≡ after h (after_all h b cs) c
unfolding after_all
after_last h b [] c = refl
after_last h b (d ∷ cs) c = after_last h (after h b d) cs c

-- a stored delivery
module _ (h : Head) (b : Book) (i version value status : ℕ) (e : answer h b (delivery i version value status) ≡ stored) where
  -- the slots that it leaves
  abbrev left : Slots
  left = slots_with stored b.cells.slots i version value status

  leaves : (after h b (delivery i version value status)).cells ≡ with_slots b.cells left
  unfolding answer after deliver_after
  leaves = rw e

  others : (k : ℕ) → (k ≡ i → ⊥) → SameAt b.cells.slots left k
  others k apart = record {
    value = sym (get_or-set_other b.cells.slots.values i k value 0 apart);
    version = sym (get_or-set_other b.cells.slots.versions i k version 0 apart);
    status = sym (get_or-set_other b.cells.slots.statuses i k status 0 apart);
  }

  -- under a good head, at a slot of the book
  told : (head_ok h ≡ true) × (i < slot_count h)
  unfolding answer deliver_answer argument_rules
  told =
      let u = (unless_accepted (input_rules h (slots_fit h b.cells.slots && counts_fit h b.counts) (delivery i version value status))
      (against_delivery h b.cells.slots b.counts i version value status) (ap is_accepted e)).1 in
      (not-false _ (u 0), leb-false _ _ (u 2))

-- what publishing leaves in a buffer with room begins with the file
wrote : (h : Head) (calls : List Call) (out : List ℕ) (n : ℕ) → publish_answer h (left_by h calls) out ≡ Ok n
    → publish_after h (left_by h calls) out ≡ plain_file h calls ++ drop n out
unfolding publish_after
wrote h calls out n e = rw (e, cells_agree h calls)

buffers : (h : Head) (b c : Cells) (i : ℕ) (rest later : List ℕ) → length (spans h b) ≡ length (spans h c)
    → SameRecords h b c i (file_of (published h b)) (file_of (published h c))
    → SameRecords h b c i (file_of (published h b) ++ rest) (file_of (published h c) ++ later)
buffers h b c i rest later many r = record {
  slot_records = λ j l free. slot_in_buffer h b rest j l ∙ r.slot_records j l free ∙ sym (slot_in_buffer h c later j l);
  span_records = λ k l free.
      span_in_buffer h b rest k l ∙ r.span_records k l free ∙ sym (span_in_buffer h c later k (rw (← many) l));
}

pub reach : Reach
reach h calls i version value status e =
    let b = left_by h calls in
    let t = told h b i version value status e in
    let more = calls ++ (delivery i version value status ∷ []) in
    let plain : Unmoved h (plain_of h calls) (plain_of h more) i =
    rw (
      ← cells_agree h calls,
      ← cells_agree h more,
      after_last h _ calls (delivery i version value status),
      leaves h b i version value status e,
    )
    (unmoved h (bounded h t.0) b.cells (left h b i version value status e) i t.1 (others h b i version value status e)) in
    record {
      plain = plain;
      written = λ out later n m p q.
          rw (wrote h calls out n p, wrote h more later m q)
          (buffers h (plain_of h calls) (plain_of h more) i (drop n out) (drop m later) plain.span_count plain.records);
    }
