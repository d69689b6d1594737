-- The lists that the calls of a run leave, from the lists that each kind of call is lent.
use mathlib.Core.Bool.{Bool, true, false, cond}
use mathlib.Core.List.{List, [], ◌∷◌, ◌++◌}
use mathlib.Core.Path.{◌≡◌, refl, sym, ap, ◌∙◌}
use Prim.Native.Nat.{ℕ, zero, suc, ◌%◌}
use Rattle.rules.specs.declared.Head.{Head}
use Rattle.rules.specs.Opening.{head_ok, slot_count}
use Rattle.rules.specs.Lent.{slots}
use Rattle.book.specs.declared.lent.SlotsMut.{SlotsMut}
use Rattle.book.specs.Arguments.{Call}
use Rattle.book.specs.Arguments.Call.{delivery}
use Rattle.book.specs.Cells.{Reads, Book, reads_of, book_fits, with_slots, with_reads}
use Rattle.book.specs.Opening.{opened, open_answer, open_after}
use Rattle.book.specs.Filling.{deliver_after, counts_after, register_after, after, after_all}
use Rattle.claim.specs.Claim.{left_by}
use Rattle.berth.specs.Steps.{berth_after, lost_at, value_at}
use Rattle.berth.specs.Run.{sent_at, sent, true_total, dial_reads, run_calls}
use Rattle.berth.specs.Inner.Sending.{Sent, written_sent, sent_one, sent_from}

after_append : (h : Head) (b : Book) (cs ds : List Call) → after_all h b (cs ++ ds) ≡ after_all h (after_all h b cs) ds
unfolding after_all
after_append h b [] ds = refl
after_append h b (c ∷ cs) ds = after_append h (after h b c) cs ds

-- the lists of a delivery in a book, and a book with other such lists
abbrev pub sent_in : Book → Sent
sent_in b = record { slots = b.cells.slots; counts = b.counts }

abbrev with_sent : Book → Sent → Book
with_sent b s = record { cells = with_slots b.cells s.slots; counts = s.counts }

-- lists that are those of a struct, whatever its calls made of them
pub sent_are : (s : SlotsMut) {values versions statuses counts : List ℕ} {x : Sent} → values ≡ s.values.now → versions ≡ s.versions.now
    → statuses ≡ s.statuses.now → written_sent s counts ≡ x → record { slots = slots values versions statuses; counts = counts } ≡ x
sent_are s v w u e = rw (v, w, u) e

-- a book with other lists of reads
abbrev with_dial : Book → Reads → Book
with_dial b r = record { cells = with_reads b.cells r; counts = b.counts }

-- what the dial's two reads leave
abbrev pub dial_after : Head → Reads → ℕ → Reads
dial_after h r total = register_after h (register_after h r 0 1 0 0) h.days 1 (total % 100_000_000) 0

module _ (h : Head) (seed loss : ℕ) (b : Book) where
  one_sent : (s : Sent) (i : ℕ)
      → after_all h (with_sent b s) (sent_at h seed loss i) ≡ with_sent b (sent_one h s i (berth_after h seed loss (suc i)))
  unfolding sent_at lost_at value_at sent_one after_all after
  one_sent s i = go (berth_after h seed loss (suc i)).lost (berth_after h seed loss (suc i)).value
    where
      go : (t : Bool) (v : ℕ)
          → after_all h (with_sent b s) (cond t [] (delivery i 1 v 0 ∷ []))
          ≡ with_sent b (cond t s
          (record { slots = deliver_after h s.slots s.counts i 1 v 0; counts = counts_after h s.slots s.counts i 1 v 0 }))
      go true v = refl
      go false v = refl

  all_sent : (i : ℕ) → after_all h b (sent h seed loss i) ≡ with_sent b (sent_from h seed loss (sent_in b) i)
  unfolding sent sent_from after_all
  all_sent zero = refl
  all_sent (suc i) =
      after_append h b (sent h seed loss i) (sent_at h seed loss i)
      ∙ ap (λ (c : Book). after_all h c (sent_at h seed loss i)) (all_sent i)
      ∙ one_sent (sent_from h seed loss (sent_in b) i) i

  dial_read_lem : (total : ℕ) → after_all h b (dial_reads h total) ≡ with_dial b (dial_after h (reads_of b.cells) total)
  unfolding dial_reads after_all after
  dial_read_lem total = refl

-- a book o that was opened, with the lists s after the deliveries and r after the reads
pub run_lists : (h : Head) (seed loss : ℕ) (o : Book) (s : Sent) (r : Reads) (total : ℕ) → o ≡ opened h
    → total ≡ true_total h seed loss → s ≡ sent_from h seed loss (sent_in o) (slot_count h) → r ≡ dial_after h (reads_of o.cells) total
    → with_dial (with_sent o s) r ≡ left_by h (run_calls h seed loss)
unfolding run_calls
run_lists h seed loss o s r total e t p q =
    rw (q, p, t, e)
    (sym (after_append h (opened h) (sent h seed loss (slot_count h)) (dial_reads h (true_total h seed loss))
    ∙ ap (λ (c : Book). after_all h c (dial_reads h (true_total h seed loss))) (all_sent h seed loss (opened h) (slot_count h))
    ∙ dial_read_lem h seed loss (with_sent (opened h) (sent_from h seed loss (sent_in (opened h)) (slot_count h)))
    (true_total h seed loss)))

-- a good head and lists that fit are opened
pub opens : (h : Head) (b : Book) → head_ok h ≡ true → book_fits h b ≡ true → open_after h b ≡ opened h
unfolding open_after open_answer
opens h b good fit = rw (good, fit)
