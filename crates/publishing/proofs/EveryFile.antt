-- Every file that publishing writes is read back as what the book publishes.
use Rattle.base.specs.declared.Refusal.{Refusal}
use Rattle.std.specs.Prelude.{Result, Ok, Err}
use mathlib.Core.Bool.{true}
use mathlib.Core.List.{List}
use mathlib.Core.Path.{◌≡◌, ap, ◌∙◌}
use Prim.Native.Nat.{ℕ, ◌+◌, ◌<◌}
use native.Mathlib.Nat.{mul_comm, mul-le-mul_right}
use native.Mathlib.Omega.{arith}
use lib.ListN.{length, take, drop}
use lib.Seq.{take_at}
use borrow.Author.Tests.{not-false}
use Rattle.base.proofs.Logic.{and_parts}
use Rattle.base.proofs.Refusals.{unless_answered}
use Rattle.base.proofs.Sums.{sum_cong}
use Rattle.rules.specs.declared.Head.{Head}
use Rattle.rules.specs.declared.Outcome.{Outcome}
use Rattle.rules.specs.declared.Span.{Span}
use Rattle.rules.specs.Opening.{Cells, head_ok, slot_count, slots_per_day}
use Rattle.rules.specs.Spans.{start, slots_in}
use Rattle.rules.proofs.Bounds.{bounded}
use Rattle.rules.proofs.Neighbours.{Neighbours, each_span_lem}
use Rattle.rules.proofs.Places.{span_end}
use Rattle.rules.proofs.States.{scaled_sum, scaled_within}
use Rattle.book.specs.Cells.{Book, cells_ok, book_fits, book_ok}
use Rattle.book.proofs.Fits.{fits_of}
use Rattle.file.specs.Layout.{file_of}
use Rattle.file.specs.Contents.{span}
use Rattle.file.proofs.Content.{length_file}
use Rattle.file.proofs.Canonical.{content_back}
use Rattle.publishing.specs.Publishing.{published, file_length, publish_rules, publish_answer, bytes_after, publish_after}
use Rattle.publishing.specs.Claim.{SumsToR, EveryFile}
use Rattle.publishing.specs.Inner.Publishing.{Sound}
use Rattle.publishing.proofs.Files.{slots_own, slot_own, well_formed, published_accepted}

-- what is published soundly: a good head, lists that fit, and cells that calls could leave
pub sound_book : (h : Head) (b : Book) → head_ok h ≡ true → book_fits h b ≡ true → book_ok h b ≡ true → Sound h b.cells
unfolding book_ok
sound_book h b good fit ok =
    record { head = good; fit = (fits_of h b fit).0; cells = (and_parts (cells_ok h b.cells) _ ok).0 }

module _ (h : Head) (b : Book) (out : List ℕ) (n : ℕ) (e : publish_answer h b out ≡ Ok n) where
  answered : (head_ok h ≡ true) × (book_fits h b ≡ true) × (book_ok h b ≡ true) × (file_length h b.cells ≡ n)
  unfolding publish_answer
  answered =
      let (same, kept) =
      unless_answered Err (λ a. a ≡ Ok n) (λ k r. let z : ◌≡◌ {A = ℕ} 0 1 = cc in omega arith) (publish_rules h b out) _ e in
      (not-false _ (kept 0), not-false _ (kept 1), not-false _ (kept 2), cc)

  sound : Sound h b.cells
  sound = sound_book h b answered.0 answered.1 answered.2

  file_long : length (file_of (published h b.cells)) ≡ n
  unfolding file_length published
  file_long = length_file (published h b.cells) ∙ answered.3

  file_left : take n (publish_after h b out) ≡ file_of (published h b.cells)
  unfolding publish_after
  file_left =
      ap (λ (p : Result ℕ Refusal). take n (bytes_after p (published h b.cells) out)) e
      ∙ take_at (file_of (published h b.cells)) (drop n out) n file_long

-- a scaled span of what a book publishes
module _ (h : Head) (ok : head_ok h ≡ true) (b : Cells) (s : Span) (n : Neighbours h b s) (one : s.state ≡ 1) where
  -- its slots are among the N
  inside : (i : ℕ) → i < start h b s.first s.last + slots_in h b s.first s.last → i < slot_count h
  unfolding slot_count
  inside i l =
      omega (
        arith,
        span_end h b s.first s.last (omega (arith, n.ordered)),
        mul-le-mul_right (slots_per_day h) n.within,
        mul_comm h.days (slots_per_day h),
      )

  sums_to_r : SumsToR h b (published h b) s
  sums_to_r =
      let total = scaled_sum h (bounded h ok) b s n one in
      let (low, high) = scaled_within h (bounded h ok) b s n one in
      record {
        sums = sum_cong _ _ _ _ (λ i l m. ap (λ (o : Outcome). o.value) (slot_own h b i (inside i m))) ∙ total;
        lowest = omega (arith, total);
        highest = omega (arith, total);
      }

pub every_file : EveryFile
every_file h b out n e =
    let s = sound h b out n e in
    let (accepts, tables) = published_accepted h b.cells s in
    let neighbours : (j : ℕ) → j < length (published h b.cells).spans → Neighbours h b.cells (span (published h b.cells) j) =
    unfold published in each_span_lem h b.cells in
    rw (file_left h b out n e) (record {
      long = file_long h b out n e;
      accepted = accepts;
      tables = tables;
      content = rw tables (content_back (published h b.cells) (well_formed h b.cells s));
      slots = slots_own h b.cells;
      each_slot = slot_own h b.cells;
      each_span = λ j l. (neighbours j l).figures;
      scaled = λ j l. sums_to_r h s.head b.cells (span (published h b.cells) j) (neighbours j l);
    })
