-- What a book publishes is well formed: its file is accepted, and two books publish one file exactly when they publish one content.
use Rattle.std.specs.Prelude.{Ok}
use mathlib.Core.Path.{◌≡◌, refl, sym, ap, ◌∙◌}
use mathlib.Core.Bool.{true, false≢true}
use mathlib.Core.Logic.{◌↔◌}
use Prim.Native.Nat.{ℕ, ◌<◌}
use native.Mathlib.Nat.{zero-add}
use native.Mathlib.Omega.{arith}
use lib.ListN.{length}
use Rattle.base.specs.Lists.{every}
use Rattle.base.proofs.Lists.{length_up_to, get_d_up_to}
use Rattle.base.proofs.Logic.{passed}
use Rattle.rules.specs.declared.Head.{Head}
use Rattle.rules.specs.Opening.{Cells, day_tests, head_tests, head_ok, first_day, slots_per_day, slot_count}
use Rattle.rules.specs.Spans.{outcome_at, no_outcome, outcomes}
use Rattle.rules.proofs.Bounds.{bounded}
use Rattle.rules.proofs.Outcomes.{outcome_fits}
use Rattle.file.specs.Layout.{figures_of, tables_of, file_of}
use Rattle.file.specs.Reader.{head_field_tests, layout_ok, layout_fits, read_file, tables_part}
use Rattle.file.specs.Contents.{WellFormed, slot, slot_record, records_of}
use Rattle.publishing.specs.Publishing.{published}
use Rattle.publishing.specs.Inner.Publishing.{Sound}
use Rattle.file.proofs.Content.{injective}
use Rattle.file.proofs.Agree.{Agree, tables_agree}
use Rattle.file.proofs.Fitting.{Fitting, fitting}
use Rattle.file.proofs.Accepted.{accepted, tables_back}
use Rattle.publishing.proofs.Booked.{book_tables, book_ok_lem}
use Rattle.publishing.proofs.Publishing.{agreed_low, widths_low}

module _ (h : Head) (b : Cells) where
  pub slots_own : length (published h b).slots ≡ slot_count h
  unfolding published outcomes
  slots_own = length_up_to (outcome_at h b) 0 (slot_count h)

  pub slot_own : (i : ℕ) → i < slot_count h → slot (published h b) i ≡ outcome_at h b i
  unfolding published outcomes
  slot_own i l = get_d_up_to (outcome_at h b) no_outcome 0 (slot_count h) i l ∙ ap (outcome_at h b) (zero-add i)

  agree : Agree (records_of (published h b)) (book_tables h b)
  unfolding published slot_count slots_per_day
  agree = record { per_day = refl; days = refl; spans = refl; slot = λ i l. ap slot_record (slot_own i l); span = λ j l. refl }

  module _ (s : Sound h b) where
    ok : head_ok h ≡ true
    ok = s.head

    head_own : every (head_field_tests (first_day h) h.days h.interval) ≡ true
    unfolding head_ok
    head_own =
        let days = passed (head_tests h) ok 1 in
        rw (passed (head_tests h) ok 0, passed (day_tests h) days 1, passed (day_tests h) days 2, passed (day_tests h) days 3)

    pub well_formed : WellFormed (published h b)
    unfolding published slot_count slots_per_day
    well_formed = record {
      head = head_own;
      slots = slots_own;
      values =
          λ i l. rw (slot_own i (rw slots_own at l))
          (omega (arith, outcome_fits h (bounded h ok) b (agreed_low h b s) i (widths_low h b s)));
      tables =
          tables_agree (records_of (published h b)) (book_tables h b) agree
          (book_ok_lem h (bounded h ok) b (widths_low h b s) (agreed_low h b s));
      known = unfold layout_ok in refl;
      fits = unfold layout_fits in refl;
      exact = λ e. absurd (false≢true (sym e));
    }

    pub published_fits : Fitting (published h b)
    published_fits = fitting (published h b) well_formed

    -- the reader accepts it, with its figures and its tables
    pub published_accepted : (read_file (file_of (published h b)) ≡ Ok (figures_of (published h b)))
        × (tables_part (file_of (published h b)) ≡ tables_of (published h b))
    published_accepted = (accepted (published h b) well_formed, tables_back (published h b) well_formed)

pub files_equal : (h g : Head) (b c : Cells) → Sound h b → Sound g c
    → (file_of (published h b) ≡ file_of (published g c)) ↔ (published h b ≡ published g c)
files_equal h g b c p q = (injective (published h b) (published g c) (published_fits h b p) (published_fits g c q), ap file_of)
