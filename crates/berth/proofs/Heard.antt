-- What the plain book keeps of a run: of each slot its delivery where it is not lost, of the dial the two reads.
use mathlib.Core.Bool.{Bool, true, false, cond}
use mathlib.Core.List.{List, [], ◌∷◌, ◌++◌}
use mathlib.Core.Logic.{⊎_elim}
use mathlib.Core.Path.{◌≡◌, refl, sym, ◌∙◌}
use Prim.Native.Nat.{ℕ, zero, suc, ◌%◌, ◌≤◌, ◌<◌}
use native.Mathlib.Nat.{eq-or-lt_of_le}
use native.Mathlib.Omega.{arith}
use borrow.Author.Tests.{eq-eqb, ne_eqb, lt-leb, le-ltb}
use Rattle.rules.specs.declared.Head.{Head}
use Rattle.rules.specs.Opening.{head_ok, slot_count}
use Rattle.rules.proofs.Bounds.{bounded}
use Rattle.book.specs.Answers.{by_version}
use Rattle.book.specs.Answers.Answer.{stored}
use Rattle.book.specs.Arguments.{Call, argument_rules}
use Rattle.book.specs.Arguments.Call.{delivery, register}
use Rattle.book.specs.Contents.{Measured}
use Rattle.book.specs.Plain.{Said, deliveries, kept_reads, agreements, named, highest_version, against_kept, plain_answer, keep, kept_of}
use Rattle.berth.specs.Steps.{lost_at, value_at}
use Rattle.berth.specs.Run.{sent_at, sent, true_total, dial_reads, run_calls}

pub kept_append : (h : Head) (kept cs ds : List Call) → kept_of h kept (cs ++ ds) ≡ kept_of h (kept_of h kept cs) ds
unfolding kept_of
kept_append h kept [] ds = refl
kept_append h kept (c ∷ cs) ds = kept_append h (keep h kept c) cs ds

-- a first delivery, and a first read of a boundary, is stored
delivery_stored : (h : Head) (kept : List Call) (slot value : ℕ) → head_ok h ≡ true → slot < slot_count h → deliveries slot kept ≡ []
    → plain_answer h kept (delivery slot 1 value 0) ≡ stored
unfolding plain_answer argument_rules against_kept by_version highest_version
delivery_stored h kept slot value good lt e = rw (good, lt-leb _ _ lt, e)

read_stored : (h : Head) (kept : List Call) (boundary reading : ℕ) → head_ok h ≡ true → boundary ≤ h.days → reading ≤ 99_999_999
    → kept_reads boundary kept ≡ []
    → plain_answer h kept (register boundary 1 reading 0) ≡ stored
unfolding plain_answer argument_rules against_kept by_version highest_version
read_stored h kept boundary reading good le low e = rw (good, le-ltb _ _ le, le-ltb _ _ low, e)

module _ (h : Head) (seed loss : ℕ) where
  -- what is kept for slot i
  abbrev pub heard_at : ℕ → List (Said Measured)
  heard_at i =
      cond (lost_at h seed loss i) [] (record { version = 1; content = record { value = value_at h seed loss i; status = 0 } } ∷ [])

  -- the calls kept of the first n slots
  pub record Heard (n : ℕ) (kept : List Call) : Type 0 where
    pub before : (i : ℕ) → i < n → deliveries i kept ≡ heard_at i
    pub after : (i : ℕ) → n ≤ i → deliveries i kept ≡ []
    pub unread : (d : ℕ) → kept_reads d kept ≡ []
    pub unagreed : (i : ℕ) → agreements i kept ≡ []
    pub unnamed : (d : ℕ) → named d kept ≡ false

  heard_lost : (n : ℕ) (kept : List Call) → Heard n kept → lost_at h seed loss n ≡ true → Heard (suc n) kept
  heard_lost n kept k t = record {
    before =
        λ i lt. ⊎_elim (λ (e : i ≡ n). rw (e, k.after n (omega arith), t)) (λ l. k.before i (omega arith)) (eq-or-lt_of_le (omega arith));
    after = λ i le. k.after i (omega arith);
    unread = k.unread;
    unagreed = k.unagreed;
    unnamed = k.unnamed;
  }

  heard_sent : (n : ℕ) (kept : List Call) → Heard n kept → lost_at h seed loss n ≡ false
      → Heard (suc n) (delivery n 1 (value_at h seed loss n) 0 ∷ kept)
  unfolding deliveries kept_reads agreements named
  heard_sent n kept k t = record {
    before = λ i lt.
        ⊎_elim (λ (e : i ≡ n). rw (eq-eqb n i (sym e), k.after i (omega arith), e, t))
        (λ l. rw (ne_eqb n i (λ e. omega arith)) (k.before i (omega arith)))
        (eq-or-lt_of_le (omega arith));
    after = λ i le. rw (ne_eqb n i (λ e. omega arith)) (k.after i (omega arith));
    unread = k.unread;
    unagreed = k.unagreed;
    unnamed = k.unnamed;
  }

  module _ (good : head_ok h ≡ true) where
    heard-next : (n : ℕ) (kept : List Call) → n < slot_count h → Heard n kept → Heard (suc n) (kept_of h kept (sent_at h seed loss n))
    unfolding sent_at kept_of keep
    heard-next n kept lt k = go (lost_at h seed loss n) refl
      where
        go : (t : Bool) → lost_at h seed loss n ≡ t
            → Heard (suc n) (kept_of h kept (cond t [] (delivery n 1 (value_at h seed loss n) 0 ∷ [])))
        go true e = heard_lost n kept k e
        go false e = rw (delivery_stored h kept n (value_at h seed loss n) good lt (k.after n (omega arith))) (heard_sent n kept k e)

    heard : (n : ℕ) → n ≤ slot_count h → Heard n (kept_of h [] (sent h seed loss n))
    unfolding sent kept_of deliveries kept_reads agreements named
    heard zero le =
        record {
          before = λ i lt. absurd (omega arith);
          after = λ i le. refl;
          unread = λ d. refl;
          unagreed = λ i. refl;
          unnamed = λ d. refl;
        }
    heard (suc n) le =
        rw (kept_append h [] (sent h seed loss n) (sent_at h seed loss n))
        (heard-next n (kept_of h [] (sent h seed loss n)) (omega arith) (heard n (omega arith)))

    -- the dial's reads come last
    abbrev pub slot_calls : List Call
    slot_calls = kept_of h [] (sent h seed loss (slot_count h))

    abbrev pub reading : ℕ
    reading = true_total h seed loss % 100_000_000

    abbrev pub all_calls : List Call
    all_calls = register h.days 1 reading 0 ∷ register 0 1 0 0 ∷ slot_calls

    pub heard_all : Heard (slot_count h) slot_calls
    heard_all = heard (slot_count h) (omega arith)

    days-some : 0 < h.days
    days-some = omega (arith, (bounded h good).days_low)

    unread-last : kept_reads h.days (register 0 1 0 0 ∷ slot_calls) ≡ []
    unfolding kept_reads
    unread-last = rw (ne_eqb 0 h.days (λ e. omega (arith, days-some)), heard_all.unread h.days)

    pub kept_run : kept_of h [] (run_calls h seed loss) ≡ all_calls
    unfolding run_calls dial_reads kept_of keep
    kept_run =
        kept_append h [] (sent h seed loss (slot_count h)) (dial_reads h (true_total h seed loss))
        ∙ rw (
          read_stored h slot_calls 0 0 good (omega arith) (omega arith) (heard_all.unread 0),
          read_stored h (register 0 1 0 0 ∷ slot_calls) h.days reading good (omega arith) (omega arith) unread-last,
        )
