-- The records of direct slots, one after the other.
use mathlib.Core.Bool.{Bool, true, false}
use mathlib.Core.List.{List, [], ◌∷◌, ◌++◌}
use mathlib.Core.Path.{◌≡◌, refl, ap, ◌∙◌}
use Prim.Native.Nat.{ℕ, suc, ◌+◌, ◌-◌, ◌*◌, ◌≤◌, ◌<◌}
use native.Mathlib.Numerals.{add-one}
use native.Mathlib.Omega.{arith}
use borrow.Author.Count.{below_more}
use lib.ListN.{length}
use Rattle.base.specs.Lists.{up_to}
use Rattle.base.proofs.Lists.{length_up_to, up_to_snoc}
use Rattle.rules.specs.declared.Head.{Head}
use Rattle.rules.specs.declared.Outcome.{Outcome}
use Rattle.rules.specs.Opening.{Slots, Agreed, slot_count}
use Rattle.rules.specs.Inner.Walks.{zero_at, zero_before, direct_at, direct_of}
use Rattle.file.specs.Layout.{row, table, slot_row}
use Rattle.file.specs.Inner.Writing.{written}
use Rattle.file.proofs.Rows.{length_row, length_table}
use Rattle.file.proofs.Written.{length_written, written_more}
use Rattle.publishing.specs.declared.tables.Totals.{Totals}
use Rattle.publishing.specs.declared.tables.DirectPut.{DirectPut}
use Rattle.publishing.specs.Inner.Publishing.{added_to, direct_totals, direct_records, PutTo}
use Rattle.publishing.proofs.Buffers.{table_one, table_append, written_none}

module _ (h : Head) (s : Slots) (a : Agreed) where
  -- one record more
  pub records_more : (d : List ℕ) (from k : ℕ) → 6 * (from + suc k) ≤ length d
      → written (written d (6 * from) (direct_records h s a from k)) (6 * (from + k)) (row (slot_row (direct_of h s a (from + k))))
      ≡ written d (6 * from) (direct_records h s a from (suc k))
  records_more d from k room =
      let f = direct_of h s a in
      let n : length (direct_records h s a from k) ≡ 6 * k =
      length_table slot_row 6 (λ x. refl) (up_to f from k) ∙ ap (λ (x : ℕ). 6 * x) (length_up_to f from k) in
      let p : 6 * (from + k) ≡ 6 * from + length (direct_records h s a from k) = omega (arith, n) in
      let e : direct_records h s a from (suc k) ≡ direct_records h s a from k ++ row (slot_row (f (from + k))) =
      ap (table slot_row) (up_to_snoc f from k) ∙ table_append slot_row (up_to f from k) (f (from + k) ∷ [])
      ∙ ap (λ (x : List ℕ). direct_records h s a from k ++ x) (table_one slot_row (f (from + k))) in
      rw (p, e) (written_more d (6 * from) (direct_records h s a from k) (row (slot_row (f (from + k)))) (omega (arith, n)))

-- the direct slots from `from` as far as `at` are written into d₀ and counted
pub record Ran (h : Head) (s : Slots) (a : Agreed) (d₀ : List ℕ) (from to : ℕ) (t₀ : Totals) (o : Bool) (t : Totals) (d : List ℕ)
    (at : ℕ) : Type 0 where
  pub further : from ≤ at
  pub inside : at ≤ to
  pub direct : (i : ℕ) → i < at → from ≤ i → direct_at h s a i ≡ true
  pub outage : o ≡ zero_before s.versions s.statuses (slot_count h) at
  pub totals : t ≡ direct_totals h s a t₀ from (at - from)
  pub long : length d ≡ length d₀
  pub bytes : d ≡ written d₀ (6 * from) (direct_records h s a from (at - from))

module _ (h : Head) (s : Slots) (a : Agreed) (d₀ : List ℕ) (from to : ℕ) (t₀ : Totals) (o : Bool) (t : Totals) (d : List ℕ) (at : ℕ)
    (ran : Ran h s a d₀ from to t₀ o t d at) where
  pub ran_on : (x : Outcome) (o' : Bool) (t' : Totals) (d' : List ℕ) → 6 * to ≤ length d₀ → at < to → direct_at h s a at ≡ true
      → x ≡ direct_of h s a at
      → o' ≡ zero_at s.versions s.statuses (slot_count h) at → t' ≡ added_to t x → d' ≡ written d (6 * at) (row (slot_row x))
      → Ran h s a d₀ from to t₀ o' t' d' (at + 1)
  unfolding zero_before direct_totals
  ran_on x o' t' d' room l is e z u v =
      let k : at + 1 - from ≡ suc (at - from) = omega (arith, ran.further) in
      let p : from + (at - from) ≡ at = omega (arith, ran.further) in
      let more = records_more h s a d₀ from (at - from) (omega (arith, ran.further)) in
      record {
        further = omega (arith, ran.further);
        inside = omega arith;
        direct = below_more _ _ ran.direct (λ q. is);
        outage = rw (add-one at) z;
        totals = rw (k, p) (u ∙ (λ j. added_to (ran.totals j) (e j)));
        long = ap length v ∙ length_written d (6 * at) (row (slot_row x)) (omega (arith, ran.long, length_row (slot_row x))) ∙ ran.long;
        bytes = rw k (v ∙ (λ j. written (ran.bytes j) (6 * at) (row (slot_row (e j)))) ∙ (rw p at more));
      }

  -- where they end
  pub ran_end : (at < to → direct_at h s a at ≡ false) → PutTo h s a d₀ d from to t₀ (record { end = at; outage = o; totals = t })
  ran_end stops = record {
    direct = record { further = ran.further; inside = ran.inside; direct = ran.direct; stops = stops; outage = ran.outage };
    totals = ran.totals;
    bytes = ran.bytes;
  }

-- where no slot is direct, nothing is written
pub none_put : (h : Head) (s : Slots) (a : Agreed) (d e : List ℕ) (from to : ℕ) (t : Totals) (r : DirectPut) → PutTo h s a d e from to t r
    → r.end ≤ from → e ≡ d
unfolding up_to table
none_put h s a d e from to t r put l =
    let k : r.end - from ≡ 0 = omega arith in
    rw k at put.bytes ∙ written_none d (6 * from)
