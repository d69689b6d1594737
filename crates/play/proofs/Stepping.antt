-- Lines before and after the opening, one at a time.
use Rattle.base.specs.declared.Refusal.{Refusal}
use Rattle.base.specs.declared.Refusal.TheVariants.{OutsideBounds}
use Rattle.std.specs.Prelude.{Option, Some, None, Result, Ok, Err}
use mathlib.Core.Bool.{Bool, true, false, cond}
use mathlib.Core.List.{List, [], ◌∷◌}
use mathlib.Core.Path.{◌≡◌, refl, ap, sym, subst, ◌∙◌}
use Prim.Native.Nat.{ℕ, zero, suc, ◌+◌, ◌-◌, ◌≤◌}
use native.Mathlib.Numerals.{add-one}
use native.Mathlib.Omega.{arith}
use lib.ListN.{length, take, drop, length-map}
use lib.Seq.{drop-length}
use Rattle.rules.specs.declared.Head.{Head}
use Rattle.rules.specs.Limits.{load_answer}
use Rattle.rules.specs.Opening.{head_ok}
use Rattle.book.specs.Arguments.{Call}
use Rattle.text_log.specs.declared.limits.Limits.{Limits}
use Rattle.text_log.specs.declared.line.LogLine.{LogLine}
use Rattle.text_log.specs.declared.line.LogLine.TheVariants as line
use Rattle.text_log.specs.declared.line.Opening.{Opening}
use Rattle.text_log.specs.declared.line.Entry.{Entry}
use Rattle.text_log.specs.declared.lines.Cut.{Cut}
use Rattle.text_log.specs.Line.{entry_of}
use Rattle.text_log.specs.Log.{lines, Item, item_in, item_of, items, calls_in, Reading, read_open, head_with, or_built_in, with_table}
use Rattle.text_log.specs.Log.{with_opening}
use Rattle.text_log.specs.Log.{read_closed, read_log}
use Rattle.text_log.specs.Log.Item.{passed, table, opening, call, neither}
use Rattle.text_log.specs.Log.Reading.{not_a_call, refused}
use Rattle.text_log.specs.Inner.Lines.{LineAt, ItemAt}
use Rattle.text_log.specs.Inner.Deliveries.{DeliveryTo}
use Rattle.text_log.proofs.Cutting.{item_at}
use Rattle.text_log.proofs.OnePass.{delivery_found}
use Rattle.play.specs.declared.NotALog.TheVariants as no_log
use Rattle.play.specs.declared.reading.TestedLine.{TestedLine}
use Rattle.play.specs.declared.reading.Wrong.{Wrong}
use Rattle.play.specs.declared.reading.Wrong.TheVariants.{NotACall, Refused}
use Rattle.play.specs.Playing.{log_calls, checked_of, checked}
use Rattle.play.specs.Inner.Steps.{table_step, head_step, opening_step, step_of, table_after, in_line, calls_at}
use Rattle.play.specs.Inner.Steps.{PassingAt, OutsideAt, TestedAt, Reached, OpeningMeant}

-- what a line in front of the opening comes to
abbrev Step : Type 0
Step = Result (Option Head) Wrong

-- ---- A line before the opening

-- what its step makes of the rest
unfoldable closed_as : Step → ℕ → Reading → List Item → Reading
closed_as (Ok None) n rest xs = rest
closed_as (Ok (Some h)) n rest xs = read_open h (suc n) xs
closed_as (Err NotACall) n rest xs = not_a_call n
closed_as (Err (Refused k)) n rest xs = refused n k

module _ (n : ℕ) (rest : Reading) (xs : List Item) where
  by_table : (l : Result ℕ Refusal) → with_table n l rest ≡ closed_as (table_step l) n rest xs
  unfolding with_table table_step closed_as
  by_table (Ok w) = refl
  by_table (Err k) = refl

  by_head : (h : Head) (good : Bool)
      → cond good (read_open h (suc n) xs) (refused n OutsideBounds)
      ≡ closed_as (cond good (Ok (Some h)) (Err (Refused OutsideBounds))) n rest xs
  unfolding closed_as
  by_head h true = refl
  by_head h false = refl

  by_opening : (o : Opening) (l : Result ℕ Refusal) → with_opening n o l xs ≡ closed_as (opening_step o l) n rest xs
  unfolding with_opening opening_step head_step closed_as
  by_opening o (Ok w) = by_head (head_with o w) (head_ok (head_with o w))
  by_opening o (Err k) = refl

by_step : (t : List ℕ) (n : ℕ) (x : Item) (xs : List Item)
    → read_closed t n (x ∷ xs) ≡ closed_as (step_of t x) n (read_closed (table_after t x) (suc n) xs) xs
unfolding read_closed step_of table_after closed_as
by_step [] n passed xs = refl
by_step (w ∷ ws) n passed xs = refl
by_step [] n (table u) xs = by_table n (read_closed u (suc n) xs) xs (load_answer u 1)
by_step (w ∷ ws) n (table u) xs = refl
by_step [] n (opening o) xs = by_opening n (read_closed [] (suc n) xs) xs o (load_answer (or_built_in []) o.kind)
by_step (w ∷ ws) n (opening o) xs = by_opening n (read_closed (w ∷ ws) (suc n) xs) xs o (load_answer (or_built_in (w ∷ ws)) o.kind)
by_step [] n (call c) xs = refl
by_step (w ∷ ws) n (call c) xs = refl
by_step [] n neither xs = refl
by_step (w ∷ ws) n neither xs = refl

-- ---- A place in a log

-- an item is a line
items_long : (bytes : List ℕ) → length (items bytes) ≡ length (lines bytes)
unfolding items
items_long bytes = rw length-map

pub lines_first : {bytes : List ℕ} {at next : ℕ} {x : Item} → ItemAt bytes at x next
    → length (lines (drop at bytes)) ≡ suc (length (lines (drop next bytes)))
lines_first {bytes} {at} {next} item =
    omega (arith, ap length item.first, items_long (drop at bytes), items_long (drop next bytes))

-- how many calls an item is
unfoldable count_of : Item → ℕ
count_of passed = 0
count_of (table t) = 0
count_of (opening o) = 0
count_of (call c) = 1
count_of neither = 0

count_more : (x : Item) (xs : List Item) → length (calls_in (x ∷ xs)) ≡ count_of x + length (calls_in xs)
unfolding calls_in count_of
count_more passed xs = omega arith
count_more (table t) xs = omega arith
count_more (opening o) xs = omega arith
count_more (call c) xs = omega arith
count_more neither xs = omega arith

count_little : (x : Item) → count_of x ≤ 1
unfolding count_of
count_little passed = omega arith
count_little (table t) = omega arith
count_little (opening o) = omega arith
count_little (call c) = omega arith
count_little neither = omega arith

pub reached_first : (bytes : List ℕ) → Reached bytes 0 0 0
reached_first bytes =
    record { inside = omega arith; few = omega arith; fewer = omega arith; line_count = omega arith; call_count = omega arith }

module _ {bytes : List ℕ} {at n calls next : ℕ} {x : Item} (reached : Reached bytes at n calls) (item : ItemAt bytes at x next) where
  reached_next : (k : ℕ) → k ≡ count_of x → Reached bytes next (n + 1) (calls + k)
  reached_next k e =
      let some : length (log_calls (drop at bytes)) ≡ count_of x + length (log_calls (drop next bytes)) =
      ap (λ (xs : List Item). length (calls_in xs)) item.first ∙ count_more x (items (drop next bytes)) in
      record {
        inside = item.inside;
        few = omega (arith, reached.few, item.further);
        fewer = omega (arith, reached.fewer, count_little x);
        line_count = omega (arith, reached.line_count, lines_first item);
        call_count = omega (arith, reached.call_count, some);
      }

pub none_left : (bytes : List ℕ) (at : ℕ) → at ≤ length bytes → length bytes ≤ at → drop at bytes ≡ []
none_left bytes at l m = let e : at ≡ length bytes = omega arith in rw e (drop-length bytes)

-- ---- Up to the opening

pub step_passed : (t : List ℕ) → Ok None ≡ step_of t passed
unfolding step_of
step_passed [] = refl
step_passed (w ∷ ws) = refl

pub step_opening : (t : List ℕ) (o : Opening) → opening_step o (load_answer (or_built_in t) o.kind) ≡ step_of t (opening o)
unfolding step_of
step_opening [] o = refl
step_opening (w ∷ ws) o = refl

pub step_call : (t : List ℕ) (c : Call) → Err NotACall ≡ step_of t (call c)
unfolding step_of
step_call [] c = refl
step_call (w ∷ ws) c = refl

pub step_neither : (t : List ℕ) → Err NotACall ≡ step_of t neither
unfolding step_of
step_neither [] = refl
step_neither (w ∷ ws) = refl

pub ruleset step_cases = (step_passed, step_opening, step_call, step_neither)

-- no other line changes the table
pub kept : (t : List ℕ) (l : LogLine) (limits : Limits) → (l ≡ line.Table → ⊥) → t ≡ table_after t (item_in l limits)
unfolding table_after item_in
kept t line.Passed limits n = refl
kept t line.Table limits n = absurd (n refl)
kept t (line.Open o) limits n = refl
kept t (line.Fill c) limits n = refl
kept t line.NoCall limits n = refl

-- a table of count limits, in 24 places
module _ (count : ℕ) (values : List ℕ) (room : length values ≡ 24) where
  pub step_second : (u : List ℕ) → (count ≡ 0 → ⊥) → Err NotACall ≡ step_of (take count values) (table u)
  unfolding step_of
  step_second u n = go count values room n
    where
      go : (k : ℕ) (vs : List ℕ) → length vs ≡ 24 → (k ≡ 0 → ⊥) → Err NotACall ≡ step_of (take k vs) (table u)
      go zero vs l m = absurd (m refl)
      go (suc k) [] l m = absurd (omega arith)
      go (suc k) (w ∷ ws) l m = refl

  pub own_limits : (count ≡ 0 → ⊥) → or_built_in (take count values) ≡ take count values
  unfolding or_built_in
  own_limits n = go count values room n
    where
      go : (k : ℕ) (vs : List ℕ) → length vs ≡ 24 → (k ≡ 0 → ⊥) → or_built_in (take k vs) ≡ take k vs
      go zero vs l m = absurd (m refl)
      go (suc k) [] l m = absurd (omega arith)
      go (suc k) (w ∷ ws) l m = refl

-- the first table, that loads or is refused
pub step_first : (count : ℕ) (values u : List ℕ) → count ≡ 0 → (l : Result ℕ Refusal) → load_answer u 1 ≡ l
    → table_step l ≡ step_of (take count values) (table u)
unfolding step_of
step_first count values u e l f = rw (e, f)

pub built_in : (count : ℕ) (values : List ℕ) → count ≡ 0 → 40000 ∷ 70000 ∷ [] ≡ or_built_in (take count values)
unfolding or_built_in
built_in count values e = rw e

-- no call stands before the opening
not_counted : (t : List ℕ) (x : Item) → (step_of t x ≡ Err NotACall → ⊥) → 0 ≡ count_of x
unfolding count_of
not_counted t passed n = refl
not_counted t (table u) n = refl
not_counted t (opening o) n = refl
not_counted t (call c) n = absurd (n (sym (step_call t c)))
not_counted t neither n = refl

-- n lines in front of a place, with this table, and no opening
pub record Leading (bytes t : List ℕ) (at n : ℕ) : Type 0 where
  pub reached : Reached bytes at n 0
  pub read : read_log bytes ≡ read_closed t (suc n) (items (drop at bytes))

pub leading_first : (bytes : List ℕ) → Leading bytes [] 0 0
unfolding read_log
leading_first bytes = record { reached = reached_first bytes; read = refl }

module _ {bytes t : List ℕ} {at n : ℕ} (w : Leading bytes t at n) where
  module _ {r : Cut} (cut : LineAt bytes at r) (entry : Entry) (found : entry ≡ entry_of (take (r.end - at) (drop at bytes))) where
    abbrev x : Item
    x = item_in entry.line entry.limits

    is : x ≡ item_of (take (r.end - at) (drop at bytes))
    unfolding item_of
    is = ap (λ (e : Entry). item_in e.line e.limits) found

    abbrev Rest : Step → Reading
    Rest s = closed_as s (suc n) (read_closed (table_after t x) (suc (suc n)) (items (drop r.next bytes))) (items (drop r.next bytes))

    by : (s : Step) → s ≡ step_of t x → read_log bytes ≡ Rest s
    by s e =
        rw e (w.read ∙ ap (read_closed t (suc n)) ((item_at cut).first ∙ rw (← is)) ∙ by_step t (suc n) x (items (drop r.next bytes)))

    further : (o : Option Head) → Ok o ≡ step_of t x → Reached bytes r.next (n + 1) 0
    further o e =
        reached_next w.reached (item_at cut) 0
        (not_counted t x (λ f. let z : ◌≡◌ {A = ℕ} 0 1 = cc in omega arith) ∙ ap count_of is)

    pub leading_next : Ok None ≡ step_of t x → Leading bytes (table_after t x) r.next (n + 1)
    unfolding closed_as
    leading_next e = record { reached = further None e; read = rw add-one (by (Ok None) e) }

    pub leading_opened : (h : Head) → Ok (Some h) ≡ step_of t x → OpeningMeant bytes (Ok (record { head = h; at = r.next; lines = n + 1 }))
    unfolding closed_as
    leading_opened h e = (further (Some h) e, rw add-one (by (Ok (Some h)) e))

    pub leading_wrong : (wrong : Wrong) → Err wrong ≡ step_of t x → OpeningMeant bytes (Err (in_line wrong (n + 1)))
    unfolding closed_as checked checked_of
    leading_wrong NotACall e = rw (by (Err NotACall) e, add-one)
    leading_wrong (Refused k) e = rw (by (Err (Refused k)) e, add-one)

  pub leading_none : length bytes ≤ at → OpeningMeant bytes (Err no_log.NoOpening)
  unfolding read_closed items lines checked checked_of
  leading_none over = rw (w.read, none_left bytes at w.reached.inside over)

-- ---- After the opening

none_some : {k : ℕ} → ◌≡◌ {A = Option ℕ} None (Some k) → ⊥
none_some e = let z : ◌≡◌ {A = ℕ} 0 1 = cc in omega arith

some_same : {j k : ℕ} → ◌≡◌ {A = Option ℕ} (Some j) (Some k) → j ≡ k
some_same e = cc

open_goes_on : (h : Head) (n : ℕ) (xs : List Item) (l : LogLine) (limits : Limits) (k : ℕ) → calls_at l ≡ Some k
    → read_open h n (item_in l limits ∷ xs) ≡ read_open h (suc n) xs
unfolding read_open item_in
open_goes_on h n xs line.Passed limits k e = refl
open_goes_on h n xs line.Table limits k e = absurd (none_some e)
open_goes_on h n xs (line.Open o) limits k e = absurd (none_some e)
open_goes_on h n xs (line.Fill c) limits k e = refl
open_goes_on h n xs line.NoCall limits k e = absurd (none_some e)

open_ends : (h : Head) (n : ℕ) (xs : List Item) (l : LogLine) (limits : Limits) → calls_at l ≡ None
    → read_open h n (item_in l limits ∷ xs) ≡ not_a_call n
unfolding read_open item_in
open_ends h n xs line.Passed limits e = absurd (none_some (sym e))
open_ends h n xs line.Table limits e = refl
open_ends h n xs (line.Open o) limits e = refl
open_ends h n xs (line.Fill c) limits e = absurd (none_some (sym e))
open_ends h n xs line.NoCall limits e = refl

count_line : (l : LogLine) (limits : Limits) (k : ℕ) → calls_at l ≡ Some k → k ≡ count_of (item_in l limits)
unfolding item_in count_of
count_line line.Passed limits k e = cc
count_line line.Table limits k e = absurd (none_some e)
count_line (line.Open o) limits k e = absurd (none_some e)
count_line (line.Fill c) limits k e = cc
count_line line.NoCall limits k e = absurd (none_some e)

pub calls_little : (l : LogLine) {k : ℕ} → calls_at l ≡ Some k → k ≤ 1
calls_little line.Passed {k} e = let f : 0 ≡ k = some_same e in omega arith
calls_little line.Table e = absurd (none_some e)
calls_little (line.Open o) e = absurd (none_some e)
calls_little (line.Fill c) {k} e = let f : 1 ≡ k = some_same e in omega arith
calls_little line.NoCall e = absurd (none_some e)

-- a delivery can stand there, and is one call
pub passing_delivery : {bytes : List ℕ} {at next : ℕ} → DeliveryTo bytes at next
    → TestedAt bytes at (Some (record { calls = 1; next = next }))
passing_delivery {bytes} {at} d =
    subst (λ next. PassingAt bytes at (record { calls = 1; next = next })) d.ends
    record { line = _; found = delivery_found bytes at d.delivery d.line; calls = refl }

-- the lines from an opening up to a place are good
pub record Following (bytes : List ℕ) (h : Head) (from before at n calls : ℕ) : Type 0 where
  pub reached : Reached bytes at n calls
  pub read : read_open h (suc before) (items (drop from bytes)) ≡ read_open h (suc n) (items (drop at bytes))

pub following_first : {bytes : List ℕ} {h : Head} {from before : ℕ} → Reached bytes from before 0
    → Following bytes h from before from before 0
following_first reached = record { reached = reached; read = refl }

module _ {bytes : List ℕ} {h : Head} {from before at n calls : ℕ} (w : Following bytes h from before at n calls) where
  pub following_next : {r : TestedLine} → PassingAt bytes at r → Following bytes h from before r.next (n + 1) (calls + r.calls)
  following_next {r} told =
      let first = told.found.item.first in record {
        reached = reached_next w.reached told.found.item r.calls (count_line told.line told.found.limits r.calls told.calls);
        read = rw add-one
            (w.read ∙ rw first (open_goes_on h (suc n) (items (drop r.next bytes)) told.line told.found.limits r.calls told.calls));
      }

  pub following_ends : OutsideAt bytes at → Err (no_log.NotACall (n + 1)) ≡ checked_of bytes
      (read_open h (suc before) (items (drop from bytes)))
  unfolding checked_of
  following_ends told =
      let out : read_open h (suc before) (items (drop from bytes)) ≡ not_a_call (suc n) =
      w.read ∙ rw told.found.item.first (open_ends h (suc n) (items (drop told.next bytes)) told.line told.found.limits told.outside) in
      rw (out, add-one)

  pub following_last : length bytes ≤ at
      → Ok (record { head = h; lines = n; calls = calls }) ≡ checked_of bytes (read_open h (suc before) (items (drop from bytes)))
  unfolding read_open items lines calls_in checked_of
  following_last over =
      let none = none_left bytes at w.reached.inside over in
      let all : length (lines bytes) ≡ n = w.reached.line_count ∙ rw none (omega arith) in
      let made : length (log_calls bytes) ≡ calls = w.reached.call_count ∙ rw none (omega arith) in
      rw (w.read, none, all, made)
