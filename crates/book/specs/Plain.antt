-- What a list of calls amounts to, from the head and the calls' arguments alone (01, The plain book; 02, W1, W6 and W10).
use Rattle.base.specs.declared.Refusal.TheVariants.{OutsideBounds}
use Rattle.std.specs.Prelude.{Bool, false, not, cond, ◌||◌, List, [], ◌∷◌, ℕ, suc, max, ◌*◌, ltb, eqb}
use Rattle.base.specs.Lists.{sum, up_to}
use Rattle.base.specs.Refusals.{unless}
use Rattle.base.specs.Refusals.Rule.{rule}
use Rattle.rules.specs.declared.Head.{Head}
use Rattle.rules.specs.Opening.{head_ok, slots_per_day, slot_count, Cells}
use Rattle.book.specs.Answers.{Answer, is_accepted, by_version}
use Rattle.book.specs.Answers.Answer.{stored, repeat, refused}
use Rattle.book.specs.Arguments.{Call, argument_rules}
use Rattle.book.specs.Cells.{Book}
use Rattle.book.specs.Arguments.Call.{delivery, holiday, register, agreed}
use Rattle.book.specs.Contents.{Measured, DialRead, measured, dial_read, same_measured, same_read}

-- what a kept delivery, register read or agreed call says: its version and its content
pub record Said (A : Type 0) : Type 0 where
  pub version : ℕ
  pub content : A

-- the kept deliveries for a slot
unfoldable pub deliveries : ℕ → List Call → List (Said Measured)
deliveries i [] = []
deliveries i (delivery slot version value status ∷ kept) =
    cond (eqb slot i) (record { version = version; content = measured value status } ∷ deliveries i kept)
    (deliveries i kept)
deliveries i (holiday day ∷ kept) = deliveries i kept
deliveries i (register boundary version reading width ∷ kept) = deliveries i kept
deliveries i (agreed slot version value ∷ kept) = deliveries i kept

-- the kept register reads for a boundary
unfoldable pub kept_reads : ℕ → List Call → List (Said DialRead)
kept_reads d [] = []
kept_reads d (delivery slot version value status ∷ kept) = kept_reads d kept
kept_reads d (holiday day ∷ kept) = kept_reads d kept
kept_reads d (register boundary version reading width ∷ kept) =
    cond (eqb boundary d) (record { version = version; content = dial_read reading width } ∷ kept_reads d kept)
    (kept_reads d kept)
kept_reads d (agreed slot version value ∷ kept) = kept_reads d kept

-- the kept agreed calls for a slot
unfoldable pub agreements : ℕ → List Call → List (Said ℕ)
agreements i [] = []
agreements i (delivery slot version value status ∷ kept) = agreements i kept
agreements i (holiday day ∷ kept) = agreements i kept
agreements i (register boundary version reading width ∷ kept) = agreements i kept
agreements i (agreed slot version value ∷ kept) =
    cond (eqb slot i) (record { version = version; content = value } ∷ agreements i kept) (agreements i kept)

-- a kept holiday call names the day
unfoldable pub named : ℕ → List Call → Bool
named d [] = false
named d (delivery slot version value status ∷ kept) = named d kept
named d (holiday day ∷ kept) = eqb day d || named d kept
named d (register boundary version reading width ∷ kept) = named d kept
named d (agreed slot version value ∷ kept) = named d kept

-- h: the highest version among them, 0 if there are none
unfoldable pub highest_version : {A : Type 0} → List (Said A) → ℕ
highest_version [] = 0
highest_version (s ∷ ss) = max s.version (highest_version ss)

-- the content of the kept call with this version, zeros if there is none
unfoldable pub content_with : {A : Type 0} → A → ℕ → List (Said A) → A
content_with zeros version [] = zeros
content_with zeros version (s ∷ ss) = cond (eqb s.version version) s.content (content_with zeros version ss)

-- the version and content of a slot's, or a boundary's, kept call with the highest version
abbrev pub slot_version : List Call → ℕ → ℕ
slot_version kept i = highest_version (deliveries i kept)

abbrev pub slot_content : List Call → ℕ → Measured
slot_content kept i = content_with (measured 0 0) (slot_version kept i) (deliveries i kept)

abbrev pub read_version : List Call → ℕ → ℕ
read_version kept d = highest_version (kept_reads d kept)

abbrev pub read_content : List Call → ℕ → DialRead
read_content kept d = content_with (dial_read 0 0) (read_version kept d) (kept_reads d kept)

-- "with a highest version of their own" (02, W1)
abbrev pub agreed_version : List Call → ℕ → ℕ
agreed_version kept i = highest_version (agreements i kept)

abbrev pub agreed_content : List Call → ℕ → ℕ
agreed_content kept i = content_with 0 (agreed_version kept i) (agreements i kept)

-- a call that breaks no rule from the input
unfoldable pub against_kept : List Call → Call → Answer
against_kept kept (delivery slot version value status) =
    by_version (slot_version kept slot) version (same_measured (slot_content kept slot) (measured value status))
against_kept kept (holiday day) = cond (named day kept) repeat stored
against_kept kept (register boundary version reading width) =
    by_version (read_version kept boundary) version (same_read (read_content kept boundary) (dial_read reading width))
against_kept kept (agreed slot version value) =
    by_version (agreed_version kept slot) version (eqb (agreed_content kept slot) value)

unfoldable pub plain_answer : Head → List Call → Call → Answer
plain_answer h kept c = unless refused (rule OutsideBounds (not (head_ok h)) ∷ argument_rules h c) (against_kept kept c)

-- "A refused call isn't kept, every other is": the newest stands first
unfoldable pub keep : Head → List Call → Call → List Call
keep h kept c = cond (is_accepted (plain_answer h kept c)) (c ∷ kept) kept

-- a list of calls: its answers, and the calls kept at its end
unfoldable pub plain_answers : Head → List Call → List Call → List Answer
plain_answers h kept [] = []
plain_answers h kept (c ∷ cs) = plain_answer h kept c ∷ plain_answers h (keep h kept c) cs

unfoldable pub kept_of : Head → List Call → List Call → List Call
kept_of h kept [] = kept
kept_of h kept (c ∷ cs) = kept_of h (keep h kept c) cs

-- "At the end a slot or boundary has the version and content of its kept call with the highest version .."
unfoldable pub book_of : Head → List Call → Cells
book_of h kept = record {
  slots = record {
    values = up_to (λ i. (slot_content kept i).value) 0 (slot_count h);
    versions = up_to (slot_version kept) 0 (slot_count h);
    statuses = up_to (λ i. (slot_content kept i).status) 0 (slot_count h);
  };
  holidays = up_to (λ d. cond (named d kept) 1 0) 0 h.days;
  readings = up_to (λ d. (read_content kept d).reading) 0 (suc h.days);
  read_versions = up_to (read_version kept) 0 (suc h.days);
  agreed = record {
    values = up_to (agreed_content kept) 0 (slot_count h);
    versions = up_to (agreed_version kept) 0 (slot_count h);
  };
  widths = up_to (λ d. (read_content kept d).width) 0 (suc h.days);
}

-- how many slots of day d have a kept delivery (02, W6)
unfoldable pub delivered_on : Head → List Call → ℕ → ℕ
delivered_on h kept d = sum (λ i. cond (ltb 0 (slot_version kept i)) 1 0) (d * slots_per_day h) (slots_per_day h)

unfoldable pub counts_of : Head → List Call → List ℕ
counts_of h kept = up_to (delivered_on h kept) 0 h.days

-- what the ten lent lists hold then
unfoldable pub lists_of : Head → List Call → Book
lists_of h kept = record { cells = book_of h kept; counts = counts_of h kept }
