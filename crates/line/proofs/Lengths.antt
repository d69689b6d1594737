-- How long the line is, and what it leaves in a buffer.
use Rattle.std.specs.Prelude.{Ok, Err}
use mathlib.Core.List.{List, ◌++◌}
use mathlib.Core.Path.{◌≡◌, refl, ap, ◌∙◌}
use Prim.Native.Nat.{ℕ, ◌+◌, ◌^◌, ◌≤◌, ◌<◌}
use native.Mathlib.Nat.{zero-add}
use native.Mathlib.Omega.{arith}
use borrow.Author.Tests.{lt-ltb, le-ltb}
use lib.ListN.{length, drop, length-append}
use lib.Seq.{take_at, drop-append_seam}
use Rattle.base.specs.declared.Refusal.TheVariants.{ShortBuffer}
use Rattle.base.specs.Text.{ascii}
use Rattle.calendar.specs.declared.Date.{Date}
use Rattle.calendar.specs.Calendar.{date_of}
use Rattle.file.specs.declared.Figures.{Figures}
use Rattle.line.specs.Line.{places, decimal, date_text, field, figures_text, refused, newline, AtStart, figures_answer, figures_after}
use Rattle.line.specs.Inner.Writing.{Added}
use Rattle.line.proofs.Digits.{length_digits, places_le}
use Rattle.line.proofs.Putting.{capped_low, stored_all}

-- ---- Lengths

pub field_short : (n : ℕ) → length (field n) ≤ 21
unfolding field decimal
field_short n = omega (arith, length_digits (places 19 n) n, places_le 19 n)

date_long : (d : Date) → length (date_text d) ≡ 10
unfolding date_text
date_long d =
    rw (length-append, length-append, length-append, length-append, length_digits, length_digits, length_digits)

pub figures_short : (g : Figures) → length (figures_text g) ≤ 136
unfolding figures_text
figures_short g =
    rw (length-append, length-append, length-append, length-append, length-append, length-append)
    (omega (
      arith,
      date_long (date_of g.first),
      field_short g.days,
      field_short g.interval,
      field_short g.actual,
      field_short g.substituted,
      field_short g.none,
      field_short g.sum,
    ))

-- a line fits 160 bytes
pub too_long_room : length (ascii "too long\n") ≤ 160
too_long_room = omega arith

pub figures_room : (g : Figures) → length (figures_text g ++ newline) ≤ 160
figures_room g = rw length-append (omega (arith, figures_short g))

pub refusal_room : (number : ℕ) → length (refused ++ field number ++ newline) ≤ 160
refusal_room number = rw (length-append, length-append) (omega (arith, field_short number))

-- ---- A text of at most n bytes at the start of a buffer of at least n

module _ {a b s : List ℕ} {r n : ℕ} (p : Added a 0 b r s) (short : length s ≤ n) (long : n ≤ length a) where
  room : length s ≤ length a
  room = omega (arith, short, long)

  pub put_length : r ≡ length s
  put_length =
      let fits : 0 + length s < 2 ^ 64 = omega (arith, room, p.fits) in
      p.next ∙ capped_low (0 + length s) fits ∙ zero-add (length s)

  pub put_whole : b ≡ s ++ drop (length s) a
  put_whole = p.has ∙ stored_all s a room

  pub at_start : AtStart a b r s
  at_start =
      let rest : List ℕ = drop (length s) a in
      rw (put_whole, put_length) (record {
        inside = omega (arith, length-append s rest);
        has = take_at s rest (length s) refl;
        stay = drop-append_seam s rest;
      })

-- ---- The line of a file in a buffer of any length

module _ (g : Figures) (out : List ℕ) {aside held : List ℕ} {n : ℕ} (put : Added aside 0 held n (figures_text g)) where
  long : n ≡ length (figures_text g)
  long =
      let fits : 0 + length (figures_text g) < 2 ^ 64 = omega (arith, figures_short g) in
      put.next ∙ capped_low (0 + length (figures_text g)) fits ∙ zero-add (length (figures_text g))

  pub line_refused : length out < n → (Err ShortBuffer ≡ figures_answer g out) × (out ≡ figures_after g out)
  unfolding figures_answer figures_after
  line_refused l = let short : length out < length (figures_text g) = omega (arith, long) in rw (lt-ltb _ _ short) (refl, refl)

  pub line_fits : {left : List ℕ} {r : ℕ} → n ≤ length out → Added out 0 left r (figures_text g)
      → (Ok r ≡ figures_answer g out) × (left ≡ figures_after g out)
  unfolding figures_answer figures_after
  line_fits l p =
      let room : length (figures_text g) ≤ length out = omega (arith, long) in
      rw (le-ltb _ _ room) (ap Ok (put_length p room (omega arith)), put_whole p room (omega arith))
