-- The answer from the outcomes of its tests.
use Rattle.std.specs.Prelude.{Result, Ok, Err}
use mathlib.Core.Bool.{Bool, true, false, ◌&&◌, and-true, and_assoc}
use mathlib.Core.List.{List, [], ◌∷◌}
use mathlib.Core.Logic.{⊎_elim}
use mathlib.Core.Path.{◌≡◌, refl, sym, ap, ◌∙◌}
use Prim.Native.Nat.{ℕ, ◌+◌, ◌-◌, ◌^◌, ◌≤◌, ◌<◌}
use native.Mathlib.Omega.{arith}
use borrow.Author.Tests.{leb-true, leb-false, eqb-true, le-leb, lt-leb, ltb-true, ltb-false}
use lib.Dec.{leb, ltb}
use lib.ListN.{length, length-append}
use Rattle.base.specs.declared.Refusal.{Refusal}
use Rattle.base.specs.declared.Refusal.TheVariants.{WrongIdentifier, WrongText, ShortBuffer}
use Rattle.base.specs.Lists.{every}
use Rattle.base.proofs.Logic.{either, passed, and_parts}
use Rattle.file.specs.declared.Figures.{Figures}
use Rattle.file.specs.Reader.{read_file}
use Rattle.market.specs.declared.Codes.{Codes}
use Rattle.market.specs.Fields.{Texts}
use Rattle.market.specs.Records.{record900}
use Rattle.market.specs.Export.{content_of, body_of, export_of, plain_byte, digit_byte, all_of}
use Rattle.market.specs.Export.{identifier_ok, time_ok, codes_ok, supplied_tests, supplied_ok}
use Rattle.market.specs.Export.{export_by, export_answer, export_after}
use Rattle.line.specs.Inner.Writing.{capped, Added}
use Rattle.line.proofs.Putting.{capped_low, capped_high, stored_all}

-- ---- What is supplied

supplied_parts : (a b c d e f g h i j k : Bool)
    → (every ((a && b) ∷ (c && d) ∷ (e && f) ∷ (g && h) ∷ []) && every (i ∷ j ∷ k ∷ []))
    ≡ every (a ∷ b ∷ c ∷ d ∷ e ∷ f ∷ g ∷ h ∷ i ∷ j ∷ k ∷ [])
supplied_parts a b c d e f g h i j k = simp (and_assoc, and-true)

-- the header texts in pairs, and the others
pub supplied_by : (t : Texts) (codes : Codes)
    → (every (
    (all_of plain_byte t.from && all_of plain_byte t.to)
    ∷ (all_of plain_byte t.configuration && all_of plain_byte t.register)
    ∷ (all_of plain_byte t.suffix && all_of plain_byte t.stream)
    ∷ (all_of plain_byte t.serial && all_of plain_byte t.next_read)
    ∷ [])
    && every (all_of plain_byte t.reason ∷ time_ok t.created ∷ codes_ok codes ∷ []))
    ≡ supplied_ok t codes
unfolding supplied_ok
supplied_by t codes =
    supplied_parts (all_of plain_byte t.from) (all_of plain_byte t.to) (all_of plain_byte t.configuration) (all_of plain_byte t.register)
    (all_of plain_byte t.suffix) (all_of plain_byte t.stream) (all_of plain_byte t.serial) (all_of plain_byte t.next_read)
    (all_of plain_byte t.reason) (time_ok t.created) (codes_ok codes)

pub time_long : (t : Texts) (codes : Codes) → supplied_ok t codes ≡ true → length t.created ≡ 14
unfolding supplied_ok time_ok
time_long t codes ok =
    eqb-true _ _ (and_parts _ (all_of digit_byte t.created) (passed (supplied_tests t codes) ok 9)).0

-- ---- Room

-- 5 bytes on both sides
pub less_five : (n room : ℕ) → 5 ≤ room → leb n (room - 5) ≡ leb (n + 5) room
less_five n room l =
    ⊎_elim (λ e. e ∙ sym (le-leb (n + 5) room (omega (arith, leb-true n (room - 5) e))))
    (λ e. e ∙ sym (lt-leb (n + 5) room (omega (arith, leb-false n (room - 5) e))))
    (either (leb n (room - 5)))

-- a count that stopped is beyond every buffer
pub room_for : (n room : ℕ) → room < 2 ^ 64 → leb (capped n + 5) room ≡ leb (n + 5) room
room_for n room l =
    ⊎_elim (λ e. ap (λ (x : ℕ). leb (x + 5) room) (capped_low n (omega (arith, ltb-true n 18_446_744_073_709_551_615 e))))
    (λ e.
    let h : 18_446_744_073_709_551_615 ≤ n = ltb-false n 18_446_744_073_709_551_615 e in
    let far : room < n + 5 = omega arith in
    let near : room < 18_446_744_073_709_551_615 + 5 = omega arith in
    ap (λ (x : ℕ). leb (x + 5) room) (capped_high n h) ∙ lt-leb (18_446_744_073_709_551_615 + 5) room near ∙ sym (lt-leb (n + 5) room far))
    (either (ltb n 18_446_744_073_709_551_615))

-- ---- An accepted file

module _ (bs : List ℕ) (g : Figures) (e : read_file bs ≡ Ok g) where
  module _ (t : Texts) (codes : Codes) (out : List ℕ) where
    pub refused_14 : identifier_ok t.identifier ≡ false
        → (Err WrongIdentifier ≡ export_answer bs t codes out) × (out ≡ export_after bs t codes out)
    unfolding export_after export_answer
    refused_14 p = rw (e, p) (refl, refl)

    module _ (identifier : identifier_ok t.identifier ≡ true) where
      pub refused_15 : supplied_ok t codes ≡ false → (Err WrongText ≡ export_answer bs t codes out) × (out ≡ export_after bs t codes out)
      unfolding export_after export_answer
      refused_15 p = rw (e, identifier, p) (refl, refl)

      module _ (supplied : supplied_ok t codes ≡ true) where
        long : length (export_of t (content_of codes bs)) ≡ length (body_of t (content_of codes bs)) + 5
        unfolding export_of
        long = length-append (body_of t (content_of codes bs)) record900

        pub refused_7 : leb (length (body_of t (content_of codes bs)) + 5) (length out) ≡ false
            → (Err ShortBuffer ≡ export_answer bs t codes out) × (out ≡ export_after bs t codes out)
        unfolding export_after export_answer
        refused_7 p = rw (e, identifier, supplied, long, p) (refl, refl)

        pub exported : (after : List ℕ) (r : ℕ) → leb (length (body_of t (content_of codes bs)) + 5) (length out) ≡ true
            → Added out 0 after r (export_of t (content_of codes bs))
            → (Ok r ≡ export_answer bs t codes out) × (after ≡ export_after bs t codes out)
        unfolding export_after export_answer
        exported after r p added =
            let x : List ℕ = export_of t (content_of codes bs) in
            let fits : length x ≤ length out = omega (arith, long, leb-true (length (body_of t (content_of codes bs)) + 5) (length out) p)
            in
            let small : 0 + length x < 2 ^ 64 = omega (arith, fits, added.fits) in
            let plain : 0 + length x ≡ length x = omega arith in
            let size : r ≡ length x = added.next ∙ capped_low (0 + length x) small ∙ plain in
            let room : leb (length x) (length out) ≡ true = ap (λ (n : ℕ). leb n (length out)) long ∙ p in
            rw (e, identifier, supplied, room, size) (refl, added.has ∙ stored_all x out fits)

pub refused_by_reader : (bs : List ℕ) (r : Refusal) → read_file bs ≡ Err r → (t : Texts) (codes : Codes) (out : List ℕ)
    → (Err r ≡ export_answer bs t codes out) × (out ≡ export_after bs t codes out)
unfolding export_after export_answer
refused_by_reader bs r e t codes out = rw e (refl, refl)

-- ---- A call that answers a length

pub record Answered (v : Result Figures Refusal) (a b c : Bool) (n m : ℕ) : Type 0 where
  pub figures : Figures
  pub accepted : v ≡ Ok figures
  pub supplied : b ≡ true
  pub room : c ≡ true
  pub long : n ≡ m

different : {X : Type 0} {x : X} {r : Refusal} → ◌≡◌ {A = Result X Refusal} (Ok x) (Err r) → ⊥
different e = let z : ◌≡◌ {A = ℕ} 0 1 = cc in omega arith

pub answered : (v : Result Figures Refusal) (a b c : Bool) (n m : ℕ) → export_by v a b c n ≡ Ok m → Answered v a b c n m
answered (Err k) a b c n m e = absurd (different (sym e))
answered (Ok g) false b c n m e = absurd (different (sym e))
answered (Ok g) true false c n m e = absurd (different (sym e))
answered (Ok g) true true false n m e = absurd (different (sym e))
answered (Ok g) true true true n m e = record { figures = g; accepted = refl; supplied = refl; room = refl; long = cc }

module _ (bs : List ℕ) (t : Texts) (codes : Codes) (out : List ℕ) (m : ℕ) (e : export_answer bs t codes out ≡ Ok m) where
  pub answer_is : Answered (read_file bs) (identifier_ok t.identifier) (supplied_ok t codes)
      (leb (length (export_of t (content_of codes bs))) (length out)) (length (export_of t (content_of codes bs))) m
  unfolding export_answer
  answer_is =
      answered (read_file bs) (identifier_ok t.identifier) (supplied_ok t codes)
      (leb (length (export_of t (content_of codes bs))) (length out)) (length (export_of t (content_of codes bs))) m e
