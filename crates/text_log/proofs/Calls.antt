-- The call of a keyword and its fields.
use mathlib.Core.Bool.{Bool, true, false}
use mathlib.Core.List.{List, [], ◌∷◌, map}
use mathlib.Core.Path.{◌≡◌, refl, sym, ◌∙◌}
use Prim.Native.Nat.{ℕ, ◌-◌, ◌≤◌, ◌<◌}
use native.Mathlib.Omega.{arith}
use borrow.Author.Tests.{eq-eqb, ne_eqb, lt-ltb, le-ltb}
use lib.Dec.{eqb}
use Rattle.std.specs.Cmp.Lexicographic.{pointwise}
use lib.ListN.{length, get_or, take, get_or-map}
use Rattle.std.specs.Prelude.{Some, None}
use Rattle.text_log.specs.declared.number.Date.{Date}
use Rattle.text_log.specs.declared.line.LogLine.TheVariants.{Passed, Table, Open, Fill, NoCall}
use Rattle.text_log.specs.declared.limits.Limits.{Limits}
use Rattle.book.specs.declared.calls.Call.TheVariants.{Delivery, Agreed, Holiday, Register}
use Rattle.text_log.specs.Numbers.{value_after, value_of, date_of_word}
use Rattle.text_log.specs.Words.{words, same}
use Rattle.text_log.specs.Line.{open_word, delivery_word, holiday_word, register_word, agreed_word, open_of, delivery_of, holiday_of}
use Rattle.text_log.specs.Line.{sharp_of}
use Rattle.text_log.specs.Line.{register_of, agreed_of, call_of, without_cr, is_passed, are_limits, bare, limits_entry}
use Rattle.text_log.specs.Line.{words_entry}
use Rattle.text_log.specs.Line.{entry_of, limits_word}
use Rattle.text_log.specs.Line.{value}
use Rattle.text_log.specs.Inner.Parsing.{numbers_in, limits_in}
use Rattle.text_log.proofs.Reading.{chosen_none, chosen_some, not_date, is_date_lem}
use Rattle.text_log.proofs.Fields.{numbers_are, numbers_are_not}

-- ---- Fields

-- the values of fields by their places
values_at : (fields : List (List ℕ)) (vs : List ℕ) → vs ≡ map value_of fields → (i : ℕ) → get_or vs i 0 ≡ value fields i
unfolding value_after
values_at fields vs e i = rw e (get_or-map value_of fields i [])

module _ (fields : List (List ℕ)) where
  pub no_delivery : numbers_in 4 fields ≡ None → NoCall ≡ delivery_of fields
  unfolding delivery_of
  no_delivery n = rw (numbers_are_not 4 fields n)

  pub no_holiday : numbers_in 1 fields ≡ None → NoCall ≡ holiday_of fields
  unfolding holiday_of
  no_holiday n = rw (numbers_are_not 1 fields n)

  pub no_sharp : numbers_in 3 fields ≡ None → NoCall ≡ sharp_of fields
  unfolding sharp_of
  no_sharp n = rw (numbers_are_not 3 fields n)

  pub no_width : numbers_in 4 fields ≡ None → sharp_of fields ≡ register_of fields
  unfolding register_of
  no_width n = rw (numbers_are_not 4 fields n)

  pub no_agreed : numbers_in 3 fields ≡ None → NoCall ≡ agreed_of fields
  unfolding agreed_of
  no_agreed n = rw (numbers_are_not 3 fields n)

  module _ (vs : List ℕ) where
    pub is_delivery : numbers_in 4 fields ≡ Some vs
        → Fill (Delivery (get_or vs 0 0) (get_or vs 1 0) (get_or vs 2 0) (get_or vs 3 0)) ≡ delivery_of fields
    unfolding delivery_of
    is_delivery e =
        let are = numbers_are 4 fields vs e in
        let at = values_at fields vs are.1 in rw (are.0, at 0, at 1, at 2, at 3)

    pub is_holiday : numbers_in 1 fields ≡ Some vs → Fill (Holiday (get_or vs 0 0)) ≡ holiday_of fields
    unfolding holiday_of
    is_holiday e = let are = numbers_are 1 fields vs e in rw (are.0, values_at fields vs are.1 0)

    pub is_sharp : numbers_in 3 fields ≡ Some vs → Fill (Register (get_or vs 0 0) (get_or vs 1 0) (get_or vs 2 0) 0) ≡ sharp_of fields
    unfolding sharp_of
    is_sharp e =
        let are = numbers_are 3 fields vs e in
        let at = values_at fields vs are.1 in rw (are.0, at 0, at 1, at 2)

    pub is_register : numbers_in 4 fields ≡ Some vs
        → Fill (Register (get_or vs 0 0) (get_or vs 1 0) (get_or vs 2 0) (get_or vs 3 0)) ≡ register_of fields
    unfolding register_of
    is_register e =
        let are = numbers_are 4 fields vs e in
        let at = values_at fields vs are.1 in rw (are.0, at 0, at 1, at 2, at 3)

    pub is_agreed_lem : numbers_in 3 fields ≡ Some vs → Fill (Agreed (get_or vs 0 0) (get_or vs 1 0) (get_or vs 2 0)) ≡ agreed_of fields
    unfolding agreed_of
    is_agreed_lem e =
        let are = numbers_are 3 fields vs e in
        let at = values_at fields vs are.1 in rw (are.0, at 0, at 1, at 2)

-- ---- An opening's date

pub no_fields : (ws : List (List ℕ)) → ws ≡ [] → NoCall ≡ open_of ws
unfolding open_of
no_fields ws e = rw e

module _ (ws : List (List ℕ)) (word : List ℕ) (fields : List (List ℕ)) (e : ws ≡ word ∷ fields) where
  pub no_date : date_of_word word ≡ None → NoCall ≡ open_of ws
  unfolding open_of
  no_date n = rw (e, not_date word n)

  module _ (d : Date) (day : date_of_word word ≡ Some d) where
    pub no_open : numbers_in 4 fields ≡ None → NoCall ≡ open_of ws
    unfolding open_of
    no_open n = rw (e, (is_date_lem word d day).0, numbers_are_not 4 fields n)

    pub is_open : (vs : List ℕ) → numbers_in 4 fields ≡ Some vs
        → Open (record {
          year = d.year;
          month = d.month;
          day = d.day;
          days = get_or vs 0 0;
          interval = get_or vs 1 0;
          kind = get_or vs 2 0;
          tolerance = get_or vs 3 0;
        })
        ≡ open_of ws
    unfolding open_of
    is_open vs f =
        let are = numbers_are 4 fields vs f in
        let at = values_at fields vs are.1 in
        let is = is_date_lem word d day in
        rw (e, is.0, are.0, at 0, at 1, at 2, at 3, is.1)

-- ---- The keyword

-- what `==` finds
same_found : (a b : List ℕ) → pointwise eqb a b ≡ same a b
unfolding same
same_found [] [] = refl
same_found [] (c ∷ cs) = refl
same_found (b ∷ bs) [] = refl
same_found (b ∷ bs) (c ∷ cs) = rw (same_found bs cs)

pub same_is : (word other keyword : List ℕ) {t b : Bool} → other ≡ keyword → t ≡ pointwise eqb word other → t ≡ b → same word keyword ≡ b
same_is word other keyword e f g = sym (same_found word keyword) ∙ rw (← e) (sym f ∙ g)

module _ (ws : List (List ℕ)) (word : List ℕ) (fields : List (List ℕ)) (e : ws ≡ word ∷ fields) where
  pub call_open : same word open_word ≡ true → open_of fields ≡ call_of ws
  unfolding call_of
  call_open t = rw (e, t)

  module _ (o : same word open_word ≡ false) where
    pub call_delivery : same word delivery_word ≡ true → delivery_of fields ≡ call_of ws
    unfolding call_of
    call_delivery t = rw (e, o, t)

    module _ (d : same word delivery_word ≡ false) where
      pub call_holiday : same word holiday_word ≡ true → holiday_of fields ≡ call_of ws
      unfolding call_of
      call_holiday t = rw (e, o, d, t)

      module _ (h : same word holiday_word ≡ false) where
        pub call_register : same word register_word ≡ true → register_of fields ≡ call_of ws
        unfolding call_of
        call_register t = rw (e, o, d, h, t)

        module _ (r : same word register_word ≡ false) where
          pub call_agreed : same word agreed_word ≡ true → agreed_of fields ≡ call_of ws
          unfolding call_of
          call_agreed t = rw (e, o, d, h, r, t)

          pub call_none : same word agreed_word ≡ false → NoCall ≡ call_of ws
          unfolding call_of
          call_none t = rw (e, o, d, h, r, t)

-- ---- A table of limits

pub is_table : (fields : List (List ℕ)) (r : Limits) → limits_in fields ≡ Some r → record { line = Table; limits = r } ≡ limits_entry fields
unfolding limits_in limits_entry
is_table fields r e = let is = chosen_some (are_limits fields) _ _ e in rw (is.0, is.1)

pub no_table : (fields : List (List ℕ)) → limits_in fields ≡ None → bare NoCall ≡ limits_entry fields
unfolding limits_in limits_entry
no_table fields e = rw (chosen_none (are_limits fields) _ e)

module _ (ws : List (List ℕ)) (word : List ℕ) (fields : List (List ℕ)) (e : ws ≡ word ∷ fields) where
  pub entry_table : same word limits_word ≡ true → limits_entry fields ≡ words_entry ws
  unfolding words_entry
  entry_table t = rw (e, t)

  pub entry_bare : same word limits_word ≡ false → bare (call_of ws) ≡ words_entry ws
  unfolding words_entry
  entry_bare t = rw (e, t)

-- ---- The line's end, comments, and the longest line

pub cr_empty : (bytes : List ℕ) → length bytes < 1 → bytes ≡ without_cr bytes
unfolding without_cr
cr_empty [] l = refl
cr_empty (b ∷ bs) l = absurd (omega arith)

pub cr_dropped : (bytes : List ℕ) → get_or bytes (length bytes - 1) 0 ≡ 13 → take (length bytes - 1) bytes ≡ without_cr bytes
unfolding without_cr
cr_dropped bytes e = rw (eq-eqb _ _ e)

pub cr_none : (bytes : List ℕ) → (get_or bytes (length bytes - 1) 0 ≡ 13 → ⊥) → bytes ≡ without_cr bytes
unfolding without_cr
cr_none bytes n = rw (ne_eqb _ _ n)

module _ (bytes line : List ℕ) (cut : line ≡ without_cr bytes) where
  pub line_empty : length line ≡ 0 → bare Passed ≡ entry_of bytes
  unfolding entry_of is_passed
  line_empty e = rw (← cut, e)

  module _ (some : length line ≡ 0 → ⊥) where
    pub line_comment : get_or line 0 0 ≡ 35 → bare Passed ≡ entry_of bytes
    unfolding entry_of is_passed
    line_comment e = rw (← cut, ne_eqb _ _ some, eq-eqb _ _ e)

    module _ (c : get_or line 0 0 ≡ 35 → ⊥) where
      pub line_long : 255 < length line → bare NoCall ≡ entry_of bytes
      unfolding entry_of is_passed
      line_long k = rw (← cut, ne_eqb _ _ some, ne_eqb _ _ c, lt-ltb _ _ k)

      pub line_call : length line ≤ 255 → words_entry (words line) ≡ entry_of bytes
      unfolding entry_of is_passed
      line_call k = rw (← cut, ne_eqb _ _ some, ne_eqb _ _ c, le-ltb _ _ k)
