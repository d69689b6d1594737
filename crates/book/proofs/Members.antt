-- What is said of a slot, a day and a boundary is what the kept calls for it say.
use mathlib.Core.Path.{◌≡◌, refl, sym, ap}
use mathlib.Core.Bool.{Bool, true, false, cond, false≢true, or-true}
use mathlib.Core.List.{List, [], ◌∷◌, Memᴰ}
use mathlib.Core.Logic.{⊎_elim}
use Prim.Native.Nat.{ℕ}
use native.Mathlib.Omega.{arith}
use lib.Dec.{eqb}
use borrow.Author.Tests.{eqb-true, eq-eqb}
use Rattle.base.proofs.Logic.{or_parts}
use Rattle.book.specs.Arguments.{Call}
use Rattle.book.specs.Arguments.Call.{delivery, holiday, register, agreed}
use Rattle.book.specs.Contents.{Measured, DialRead}
use Rattle.book.specs.Plain.{Said, deliveries, kept_reads, agreements, named}

-- the call that said it
abbrev pub delivered_as : ℕ → Said Measured → Call
delivered_as i s = delivery i s.version s.content.value s.content.status

abbrev pub read_as : ℕ → Said DialRead → Call
read_as d s = register d s.version s.content.reading s.content.width

abbrev pub agreed_as : ℕ → Said ℕ → Call
agreed_as i s = agreed i s.version s.content

-- what stands in a list, where x may have been put in front, was said by c, where d may have said x
said_by : {A : Type 0} (t : Bool) (x s : Said A) (ss : List (Said A)) (c d : Call) (kept : List Call) → (t ≡ true → s ≡ x → c ≡ d)
    → (Memᴰ s ss → Memᴰ c kept) → Memᴰ s (cond t (x ∷ ss) ss) → Memᴰ c (d ∷ kept)
said_by true x s ss c d kept here rest (Memᴰ.head q) = Memᴰ.head (here refl q)
said_by true x s ss c d kept here rest (Memᴰ.tail m) = Memᴰ.tail (rest m)
said_by false x s ss c d kept here rest m = Memᴰ.tail (rest m)

-- what is said of a slot was said by a kept delivery
pub deliveries_from : (i : ℕ) (kept : List Call) (s : Said Measured) → Memᴰ s (deliveries i kept) → Memᴰ (delivered_as i s) kept
unfolding deliveries
deliveries_from i [] s m = elim m [ ]
deliveries_from i (delivery slot version value status ∷ kept) s m =
    said_by (eqb slot i) (record { version = version; content = record { value = value; status = status } }) s
    (deliveries i kept) (delivered_as i s) (delivery slot version value status) kept
    (λ e q. rw (q, eqb-true slot i e)) (deliveries_from i kept s) m
deliveries_from i (holiday day ∷ kept) s m = Memᴰ.tail (deliveries_from i kept s m)
deliveries_from i (register boundary version reading width ∷ kept) s m = Memᴰ.tail (deliveries_from i kept s m)
deliveries_from i (agreed slot version value ∷ kept) s m = Memᴰ.tail (deliveries_from i kept s m)

-- and of a boundary by a kept register read
pub reads_from : (d : ℕ) (kept : List Call) (s : Said DialRead) → Memᴰ s (kept_reads d kept) → Memᴰ (read_as d s) kept
unfolding kept_reads
reads_from d [] s m = elim m [ ]
reads_from d (delivery slot version value status ∷ kept) s m = Memᴰ.tail (reads_from d kept s m)
reads_from d (holiday day ∷ kept) s m = Memᴰ.tail (reads_from d kept s m)
reads_from d (register boundary version reading width ∷ kept) s m =
    said_by (eqb boundary d) (record { version = version; content = record { reading = reading; width = width } }) s
    (kept_reads d kept) (read_as d s) (register boundary version reading width) kept
    (λ e q. rw (q, eqb-true boundary d e)) (reads_from d kept s) m
reads_from d (agreed slot version value ∷ kept) s m = Memᴰ.tail (reads_from d kept s m)

-- and of an agreed slot by a kept agreed call
pub agreements_from : (i : ℕ) (kept : List Call) (s : Said ℕ) → Memᴰ s (agreements i kept) → Memᴰ (agreed_as i s) kept
unfolding agreements
agreements_from i [] s m = elim m [ ]
agreements_from i (delivery slot version value status ∷ kept) s m = Memᴰ.tail (agreements_from i kept s m)
agreements_from i (holiday day ∷ kept) s m = Memᴰ.tail (agreements_from i kept s m)
agreements_from i (register boundary version reading width ∷ kept) s m = Memᴰ.tail (agreements_from i kept s m)
agreements_from i (agreed slot version value ∷ kept) s m =
    said_by (eqb slot i) (record { version = version; content = value }) s
    (agreements i kept) (agreed_as i s) (agreed slot version value) kept
    (λ e q. rw (q, eqb-true slot i e)) (agreements_from i kept s) m

-- what a kept delivery says of its slot is among what is said of it
said_of : {A : Type 0} (t : Bool) (x s : Said A) (ss : List (Said A)) (c d : Call) (kept : List Call) → (c ≡ d → (t ≡ true) × (s ≡ x))
    → (Memᴰ c kept → Memᴰ s ss) → Memᴰ c (d ∷ kept) → Memᴰ s (cond t (x ∷ ss) ss)
said_of t x s ss c d kept here rest (Memᴰ.head e) = rw (here e).0 (Memᴰ.head (here e).1)
said_of true x s ss c d kept here rest (Memᴰ.tail m) = Memᴰ.tail (rest m)
said_of false x s ss c d kept here rest (Memᴰ.tail m) = rest m

-- a call that says nothing of it
other_call : {c d : Call} {kept : List Call} → (c ≡ d → ⊥) → Memᴰ c (d ∷ kept) → Memᴰ c kept
other_call ne (Memᴰ.head e) = absurd (ne e)
other_call ne (Memᴰ.tail m) = m

pub deliveries_of : (i : ℕ) (kept : List Call) (s : Said Measured) → Memᴰ (delivered_as i s) kept → Memᴰ s (deliveries i kept)
unfolding deliveries
deliveries_of i [] s m = elim m [ ]
deliveries_of i (delivery slot version value status ∷ kept) s m =
    said_of (eqb slot i) (record { version = version; content = record { value = value; status = status } }) s
    (deliveries i kept) (delivered_as i s) (delivery slot version value status) kept (λ e. parts e) (deliveries_of i kept s) m
  where
    parts : delivered_as i s ≡ delivery slot version value status
        → (eqb slot i ≡ true) × (s ≡ record { version = version; content = record { value = value; status = status } })
    parts e =
        let at : slot ≡ i = cc in
        let v : s.version ≡ version = cc in
        let x : s.content.value ≡ value = cc in
        let y : s.content.status ≡ status = cc in
        (eq-eqb slot i at, λ t. record { version = v t; content = record { value = x t; status = y t } })
deliveries_of i (holiday day ∷ kept) s m = deliveries_of i kept s (other_call (λ e. let z : ◌≡◌ {A = ℕ} 0 1 = cc in omega arith) m)
deliveries_of i (register boundary version reading width ∷ kept) s m =
    deliveries_of i kept s (other_call (λ e. let z : ◌≡◌ {A = ℕ} 0 1 = cc in omega arith) m)
deliveries_of i (agreed slot version value ∷ kept) s m =
    deliveries_of i kept s (other_call (λ e. let z : ◌≡◌ {A = ℕ} 0 1 = cc in omega arith) m)

pub reads_of : (d : ℕ) (kept : List Call) (s : Said DialRead) → Memᴰ (read_as d s) kept → Memᴰ s (kept_reads d kept)
unfolding kept_reads
reads_of d [] s m = elim m [ ]
reads_of d (delivery slot version value status ∷ kept) s m =
    reads_of d kept s (other_call (λ e. let z : ◌≡◌ {A = ℕ} 0 1 = cc in omega arith) m)
reads_of d (holiday day ∷ kept) s m = reads_of d kept s (other_call (λ e. let z : ◌≡◌ {A = ℕ} 0 1 = cc in omega arith) m)
reads_of d (register boundary version reading width ∷ kept) s m =
    said_of (eqb boundary d) (record { version = version; content = record { reading = reading; width = width } }) s
    (kept_reads d kept) (read_as d s) (register boundary version reading width) kept (λ e. parts e) (reads_of d kept s) m
  where
    parts : read_as d s ≡ register boundary version reading width
        → (eqb boundary d ≡ true) × (s ≡ record { version = version; content = record { reading = reading; width = width } })
    parts e =
        let at : boundary ≡ d = cc in
        let v : s.version ≡ version = cc in
        let x : s.content.reading ≡ reading = cc in
        let y : s.content.width ≡ width = cc in
        (eq-eqb boundary d at, λ t. record { version = v t; content = record { reading = x t; width = y t } })
reads_of d (agreed slot version value ∷ kept) s m = reads_of d kept s (other_call (λ e. let z : ◌≡◌ {A = ℕ} 0 1 = cc in omega arith) m)

pub agreements_of : (i : ℕ) (kept : List Call) (s : Said ℕ) → Memᴰ (agreed_as i s) kept → Memᴰ s (agreements i kept)
unfolding agreements
agreements_of i [] s m = elim m [ ]
agreements_of i (delivery slot version value status ∷ kept) s m =
    agreements_of i kept s (other_call (λ e. let z : ◌≡◌ {A = ℕ} 0 1 = cc in omega arith) m)
agreements_of i (holiday day ∷ kept) s m = agreements_of i kept s (other_call (λ e. let z : ◌≡◌ {A = ℕ} 0 1 = cc in omega arith) m)
agreements_of i (register boundary version reading width ∷ kept) s m =
    agreements_of i kept s (other_call (λ e. let z : ◌≡◌ {A = ℕ} 0 1 = cc in omega arith) m)
agreements_of i (agreed slot version value ∷ kept) s m =
    said_of (eqb slot i) (record { version = version; content = value }) s
    (agreements i kept) (agreed_as i s) (agreed slot version value) kept (λ e. parts e) (agreements_of i kept s) m
  where
    parts : agreed_as i s ≡ agreed slot version value → (eqb slot i ≡ true) × (s ≡ record { version = version; content = value })
    parts e =
        let at : slot ≡ i = cc in
        let v : s.version ≡ version = cc in
        let x : s.content ≡ value = cc in
        (eq-eqb slot i at, λ t. record { version = v t; content = x t })

-- a day is named exactly when its holiday call is kept
pub named_from : (d : ℕ) (kept : List Call) → named d kept ≡ true → Memᴰ (holiday d) kept
unfolding named
named_from d [] e = absurd (false≢true e)
named_from d (delivery slot version value status ∷ kept) e = Memᴰ.tail (named_from d kept e)
named_from d (holiday day ∷ kept) e =
    ⊎_elim (λ q. Memᴰ.head (ap holiday (sym (eqb-true day d q)))) (λ q. Memᴰ.tail (named_from d kept q)) (or_parts _ _ e)
named_from d (register boundary version reading width ∷ kept) e = Memᴰ.tail (named_from d kept e)
named_from d (agreed slot version value ∷ kept) e = Memᴰ.tail (named_from d kept e)

pub named_of : (d : ℕ) (kept : List Call) → Memᴰ (holiday d) kept → named d kept ≡ true
unfolding named
named_of d [] m = elim m [ ]
named_of d (delivery slot version value status ∷ kept) m = named_of d kept (other_call (λ e. let z : ◌≡◌ {A = ℕ} 0 1 = cc in omega arith) m)
named_of d (holiday day ∷ kept) (Memᴰ.head e) = let at : day ≡ d = cc in rw (eq-eqb day d at)
named_of d (holiday day ∷ kept) (Memᴰ.tail m) = rw (named_of d kept m) (or-true (eqb day d))
named_of d (register boundary version reading width ∷ kept) m =
    named_of d kept (other_call (λ e. let z : ◌≡◌ {A = ℕ} 0 1 = cc in omega arith) m)
named_of d (agreed slot version value ∷ kept) m = named_of d kept (other_call (λ e. let z : ◌≡◌ {A = ℕ} 0 1 = cc in omega arith) m)
