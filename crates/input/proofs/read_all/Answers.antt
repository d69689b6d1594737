-- `input::read_all`: each read puts its bytes after those that stand in the buffer.
use Rattle.std.proofs.Common.{rules, append-nil, ◌≡◌, ℕ, ◌+◌, ◌-◌, ◌≤◌, List, ◌++◌, length, take, drop, sym, ap, ◌∙◌, subst, le_refl}
use Rattle.std.proofs.Common.{drop_at, length-take-le}
use Rattle.std.specs.Io.KnownBytes.{Consumes}
use Rattle.std.proofs.KnownBytes.{Consumes-trans, Consumes-nil}
use Rattle.std.proofs.lemmas.Slice.{take-put_mid_below}
use borrow.Rule.Slice.PartMut.{put_mid, post_of}
use lib.Seq.{take-add, take-append-le}
use Rattle.input.proofs.read_all.Goals as goal

-- what stood before the part that was read into stays
front : (n k : ℕ) (xs ys : List ℕ) → n ≤ length xs → take n (put_mid n k xs ys) ≡ take n xs
front n k xs ys within = take-put_mid_below n k xs ys n (le_refl n) within

-- and the m bytes that were read follow it
more : (n k m : ℕ) (xs ys : List ℕ) → n ≤ length xs → m ≤ length ys → take n xs ++ take m ys ≡ take (n + m) (put_mid n k xs ys)
more n k m xs ys within fits =
    let after = post_of n k xs in
    let rest : take m (drop n (put_mid n k xs ys)) ≡ take m ys =
    ap (take m) (drop_at (take n xs) (ys ++ after) n (length-take-le n xs within)) ∙ take-append-le m ys after fits in
    ap (λ l. l ++ take m ys) (sym (front n k xs ys within)) ∙ ap (λ l. take n (put_mid n k xs ys) ++ l) (sym rest) ∙ sym
    (take-add n m (put_mid n k xs ys))

pub loop-n-init : goal.loop-n-init
loop-n-init g c = record { inside = search rules; long = search rules; taken = Consumes-nil _ }

pub returns-then-more-eq0-clause-bytes : goal.returns-then-more-eq0-clause-bytes
returns-then-more-eq0-clause-bytes g c =
    let xs = c.loop-n.buf in
    let n = c.loop-n.n in
    let within = c.loop-n.invariant.inside in
    let none : take n xs ++ take c.in_ok-more.more c.read.new.buf ≡ take n (put_mid n (length xs - n) xs c.read.new.buf) =
    ap (λ m. take n xs ++ take m c.read.new.buf) c.if-more-eq0.true ∙ append-nil (take n xs) ∙ sym (front n _ xs _ within) in
    let taken = Consumes-trans _ _ _ _ _ c.loop-n.invariant.taken c.in_ok-more.ensures.bytes.0 in
    (subst (Consumes _ _) none taken, λ h. c.in_ok-more.ensures.bytes.1 c.if-more-eq0.true (search rules))

pub loop-n-preserved : goal.loop-n-preserved
loop-n-preserved g c =
    let within = c.loop-n.invariant.inside in
    let taken = Consumes-trans _ _ _ _ _ c.loop-n.invariant.taken c.in_ok-more.ensures.bytes.0 in
    record {
      inside = search rules;
      long = search rules;
      taken =
          subst (Consumes _ _) (more c.loop-n.n _ c.in_ok-more.more c.loop-n.buf c.read.new.buf within c.in_ok-more.ensures.bound.0) taken;
    }
