-- A slot that has a cause and is not agreed: its rules from what a walk knows of it.
use mathlib.Core.Bool.{Bool, true, false}
use mathlib.Core.List.{List}
use mathlib.Core.Logic.{⊎_elim}
use mathlib.Core.Path.{◌≡◌, sym, ap, ◌∙◌}
use Prim.Native.Nat.{ℕ, ◌<◌}
use native.Mathlib.Omega.{arith}
use borrow.Author.Tests.{ltb-true, ltb-false}
use lib.Dec.{ltb}
use Rattle.base.proofs.Logic.{either}
use Rattle.rules.specs.declared.Head.{Head}
use Rattle.rules.specs.declared.Outcome.{Outcome}
use Rattle.rules.specs.declared.linear.StraightLine.{StraightLine}
use Rattle.rules.specs.Opening.{Slots, Agreed, slot_count}
use Rattle.rules.specs.Tests.{good_at}
use Rattle.rules.specs.Filling.{is_outage_zero, is_agreed, in_run, references, filled_at, shape_of, shape_at}
use Rattle.rules.specs.Inner.Walks.{line_at, ruled_by, Drawn}
use Rattle.rules.proofs.Bounds.{Bounded}
use Rattle.rules.proofs.Fillings.{filled_zero, filled_line, filled_rest}
use Rattle.rules.proofs.Lines.{line_none, line_fills_lem, line_leaves}
use Rattle.rules.proofs.Runs.{run_holds, run_zeroed}
use Rattle.rules.proofs.Shapes.{shape_filled}

module _ (h : Head) (w : Bounded h) (s : Slots) (a : Agreed) (i : ℕ) (l : i < slot_count h) (cause : good_at h s i ≡ false)
    (t : is_agreed a.versions i ≡ false) (o : Bool) (z : o ≡ is_outage_zero h s i) (p : StraightLine) (q : p ≡ line_at h s a.versions i)
  where
    in_run_lem : o ≡ false → in_run h s a.versions i ≡ true
    in_run_lem e = run_holds h s a.versions i cause t o z e

    -- a line that is looked at has figures that fit
    pub line_drawn : 0 < p.length → Drawn p
    line_drawn m =
        ⊎_elim
        (λ e.
        let none = q ∙ sym (line_none h s a.versions i (run_zeroed h s a.versions i o z e)) in
        absurd (let y : p.length ≡ 0 = ap (λ (r : StraightLine). r.length) none in omega arith))
        (λ e. (line_fills_lem h s a.versions w i l (in_run_lem e) p q m).1)
        (either o)

    module _ (holidays : List ℕ) where
      ruled_zero : o ≡ true → ruled_by o p (references h s holidays i) ≡ filled_at h s a holidays i
      unfolding ruled_by
      ruled_zero e = rw e (filled_zero h s a holidays i cause t (sym z ∙ e))

      module _ (e : o ≡ false) where
        ruled_line : ltb 0 p.length ≡ true → ruled_by o p (references h s holidays i) ≡ filled_at h s a holidays i
        unfolding ruled_by
        ruled_line m =
            let f = line_fills_lem h s a.versions w i l (in_run_lem e) p q (ltb-true _ _ m) in
            simp (e, m) (filled_line h s a holidays i cause t (sym z ∙ e) _ f.2 f.0)

        ruled_rest : ltb 0 p.length ≡ false → ruled_by o p (references h s holidays i) ≡ filled_at h s a holidays i
        unfolding ruled_by
        ruled_rest m =
            let f = line_leaves h s a.versions w i l (in_run_lem e) p q (ltb-false _ _ m) in
            simp (e, m) (filled_rest h s a holidays i cause t (sym z ∙ e) f)

      ruled_fills : ruled_by o p (references h s holidays i) ≡ filled_at h s a holidays i
      ruled_fills = ⊎_elim ruled_zero (λ e. ⊎_elim (ruled_line e) (ruled_rest e) (either (ltb 0 p.length))) (either o)

      -- its outcome before scaling, and its shape
      pub ruled : (r : Outcome) (x : ℕ) → let xs = references h s holidays i in r ≡ ruled_by o p xs → x ≡ shape_of r xs
          → (r ≡ filled_at h s a holidays i) × (x ≡ shape_at h s a holidays i)
      ruled r x e f = let g = e ∙ ruled_fills in (g, f ∙ shape_filled h s a holidays i r g)
