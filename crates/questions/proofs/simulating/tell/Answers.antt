-- `simulating::tell`: both places of the report are written, or none.
use mathlib.Core.Path.{refl, ap₂, ◌∙◌}
use native.Mathlib.Omega.{arith}
use mathlib.Core.List.{[], ◌∷◌}
use lib.IntN.{ℤ}
use mir.Syntax.{w8, w64}
use mir.Val.{Fits, SFits}
use mir.ValLaws.{to_z-of_z, to_z_pos}
use mathlib.Core.Path.{refl}
use Rattle.questions.proofs.Reporting.{two_set}
use borrow.Author.Rules.{rules}
use Rattle.questions.proofs.simulating.tell.Goals as goal

pub returns-in-Ok : goal.returns-in-Ok
returns-in-Ok c =
    let found = c.in-Ok.found in
    let small : Fits w8 found.state = search rules in
    let fits : SFits w64 found.difference = search rules in
    rw c.in-Ok.is (
      refl,
      two_set c.args.report.now _ _ c.requires
          ∙ ap₂ (λ (x y : ℤ). x ∷ y ∷ []) (to_z_pos w64 _ (omega (arith, small.fits))) (to_z-of_z w64 _ fits),
    )
