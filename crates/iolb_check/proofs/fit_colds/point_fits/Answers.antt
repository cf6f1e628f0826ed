use Rattle.std.proofs.Common.{rules, ℕ, ◌+◌, List, length, ◌++◌, ◌∷◌, [], codes, subst}
use Rattle.iolb_model.specs.Form.{AffineForm}
use Rattle.affine_program.specs.Parts.{meaning}
use Rattle.claims.specs.Claims.{AllHold}
use Rattle.claims.specs.declared.place.Step.TheVariants.{Key}
use Rattle.certificate_fit.specs.PartFit.{forms_fit}
use Rattle.wavefront.specs.View.{term_of}
use Rattle.iolb_check.proofs.fit_colds.point_fits.Goals as goal

pub returns : goal.returns
returns c =
    let place = c.args.place.now ++ Key (codes "point") ∷ [] in
    let vars = length (meaning c.args.program.now).parameters + length (term_of c.args.cold.now).nest in
    let given = subst (λ (n : ℕ). AllHold (forms_fit n place c.as_slice-point.result.now)) c.point_variables-vars.ensures c.in_ok-all_forms_fit.ensures in (
      search rules,
      subst (λ (forms : List AffineForm). AllHold (forms_fit vars place forms)) c.as_slice-point.ensures.value given,
    )
