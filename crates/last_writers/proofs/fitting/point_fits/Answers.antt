use Rattle.std.proofs.Common.{rules, ℕ, List, ◌++◌, ◌∷◌, [], codes, subst}
use Rattle.iolb_model.specs.Form.{AffineForm}
use Rattle.affine_program.specs.Parts.{meaning}
use Rattle.claims.specs.Claims.{AllHold}
use Rattle.claims.specs.declared.place.Step.TheVariants.{Key}
use Rattle.certificate_fit.specs.PartFit.{forms_fit}
use Rattle.store_terms.specs.Claims.{claim_of_output}
use Rattle.last_writers.specs.OutputClaims.{output_variables}
use Rattle.last_writers.proofs.fitting.point_fits.Goals as goal

pub returns : goal.returns
returns c =
    let place = c.args.place.now ++ Key (codes "point") ∷ [] in
    let vars = output_variables (meaning c.args.program.now) (claim_of_output c.args.output.now) in
    let given = subst (λ (n : ℕ). AllHold (forms_fit n place c.as_slice-point.result.now)) c.point_variables-vars.ensures c.in_ok-all_forms_fit.ensures in (
      search rules,
      subst (λ (forms : List AffineForm). AllHold (forms_fit vars place forms)) c.as_slice-point.ensures.value given,
    )
