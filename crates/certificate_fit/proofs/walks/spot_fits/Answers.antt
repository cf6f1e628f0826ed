use Rattle.std.specs.Prelude.{codes}
use Rattle.std.proofs.Common.{◌≡◌, sym, ◌∙◌, ap, subst, ℕ, List, [], ◌∷◌, ◌++◌, length}
use Rattle.std.proofs.lemmas.List.{length-map}
use Rattle.iolb_model.specs.Form.{AffineForm}
use Rattle.claims.specs.Claims.{Claim, AllHold, Decides}
use Rattle.claims.specs.declared.place.Step.{Step}
use Rattle.claims.specs.declared.place.Step.TheVariants.{Key}
use Rattle.claims.proofs.Found.{decides-later}
use Rattle.affine_program.specs.Domain.{depth_of}
use Rattle.affine_program.specs.Parts.{meaning, statement_of}
use Rattle.certificate_fit.specs.FitClaims.{so_many, names}
use Rattle.certificate_fit.specs.PartFit.{forms_fit}
use Rattle.certificate_fit.proofs.walks.spot_fits.Goals as goal

pub returns : goal.returns
returns c =
    let program = meaning c.args.program.now in
    let place = c.args.place.now in
    let point = c.args.spot.now.point.items in
    let list : List Step = place ++ Key (codes "point") ∷ [] in
    let fits : length point ≡ depth_of program c.args.spot.now.statement =
    sym (ap length c.as_slice-point.ensures.value) ∙ c.if-point-loops_around.false ∙ c.loops_around.ensures.depth in
    let named : ℕ → ℕ → List Claim = λ number count. names (place ++ Key (codes "statement") ∷ []) number count ∷ [] in
    let many : length c.statements-count.result.now ≡ length program.statements = ap length c.statements-count.ensures.statements ∙ sym (length-map c.args.program.now.statements statement_of) in
    decides-later (so_many list (length point) (depth_of program c.args.spot.now.statement) ∷ forms_fit c.args.variables list point) (named c.args.spot.now.statement (length program.statements)) c.name_fits.result
    (fits, subst (λ (fs : List AffineForm). AllHold (forms_fit c.args.variables list fs)) c.as_slice-point.ensures.value c.in_ok-all_forms_fit.ensures)
    (subst (λ (claims : List Claim). Decides claims c.name_fits.result)
    (ap (λ (n : ℕ). named n (length c.statements-count.result.now)) c.from-number.ensures ∙ ap (named c.args.spot.now.statement) many) c.name_fits.ensures)
