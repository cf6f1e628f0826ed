use Rattle.std.proofs.Common.{sym, ◌∙◌, ap, subst}
use Rattle.std.specs.List.{AllByRecursion}
use Rattle.affine_program.specs.Parts.{meaning}
use Rattle.claims.proofs.Found.{handed-refusal}
use Rattle.iolb_check.specs.Claims.{claim_of_certificate}
use Rattle.store_bound.specs.Conditions.{stores_conditions}
use Rattle.store_bound.specs.Counted.{terms_named}
use Rattle.store_bound.specs.WordPieces.{HasWordPiece}
use Rattle.store_bound.proofs.AcceptedStores.{all-met, all-sound, enough, refused-apart}
use Rattle.store_bound.proofs.NamedTerms.{named-pieces}
use Rattle.store_bound.proofs.stores_check.check_stores.Goals as goal
use Rattle.store_terms.specs.Claims.{claim_of_stores}

pub check_apart-requires-clause-terms : goal.check_apart-requires-clause-terms
check_apart-requires-clause-terms c =
    subst (AllByRecursion (HasWordPiece c.args.program.now)) (sym c.named_terms-terms.ensures)
    (named-pieces c.args.program.now c.args.certificate.now c.branch-stores.result c.params-params.ensures.kept c.branches-branches.ensures.limits c.requires.accepted)

pub check_apart-requires-clause-enough : goal.check_apart-requires-clause-enough
check_apart-requires-clause-enough c =
    enough c.args.program.now c.args.certificate.now c.args.stores.now c.outputs-outputs.result.now c.named_terms-terms.result.now c.apart-shown.result.now
    c.outputs-outputs.ensures.outputs (c.named_terms-terms.ensures ∙ ap (terms_named c.args.certificate.now) c.branch-stores.ensures.branch) c.apart-shown.ensures.apart c.in_ok-stores_fit.ensures.fit

pub returns-in_err-check_apart-clause-refused : goal.returns-in_err-check_apart-clause-refused
returns-in_err-check_apart-clause-refused c =
    let r = c.in_err-check_apart.field-0.0 in
    handed-refusal (stores_conditions (meaning c.args.program.now) (claim_of_certificate c.args.certificate.now) (claim_of_stores c.args.stores.now)) r
    c.from_residual-in_err-check_apart.result c.from_residual-in_err-check_apart.ensures
    (refused-apart c.args.program.now c.args.certificate.now c.args.stores.now c.outputs-outputs.result.now c.named_terms-terms.result.now c.apart-shown.result.now
    c.outputs-outputs.ensures.outputs (c.named_terms-terms.ensures ∙ ap (terms_named c.args.certificate.now) c.branch-stores.ensures.branch) c.apart-shown.ensures.apart
    r c.in_ok-stores_fit.ensures.fit c.in_ok-counts.ensures.accepted c.in_err-check_apart.ensures.hold)

pub returns-clause-meets : goal.returns-clause-meets
returns-clause-meets c =
    all-met c.args.program.now c.args.certificate.now c.args.stores.now c.outputs-outputs.result.now c.named_terms-terms.result.now c.apart-shown.result.now
    c.outputs-outputs.ensures.outputs (c.named_terms-terms.ensures ∙ ap (terms_named c.args.certificate.now) c.branch-stores.ensures.branch) c.apart-shown.ensures.apart
    c.in_ok-counts.counts.items c.in_ok-stores_fit.ensures.fit c.in_ok-counts.ensures.accepted c.in_ok-check_apart.ensures.hold c.in_ok-counts.ensures.values

pub returns-clause-sound : goal.returns-clause-sound
returns-clause-sound c =
    all-sound c.args.program.now c.args.certificate.now c.args.stores.now c.outputs-outputs.result.now c.named_terms-terms.result.now c.apart-shown.result.now
    c.outputs-outputs.ensures.outputs (c.named_terms-terms.ensures ∙ ap (terms_named c.args.certificate.now) c.branch-stores.ensures.branch) c.apart-shown.ensures.apart
    c.in_ok-counts.counts.items c.params-params.ensures.kept.well_formed c.requires.sound c.in_ok-counts.ensures.sound c.in_ok-counts.ensures.counted c.in_ok-check_apart.ensures.outputs c.in_ok-check_apart.ensures.words
