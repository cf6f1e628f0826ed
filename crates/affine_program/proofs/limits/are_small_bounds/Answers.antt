use Rattle.std.proofs.Common.{◌∙◌, ◌++◌, ◌∷◌, [], ap, sym, subst, take}
use Rattle.std.specs.List.{AllByRecursion}
use Rattle.std.proofs.lemmas.List.{take_more}
use Rattle.iolb_model.specs.Form.{AffineForm}
use Rattle.affine_form.specs.Form.{IsSmallForm}
use Rattle.base_laws.proofs.Lists.{All-push}
use Rattle.affine_program.proofs.limits.are_small_bounds.Goals as goal
use Rattle.iolb_model.specs.declared.limits.TheConstants.{NUMBER_SIZE}

pub loop-pair-preserved : goal.loop-pair-preserved
loop-pair-preserved c =
    let P : AffineForm × AffineForm → Type 0 = λ bounds. IsSmallForm NUMBER_SIZE bounds.0 × IsSmallForm NUMBER_SIZE bounds.1 in
    let bounds = c.args.bounds.now in
    let k = c.loop-pair.pair-index in
    let item = c.pair-item.result in
    subst (AllByRecursion P) (sym (take_more bounds k item c.loop-pair-test.true ∙ ap (λ z. take k bounds ++ z ∷ []) (sym c.pair-item.is)))
    (All-push P (take k bounds) item c.loop-pair.invariant (c.are_both_small.ensures.0 c.if-not-are_both_small.false))
