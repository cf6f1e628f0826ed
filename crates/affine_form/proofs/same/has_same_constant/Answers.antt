use Rattle.std.proofs.Common.{◌∙◌, ap, sym, rules, FitsSigned, of_z}
use Rattle.std.proofs.lemmas.Bool.{eqb-true, eq-eqb}
use mir.Syntax.{w128}
use Rattle.affine_form.proofs.Sizes.{same-bits}
use Rattle.affine_form.proofs.same.has_same_constant.Goals as goal

pub returns : goal.returns
returns c =
    let x = c.constant.result in
    let y = c.constant-2.result in
    let left : FitsSigned w128 x = search rules in
    let right : FitsSigned w128 y = search rules in (
      λ t. sym c.constant.ensures.constant ∙ same-bits x y left right (eqb-true (of_z w128 x) (of_z w128 y) t) ∙ c.constant-2.ensures.constant,
      λ e. eq-eqb (of_z w128 x) (of_z w128 y) (ap (of_z w128) (c.constant.ensures.constant ∙ e ∙ sym c.constant-2.ensures.constant)),
    )
