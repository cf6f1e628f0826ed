use Rattle.std.proofs.Common.{◌≡◌, sym, subst, map, lit<}
use Rattle.std.specs.List.{AllByRecursion}
use Rattle.affine_form.specs.Form.{IsSmallForm}
use Rattle.affine_form.specs.Rows.{widened}
use Rattle.affine_form.specs.System.{AllOver}
use Rattle.claims.proofs.Found.{IfOk-then}
use Rattle.wavefront.proofs.PiecesCover.{wide-over, wide-small}
use Rattle.wavefront.proofs.pieces.point_over.Goals as goal
use Rattle.iolb_model.specs.declared.limits.TheConstants.{PUT_SIZE}

pub returns-clause-over : goal.returns-clause-over
returns-clause-over c =
    IfOk-then c.all_widened.result (λ all. all.items ≡ map (widened c.args.vars) c.args.forms.now) (λ all. AllOver c.args.vars all.items) c.all_widened.ensures
    (λ all e. subst (AllOver c.args.vars) (sym e) (wide-over c.args.vars c.args.forms.now c.requires.within))

pub returns-clause-small : goal.returns-clause-small
returns-clause-small c =
    IfOk-then c.all_widened.result (λ all. all.items ≡ map (widened c.args.vars) c.args.forms.now) (λ all. AllByRecursion (IsSmallForm PUT_SIZE) all.items) c.all_widened.ensures
    (λ all e. subst (AllByRecursion (IsSmallForm PUT_SIZE)) (sym e) (wide-small PUT_SIZE c.args.vars c.args.forms.now (lit< tt) c.requires.small))
