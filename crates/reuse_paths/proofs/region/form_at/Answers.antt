use Rattle.std.proofs.Common.{◌≡◌, ◌∙◌, ap}
use Rattle.affine_form.specs.Rows.{widened}
use Rattle.claims.proofs.Found.{IfOk-then}
use Rattle.dep_quast.specs.OpenLeaves.{form_at}
use Rattle.reuse_paths.proofs.region.form_at.Goals as goal

pub put-requires-clause-few : goal.put-requires-clause-few
put-requires-clause-few c = c.requires.few

pub put-requires-clause-few_forms : goal.put-requires-clause-few_forms
put-requires-clause-few_forms c = c.requires.few_forms

pub put-requires-clause-over : goal.put-requires-clause-over
put-requires-clause-over c = c.requires.over

pub put-requires-clause-point_over : goal.put-requires-clause-point_over
put-requires-clause-point_over c = c.requires.point_over

pub widened-requires-clause-few : goal.widened-requires-clause-few
widened-requires-clause-few c = c.requires.few

pub widened-requires-clause-room : goal.widened-requires-clause-room
widened-requires-clause-room c = c.in_ok-put.ensures.within

pub returns : goal.returns
returns c =
    IfOk-then c.widened.result (λ wide. wide ≡ widened c.args.vars c.in_ok-put.put) (λ at. at ≡ form_at c.args.vars c.args.point.now c.args.form.now) c.widened.ensures
    (λ wide is. is ∙ ap (widened c.args.vars) c.in_ok-put.ensures.form)
