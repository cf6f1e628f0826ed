use Rattle.std.proofs.Common.{sym, subst, ◌≤◌}
use Rattle.iolb_model.specs.Form.{AffineForm}
use Rattle.affine_form.specs.Form.{variables, IsSmallForm}
use Rattle.affine_form.proofs.RowLemmas.{small-substitution, variables-substitution}
use Rattle.affine_form.proofs.rows.put.Goals as goal
use Rattle.iolb_model.specs.declared.limits.TheConstants.{PUT_SIZE}

pub returns-clause-within : goal.returns-clause-within
returns-clause-within c =
    subst (λ (f : AffineForm). variables f ≤ c.args.vars) (sym c.in_ok-put.ensures.form)
    (variables-substitution c.args.form.now c.args.point.now c.args.vars (sym c.requires.over.over) c.requires.point_over)

pub returns-clause-small : goal.returns-clause-small
returns-clause-small c =
    subst (IsSmallForm PUT_SIZE) (sym c.in_ok-put.ensures.form)
    (small-substitution c.args.form.now c.args.point.now c.args.vars c.requires.few_forms c.requires.over c.requires.point_over)
