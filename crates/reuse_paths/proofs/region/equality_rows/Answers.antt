use Rattle.std.proofs.Common.{◌≤◌, arith}
use Rattle.base_laws.proofs.Lists.{All-weaken}
use Rattle.iolb_model.specs.Form.{AffineForm}
use Rattle.affine_form.specs.Form.{variables, IsSmallForm}
use Rattle.affine_form.specs.Rows.{IsSmallOver}
use Rattle.affine_form.proofs.RowLemmas.{small-wider}
use Rattle.iolb_model.specs.declared.limits.TheConstants.{PUT_SIZE}
use Rattle.reuse_paths.proofs.region.equality_rows.Goals as goal

pub equal_rows-requires-clause-one_within : goal.equal_rows-requires-clause-one_within
equal_rows-requires-clause-one_within c =
    All-weaken (IsSmallOver c.args.vars) (λ (form : AffineForm). variables form ≤ c.args.vars) c.args.left.now (λ form h. omega (arith, h.over)) c.requires.left_over

pub equal_rows-requires-clause-other_within : goal.equal_rows-requires-clause-other_within
equal_rows-requires-clause-other_within c =
    All-weaken (IsSmallOver c.args.vars) (λ (form : AffineForm). variables form ≤ c.args.vars) c.args.right.now (λ form h. omega (arith, h.over)) c.requires.right_over

pub equal_rows-requires-clause-one_small : goal.equal_rows-requires-clause-one_small
equal_rows-requires-clause-one_small c =
    All-weaken (IsSmallOver c.args.vars) (IsSmallForm PUT_SIZE) c.args.left.now (λ form h. small-wider form h.small) c.requires.left_over

pub equal_rows-requires-clause-other_small : goal.equal_rows-requires-clause-other_small
equal_rows-requires-clause-other_small c =
    All-weaken (IsSmallOver c.args.vars) (IsSmallForm PUT_SIZE) c.args.right.now (λ form h. small-wider form h.small) c.requires.right_over

pub returns : goal.returns
returns c = record { rows = c.equal_rows.ensures }
