use Rattle.std.proofs.Common.{sym, subst}
use Rattle.std.specs.List.{AllByRecursion}
use Rattle.affine_form.specs.System.{AffineSystem}
use Rattle.iolb_check.specs.Bounds.{IsTermValue}
use Rattle.iolb_check.proofs.bound.Bound.branch_value.Goals as goal

pub branch_sum-requires-clause-counting : goal.branch_sum-requires-clause-counting
branch_sum-requires-clause-counting c = subst (λ (a : AffineSystem). AllByRecursion (IsTermValue a) c.terms-terms.result.now) (sym c.assumed-assumed.ensures.assumed) c.terms-terms.ensures.legal
