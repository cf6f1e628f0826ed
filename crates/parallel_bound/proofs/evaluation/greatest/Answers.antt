use Rattle.std.proofs.Common.{sym, subst, List, Vec, Global}
use Rattle.std.specs.List.{AllByRecursion}
use Rattle.iolb_check.specs.declared.bound.Value.{Value}
use Rattle.iolb_check.specs.Bounds.{IsTermValue}
use Rattle.iolb_check.proofs.Lists.{all-map}
use Rattle.parallel_bound.proofs.evaluation.greatest.Goals as goal

pub branch_at-requires-clause-counting : goal.branch_at-requires-clause-counting
branch_at-requires-clause-counting c =
    subst (λ (l : List Value). AllByRecursion (IsTermValue c.args.assumed.now) l) (sym c.as_slice.ensures.value)
    (all-map (λ (terms : Vec Value Global). terms.items) (λ l. AllByRecursion (IsTermValue c.args.assumed.now) l) c.loop-terms.terms-index c.args.branches.now c.terms-item.result
    c.loop-terms-test.true c.terms-item.is c.requires.counting)
