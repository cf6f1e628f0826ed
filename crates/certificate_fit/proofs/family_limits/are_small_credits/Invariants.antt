use Rattle.std.proofs.Common.{drop}
use Rattle.std.specs.Prelude.{◌↔◌}
use Rattle.std.specs.List.{AllByRecursion}
use Rattle.certificate_fit.specs.Limits.{IsSmallCredit}
use Rattle.certificate_fit.proofs.family_limits.are_small_credits.Given as goal

abbrev pub invariant-loop-credit : goal.invariant-loop-credit
invariant-loop-credit l = AllByRecursion IsSmallCredit (drop l.credit-index l.credits) ↔ AllByRecursion IsSmallCredit l.credits
