use Rattle.std.proofs.Common.{drop}
use Rattle.std.specs.Prelude.{◌↔◌}
use Rattle.std.specs.List.{AllByRecursion}
use Rattle.iolb_check.specs.Limits.{IsSmallBranch}
use Rattle.iolb_check.proofs.term_limits.are_small_branches.Given as goal

abbrev pub invariant-loop-branch : goal.invariant-loop-branch
invariant-loop-branch l = AllByRecursion IsSmallBranch (drop l.branch-index l.branches) ↔ AllByRecursion IsSmallBranch l.branches
