use Rattle.std.proofs.Common.{drop, map}
use Rattle.std.specs.Prelude.{◌↔◌}
use Rattle.std.specs.List.{AllByRecursion}
use Rattle.reuse_paths.specs.Families.{family_of}
use Rattle.certificate_fit.specs.Limits.{IsSmallFamily}
use Rattle.certificate_fit.proofs.family_limits.are_small_families.Given as goal

abbrev pub invariant-loop-family : goal.invariant-loop-family
invariant-loop-family l = AllByRecursion IsSmallFamily (map family_of (drop l.family-index l.families)) ↔ AllByRecursion IsSmallFamily (map family_of l.families)
