use Rattle.std.proofs.Common.{drop}
use Rattle.std.specs.Prelude.{◌↔◌}
use Rattle.std.specs.List.{AllByRecursion}
use Rattle.store_terms.specs.Limits.{IsSmallOutput}
use Rattle.store_terms.proofs.limits.are_small_outputs.Given as goal

abbrev pub invariant-loop-output : goal.invariant-loop-output
invariant-loop-output l = AllByRecursion IsSmallOutput (drop l.output-index l.outputs) ↔ AllByRecursion IsSmallOutput l.outputs
