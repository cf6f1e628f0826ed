use Rattle.std.proofs.Common.{drop, map}
use Rattle.std.specs.Prelude.{◌↔◌, option_map}
use Rattle.std.specs.List.{AllByRecursion}
use Rattle.reuse_paths.specs.Families.{boxed_forms}
use Rattle.certificate_fit.specs.Limits.{IsSmallLabel}
use Rattle.certificate_fit.proofs.family_limits.are_small_labels.Given as goal

abbrev pub invariant-loop-label : goal.invariant-loop-label
invariant-loop-label l = AllByRecursion IsSmallLabel (map (option_map boxed_forms) (drop l.label-index l.labels)) ↔ AllByRecursion IsSmallLabel (map (option_map boxed_forms) l.labels)
