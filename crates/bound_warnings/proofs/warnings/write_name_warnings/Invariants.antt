use Rattle.std.proofs.Common.{◌≡◌, ◌++◌, take}
use Rattle.std.specs.List.{flat_map}
use Rattle.bound_warnings.specs.Names.{name_lines}
use Rattle.bound_warnings.proofs.warnings.write_name_warnings.Given as goal

abbrev pub invariant-loop-name : goal.invariant-loop-name
invariant-loop-name l = l.page ≡ l.initial.page ++ flat_map (name_lines l.file) (take l.name-index l.name-items)
