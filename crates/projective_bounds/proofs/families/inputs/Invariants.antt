use Rattle.std.proofs.Common.{◌≡◌, map}
use Rattle.std.specs.Prelude.{option_map}
use Rattle.std.specs.List.{range_with_len}
use Rattle.affine_program.specs.Parts.{meaning}
use Rattle.reuse_paths.specs.Families.{boxed_forms}
use Rattle.projective_bounds.specs.Families.{label_if}
use Rattle.projective_bounds.proofs.families.inputs.Given as goal

abbrev pub invariant-loop-other : goal.invariant-loop-other
invariant-loop-other l = map (option_map boxed_forms) l.all.items ≡ map (label_if (meaning l.program) l.array l.set) (range_with_len 0 l.other)
