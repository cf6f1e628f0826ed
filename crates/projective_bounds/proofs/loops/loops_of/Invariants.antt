use Rattle.std.proofs.Common.{◌≡◌, ◌<◌, take}
use Rattle.std.specs.List.{AllByRecursion}
use Rattle.affine_program.specs.Domain.{depth_of}
use Rattle.affine_program.specs.Parts.{meaning}
use Rattle.projective_bounds.specs.Families.{loops_label}
use Rattle.projective_bounds.proofs.loops.loops_of.Given as goal

abbrev pub invariant-loop-subscript : goal.invariant-loop-subscript
invariant-loop-subscript l = (loops_label (meaning l.program) l.loops.items ≡ take l.subscript-index l.subscript-items) × AllByRecursion (λ level. level < depth_of (meaning l.program) 0) l.loops.items
