use Rattle.std.proofs.Common.{◌≡◌, take}
use Rattle.projective_bounds.specs.Loops.{parameters_of}
use Rattle.projective_bounds.proofs.outline.parameters_of.Given as goal

abbrev pub invariant-loop-level : goal.invariant-loop-level
invariant-loop-level l = l.parameters.items ≡ parameters_of l.below (take l.level-index l.loops)
