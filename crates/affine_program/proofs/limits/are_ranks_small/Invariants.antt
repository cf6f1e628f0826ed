use Rattle.std.proofs.Common.{take, ℕ, List, ◌≤◌}
use Rattle.std.specs.List.{AllByRecursion}
use Rattle.affine_program.proofs.limits.are_ranks_small.Given as goal

abbrev pub invariant-loop-array : goal.invariant-loop-array
invariant-loop-array l = AllByRecursion (λ (array : List ℕ × ℕ). array.1 ≤ 4) (take l.array-index l.arrays)
