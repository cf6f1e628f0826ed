use Rattle.std.proofs.Common.{◌≡◌, map, take, pos}
use Rattle.std.proofs.Math.IntN.{ℤ, ◌*ℤ◌}
use Rattle.joint_partition.proofs.start_label.scaled.Given as goal

abbrev pub invariant-loop-number : goal.invariant-loop-number
invariant-loop-number l = l.coef.items ≡ map (λ (x : ℤ). pos l.scale *ℤ x) (take l.number-index l.numbers)
