use Rattle.std.proofs.Common.{◌≡◌, take, sum_by}
use Rattle.joint_partition.proofs.Factors.{weight_where}
use Rattle.joint_partition.proofs.numbers.weight_in.Given as goal

abbrev pub invariant-loop-family : goal.invariant-loop-family
invariant-loop-family l = l.sum ≡ sum_by (weight_where l.number) (take l.family-index l.families)
