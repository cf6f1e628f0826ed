use Rattle.std.proofs.Common.{◌≡◌, ◌+◌, ◌≤◌, map, drop}
use Rattle.std.specs.Prelude.{min}
use Rattle.joint_partition.specs.View.{family_of}
use Rattle.joint_text.specs.Families.{weights_of}
use Rattle.joint_text.proofs.families.weight_of.Given as goal

abbrev pub invariant-loop-family : goal.invariant-loop-family
invariant-loop-family l = record {
  low : l.sum ≤ 255;
  sum : min (l.sum + weights_of (map family_of (drop l.family-index l.families))) 255 ≡ min (weights_of (map family_of l.families)) 255;
}
