use Rattle.std.proofs.Common.{◌≡◌, ℕ, ◌+◌, ◌≤◌, List, map, sym, ap, ◌∙◌, arith}
use Rattle.std.specs.Prelude.{min}
use Rattle.std.proofs.Math.ListN.{drop_of_length-le}
use Rattle.joint_partition.specs.declared.term.JointFamily.{JointFamily as Family}
use Rattle.joint_partition.specs.View.{family_of}
use Rattle.joint_text.specs.Families.{weights_of}
use Rattle.joint_text.proofs.families.weight_of.Goals as goal

capped : (s : ℕ) → s ≤ 255 → s ≡ min (s + 0) 255
capped s low = grind (arith, low)

pub returns : goal.returns
returns c =
    capped c.loop-family.sum c.loop-family.invariant.low
    ∙ ap (λ (fs : List Family). min (c.loop-family.sum + weights_of (map family_of fs)) 255) (sym (drop_of_length-le c.args.families.now c.loop-family-test.false))
    ∙ c.loop-family.invariant.sum
