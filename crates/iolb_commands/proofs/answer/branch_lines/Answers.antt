use Rattle.std.proofs.Common.{map}
use Rattle.iolb_check.specs.Bounds.{terms_of}
use Rattle.iolb_commands.specs.Values.{branch_value_lines}
use Rattle.iolb_commands.proofs.Values.{lines-step}
use Rattle.iolb_commands.proofs.answer.branch_lines.Goals as goal

pub loop-branch-preserved : goal.loop-branch-preserved
loop-branch-preserved c =
    lines-step c.args.bound.now.branches c.loop-branch.branch c.value_of-value.ensures.0 c.args.sizes.now c.args.s c.value_of-value.result
    c.loop-branch.text.items c.push_branch.new.text.items (branch_value_lines 0 (map terms_of c.args.bound.now.branches) c.args.sizes.now c.args.s)
    c.value_of-value.ensures.1 c.value_of-value.ensures.2 c.in_ok-push_branch.ensures c.loop-branch.invariant
