use Rattle.iolb_commands.proofs.Sampled.{greatest-all, greatest-more, greatest-none}
use Rattle.iolb_commands.proofs.sampling.greatest_narrow.Goals as goal

pub loop-branch-init : goal.loop-branch-init
loop-branch-init c = greatest-none c.args.bound.now.branches c.args.sizes.now c.args.s

pub loop-branch-preserved : goal.loop-branch-preserved
loop-branch-preserved c =
    let found = c.narrow_value.ensures in
    greatest-more c.args.bound.now.branches c.args.sizes.now c.args.s c.loop-branch.branch c.loop-branch.greatest c.max-greatest.result c.narrow_value.result found.0 c.loop-branch.invariant found.1 found.2 c.max-greatest.ensures
