use Rattle.iolb_commands.proofs.Values.{has-value}
use Rattle.iolb_commands.proofs.answer.value_of.Goals as goal

pub unreachable-requires : goal.unreachable-requires
unreachable-requires c = has-value c.args.bound.now c.args.sizes.now c.args.s c.args.branch c.in-Err.field-0 c.requires.met c.requires.narrow c.in-Err.ensures
