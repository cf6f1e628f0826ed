use Rattle.iolb_commands.proofs.Sampled.{narrow-none}
use Rattle.iolb_commands.proofs.sampling.narrow_value.Goals as goal

pub returns-in-Err : goal.returns-in-Err
returns-in-Err c = narrow-none c.args.bound.now c.args.sizes.now c.args.s c.args.branch c.in-Err.field-0 c.requires.met c.in-Err.ensures
