use Rattle.std.proofs.Common.{refl}
use Rattle.iolb_commands.specs.Phases.{saying}
use Rattle.iolb_commands.proofs.sampling.sampled.Goals as goal

pub returns-in-Ok-clause-comes : goal.returns-in-Ok-clause-comes
returns-in-Ok-clause-comes c = saying _ _ c.in-Ok.ensures refl
