use Rattle.last_writers.proofs.OutputSound.{outputs-stored}
use Rattle.last_writers.proofs.law.outputs_are_stored.Goals as goal

pub returns : goal.returns
returns c = outputs-stored
