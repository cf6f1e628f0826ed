use Rattle.last_writers.proofs.OutputSound.{valid-sound}
use Rattle.last_writers.proofs.law.valid_outputs_are_sound.Goals as goal

pub returns : goal.returns
returns c = valid-sound
