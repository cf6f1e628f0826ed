use Rattle.wavefront.proofs.FrontSound.{fronts-sound}
use Rattle.wavefront.proofs.law.valid_fronts_are_sound.Goals as goal

pub returns : goal.returns
returns c = fronts-sound
