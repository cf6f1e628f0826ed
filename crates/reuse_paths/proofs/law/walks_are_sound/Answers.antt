use Rattle.reuse_paths.proofs.FamilyWalks.{walks-sound}
use Rattle.reuse_paths.proofs.law.walks_are_sound.Goals as goal

pub returns : goal.returns
returns c = walks-sound
