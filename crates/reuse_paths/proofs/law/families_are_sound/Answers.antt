use Rattle.reuse_paths.proofs.FamilyWalks.{families-sound}
use Rattle.reuse_paths.proofs.law.families_are_sound.Goals as goal

pub returns : goal.returns
returns c = families-sound
