use Rattle.reuse_paths.proofs.FamilyCover.{walks-covered}
use Rattle.reuse_paths.proofs.law.walk_pieces_cover.Goals as goal

pub returns : goal.returns
returns c = walks-covered
