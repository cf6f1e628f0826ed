use Rattle.reuse_paths.proofs.FamilyCover.{family-covered}
use Rattle.reuse_paths.proofs.law.family_pieces_cover.Goals as goal

pub returns : goal.returns
returns c = family-covered
