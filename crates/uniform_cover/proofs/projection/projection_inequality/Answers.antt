use Rattle.uniform_cover.proofs.ProjectionLemmas.{projection_inequality as law}
use Rattle.uniform_cover.proofs.projection.projection_inequality.Goals as goal

pub returns : goal.returns
returns c = law
