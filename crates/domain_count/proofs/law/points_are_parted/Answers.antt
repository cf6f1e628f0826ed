use Rattle.domain_count.proofs.Parted.{points-parted}
use Rattle.domain_count.proofs.law.points_are_parted.Goals as goal

pub returns : goal.returns
returns c = points-parted
