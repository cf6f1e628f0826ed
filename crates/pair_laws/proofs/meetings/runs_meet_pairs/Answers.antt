use Rattle.pair_laws.proofs.Loads.{runs-meet-pairs}
use Rattle.pair_laws.proofs.meetings.runs_meet_pairs.Goals as goal

pub returns : goal.returns
returns c = runs-meet-pairs c.points_take_meetings.ensures
