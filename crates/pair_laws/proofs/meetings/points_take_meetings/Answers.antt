use Rattle.pair_laws.proofs.Starts.{points-take-meetings}
use Rattle.pair_laws.proofs.meetings.points_take_meetings.Goals as goal

pub returns : goal.returns
returns c = points-take-meetings
