use Rattle.std.proofs.Common.{refl}
use Rattle.pebble_replay.proofs.turn.Turn.current.Goals as goal

pub returns : goal.returns
returns c = refl
