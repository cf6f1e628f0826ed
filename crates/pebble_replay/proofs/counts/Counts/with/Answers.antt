use Rattle.std.proofs.Common.{refl}
use Rattle.pebble_replay.proofs.counts.Counts.with.Goals as goal

pub returns : goal.returns
returns c = refl
