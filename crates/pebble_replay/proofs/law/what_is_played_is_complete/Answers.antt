use Rattle.pebble_replay.proofs.Playing.{played-complete}
use Rattle.pebble_replay.proofs.law.what_is_played_is_complete.Goals as goal

pub returns : goal.returns
returns c = played-complete
