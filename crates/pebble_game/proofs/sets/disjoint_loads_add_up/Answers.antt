use Rattle.pebble_game.proofs.Disjoint.{disjoint_loads}
use Rattle.pebble_game.proofs.sets.disjoint_loads_add_up.Goals as goal

pub returns : goal.returns
returns c = disjoint_loads
