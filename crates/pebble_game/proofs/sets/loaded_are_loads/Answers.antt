use Rattle.pebble_game.proofs.Loaded.{different_are_loads, loaded_by_a_load}
use Rattle.pebble_game.proofs.sets.loaded_are_loads.Goals as goal

pub returns-clause-once : goal.returns-clause-once
returns-clause-once c = loaded_by_a_load

pub returns-clause-many : goal.returns-clause-many
returns-clause-many c = different_are_loads
