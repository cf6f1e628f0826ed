use Rattle.pebble_game.proofs.Loaded.{each_input_loaded, read_input_loaded_once, read_inputs_loaded}
use Rattle.pebble_game.proofs.inputs.read_inputs_are_loaded.Goals as goal

pub returns-clause-each : goal.returns-clause-each
returns-clause-each c = read_input_loaded_once

pub returns-clause-many : goal.returns-clause-many
returns-clause-many c = read_inputs_loaded

pub returns-clause-all : goal.returns-clause-all
returns-clause-all c = each_input_loaded
