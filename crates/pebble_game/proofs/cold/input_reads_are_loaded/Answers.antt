use Rattle.pebble_game.proofs.InputVertices.{each_read_loaded, input_reads_loaded, input_reads_vertices}
use Rattle.pebble_game.proofs.cold.input_reads_are_loaded.Goals as goal

pub returns-clause-vertices : goal.returns-clause-vertices
returns-clause-vertices c = input_reads_vertices

pub returns-clause-loaded : goal.returns-clause-loaded
returns-clause-loaded c = input_reads_loaded

pub returns-clause-each : goal.returns-clause-each
returns-clause-each c = each_read_loaded
