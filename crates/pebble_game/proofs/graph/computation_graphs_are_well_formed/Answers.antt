use Rattle.pebble_game.proofs.WellFormed.{computation_graph-well_formed}
use Rattle.pebble_game.proofs.graph.computation_graphs_are_well_formed.Goals as goal

pub returns : goal.returns
returns c = computation_graph-well_formed
