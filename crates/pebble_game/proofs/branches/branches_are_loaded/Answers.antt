use Rattle.pebble_game.proofs.BranchLoads.{branches_loaded}
use Rattle.pebble_game.proofs.branches.branches_are_loaded.Goals as goal

pub returns : goal.returns
returns c = branches_loaded
