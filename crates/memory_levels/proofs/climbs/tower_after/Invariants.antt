-- The moves so far were allowed, and left the board.
use Rattle.std.proofs.Common.{◌≡◌, take}
use Rattle.iolb_model.specs.Tower.{tower_left}
use Rattle.memory_levels.specs.Climbs.{AreLegal}
use Rattle.memory_levels.specs.Towers.{IsTowerOf}
use Rattle.memory_levels.proofs.climbs.tower_after.Given as goal

abbrev pub invariant-loop-index : goal.invariant-loop-index
invariant-loop-index l = record {
  capacities : l.tower.capacities ≡ l.capacities;
  board : l.tower.board ≡ tower_left l.graph l.capacities (take l.index l.moves);
  fits : IsTowerOf l.graph l.tower.board;
  legal : AreLegal l.graph l.capacities (take l.index l.moves);
}
